use lib.ListN.{drop}
use Rattle.products.specs.Told.{productOf}
use Rattle.types.proofs.Factors.{ToWrite}
use Rattle.types.proofs.writer.Writer.product.Given as goal

abbrev pub invariant-loop-i : goal.invariant-loop-i
invariant-loop-i l = ToWrite l.fn.self l.self (drop l.i (productOf l.p)) (productOf l.p)
