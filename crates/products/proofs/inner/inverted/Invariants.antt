use lib.ListN.{drop}
use Rattle.rules.specs.Base.{got}
use Rattle.rules.specs.Products.{inverse}
use Rattle.products.specs.Told.{productOf}
use Rattle.products.proofs.Steps.{Doing}
use Rattle.products.proofs.inner.inverted.Given as goal

abbrev pub invariant-loop-x : goal.invariant-loop-x
invariant-loop-x l = Doing (got (inverse (drop l.x-index (productOf l.fn.a)))) (got (inverse (productOf l.fn.a))) l.x-index l.out
