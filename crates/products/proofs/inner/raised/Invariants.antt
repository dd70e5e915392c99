use Prim.Native.Nat.{ℕ, ◌≤◌}
use lib.ListN.{drop}
use Rattle.rules.specs.Base.{bounded}
use Rattle.rules.specs.Products.{raise}
use Rattle.rules.specs.Trees.{Names}
use Rattle.exponents.specs.Answers.{expOf}
use Rattle.products.specs.Told.{productOf}
use Rattle.products.proofs.Steps.{Doing}
use Rattle.products.proofs.inner.raised.Given as goal

abbrev pub invariant-loop-i : goal.invariant-loop-i
invariant-loop-i l = (l.i ≤ l.a.len)
    × ((ν : Names ℕ) → Doing (raise ν bounded (drop l.i (productOf l.a)) (expOf l.e)) (raise ν bounded (productOf l.a) (expOf l.e)) l.i l.out)
