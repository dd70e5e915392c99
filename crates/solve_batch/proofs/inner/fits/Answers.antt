-- `inner::fits` meets its contract.
use mathlib.Core.Path.{sym, ap, ◌∙◌}
use Prim.Native.Nat.{ℕ, ◌*◌}
use borrow.Author.Tests.{eq-eqb, ne_eqb}
use Rattle.solve_batch.proofs.Checks.{too_many, added}
use Rattle.solve_batch.proofs.inner.fits.Goals as goal

pub returns-then-lengths-gt-SETS : goal.returns-then-lengths-gt-SETS
returns-then-lengths-gt-SETS c = too_many _ _ c.if-lengths-gt-SETS.true

pub returns-then-total-sets : goal.returns-then-total-sets
returns-then-total-sets c =
    let e = ap (λ (n : ℕ). n * 4) (sym c.total.ensures.0) in
    added _ _ _ c.if-lengths-gt-SETS.false (eq-eqb _ _ (e ∙ c.if-total-sets.true))

pub returns-else-total-sets : goal.returns-else-total-sets
returns-else-total-sets c =
    let e = ap (λ (n : ℕ). n * 4) (sym c.total.ensures.0) in
    added _ _ _ c.if-lengths-gt-SETS.false (ne_eqb _ _ (λ q. c.if-total-sets.false (sym e ∙ q)))
