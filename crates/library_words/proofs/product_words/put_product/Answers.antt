-- `put_product` meets its contract.
use mathlib.Core.Path.{refl, ap, ◌∙◌}
use Prim.Native.Nat.{ℕ}
use Rattle.products.specs.Told.{given}
use Rattle.calls_defined.specs.Saying.{saidAs}
use Rattle.library_words.proofs.product_words.put_product.Goals as goal

pub returns-in-Ok : goal.returns-in-Ok
unfolding given
returns-in-Ok c =
    rw c.in-Ok.is (c.said.ensures ∙ ap (λ (n : ℕ). saidAs n 0 0) c.short.ensures, c.put_factors.ensures)

pub returns-in-Err : goal.returns-in-Err
returns-in-Err c = rw c.in-Err.is (cc, refl)
