-- `inner::told_product` meets its contract.
use mathlib.Core.Path.{refl}
use Rattle.products.specs.Told.{given}
use Rattle.calls.specs.Values.{valueShown}
use Rattle.calls.proofs.inner.told_product.Goals as goal

pub returns-in-Ok : goal.returns-in-Ok
unfolding valueShown given
returns-in-Ok c = rw (c.in-Ok.is, c.said.ensures, c.short.ensures, c.put_factors.ensures) refl

pub returns-in-Err : goal.returns-in-Err
unfolding valueShown
returns-in-Err c = rw (c.in-Err.is, c.refused.ensures, c.put_factors-in-Err.ensures, c.scalar.ensures) refl
