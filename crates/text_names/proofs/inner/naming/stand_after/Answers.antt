-- `inner::naming::stand_after` meets its contract.
use native.Mathlib.Omega.{arith}
use Rattle.text_names.proofs.Naming.{after-number, new-small}
use Rattle.text_names.proofs.inner.naming.stand_after.Goals as goal

pub overflow_add-result : goal.overflow_add-result
overflow_add-result c = omega (arith, c.new_in.ensures, new-small c.in-Ok.was)

pub returns-in-Ok : goal.returns-in-Ok
returns-in-Ok c = after-number _ _ _ c.in-Ok.is (omega (arith, c.new_in.ensures))
