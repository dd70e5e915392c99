-- `inner::fresh::is_name` meets its contract.
use mathlib.Core.Path.{refl, sym}
use mathlib.Core.Bool.{or-false}
use Rattle.rules.specs.Base.{any}
use Rattle.lines_entry.proofs.inner.fresh.is_name.Goals as goal

pub returns-in-Some : goal.returns-in-Some
unfolding any
returns-in-Some c = rw c.in-Some.is (sym (or-false _))

pub returns-in-None : goal.returns-in-None
unfolding any
returns-in-None c = rw c.in-None.is refl
