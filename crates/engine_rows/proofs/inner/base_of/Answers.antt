-- `inner::base_of` meets its contract.
use mathlib.Core.Path.{ap, sym}
use Rattle.engine_rows.specs.Columns.{basesAtom}
use Rattle.engine_rows.proofs.inner.base_of.Goals as goal

pub returns-in-Base : goal.returns-in-Base
returns-in-Base c = sym (ap basesAtom c.in-Base.is)
