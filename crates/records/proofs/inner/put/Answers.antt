-- `put` meets its contract.
use mathlib.Core.Path.{sym}
use lib.Seq.{set_out}
use Rattle.records.proofs.inner.put.Goals as goal

pub returns-else-i-dst : goal.returns-else-i-dst
returns-else-i-dst g c = sym (set_out _ _ _ c.if-i-dst.false)
