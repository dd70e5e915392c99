-- `names::inner::same_names` meets its contract.
use mathlib.Core.Path.{sym}
use Rattle.names.proofs.Compared.{hit, missed}
use Rattle.names.proofs.inner.same_names.Goals as goal

pub returns-in-Equal : goal.returns-in-Equal
returns-in-Equal c = sym (hit _ _ (rw (c.in-Equal.is, c.name_at-2.ensures.bytes, c.name_at.ensures.bytes) at c.compare.ensures))

pub returns-in-Less : goal.returns-in-Less
returns-in-Less c = sym (missed _ _ c.compare.result (rw (c.name_at-2.ensures.bytes, c.name_at.ensures.bytes) at c.compare.ensures)
    c.in-Less.is)
