-- `names::inner::same_held` meets its contract: with two digests there are two names.
use mathlib.Core.Path.{sym}
use borrow.Author.Tests.{ne_eqb}
use Rattle.names.proofs.Digests.{apart}
use Rattle.names.proofs.inner.same_held.Goals as goal

pub returns-else-digests-i : goal.returns-else-digests-i
returns-else-digests-i c =
    rw (ne_eqb _ _ c.if-digests-i.false) (sym (apart c.args.i c.args.j c.requires.digests c.requires.held c.requires.other c.if-digests-i.false))
