-- `inner::note` meets its contract.
use Rattle.std.proofs.Common.{arith}
use Rattle.compaction.proofs.Marks.{note-none, note-past, note-put}
use Rattle.compaction.proofs.inner.note.Goals as goal
use Rattle.compaction.proofs.inner.note.Goals.{else-named-via-then-named+else-i-n, else-named-via-else-named}

pub returns-then-i-n : goal.returns-then-i-n
returns-then-i-n c = let a = c.args in rw c.if-named.true (note-put a.m.now a.n a.a c.if-i-n.true (omega (arith, c.requires)))

pub returns-else-named : goal.returns-else-named
returns-else-named c =
    let a = c.args in
    elim c.else-named.branch [
      | else-named-via-then-named+else-i-n w ↦ rw w.if-named.true (note-past a.m.now a.n a.a w.if-i-n.false)
      | else-named-via-else-named w ↦ rw w.if-named.false (note-none a.m.now a.n a.a)
    ]
