-- The invariant: the numbers from i on decide.
use mathlib.Core.Path.{sym, ◌∙◌}
use Prim.Native.Nat.{◌<◌}
use native.Mathlib.Omega.{arith}
use lib.ListN.{length}
use Rattle.queries.proofs.MarkLaws.{disjoint-end, both-marked, first-unmarked, second-unmarked}
use Rattle.queries.proofs.name_set.NameSet.is_disjoint.Goals as goal
use Rattle.queries.proofs.name_set.NameSet.is_disjoint.Goals.{else-self-i-via-then-self-i+else-other-i, else-self-i-via-else-self-i}

pub returns-then-other-i : goal.returns-then-other-i
returns-then-other-i c =
    let a = c.args in
    sym (both-marked a.self.now.marks a.other.now.marks c.loop-i.i (omega arith) (omega arith) c.if-self-i.true c.if-other-i.true) ∙ c.loop-i.invariant.1

pub loop-i-preserved : goal.loop-i-preserved
loop-i-preserved c =
    let a = c.args in
    let i = c.loop-i.i in
    let k : i < length a.self.now.marks = omega arith in
    let l : i < length a.other.now.marks = omega arith in (
      omega arith,
      elim c.else-self-i.branch [
        | else-self-i-via-then-self-i+else-other-i w ↦ sym (second-unmarked a.self.now.marks a.other.now.marks i k l w.if-other-i.false) ∙ c.loop-i.invariant.1
        | else-self-i-via-else-self-i w ↦ sym (first-unmarked a.self.now.marks a.other.now.marks i k l w.if-self-i.false) ∙ c.loop-i.invariant.1
      ],
    )

pub returns : goal.returns
returns c =
    let a = c.args in
    sym (disjoint-end a.self.now.marks a.other.now.marks c.loop-i.i (omega arith)) ∙ c.loop-i.invariant.1
