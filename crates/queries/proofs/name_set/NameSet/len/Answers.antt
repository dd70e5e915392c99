-- The invariant: the marks so far, and those that are left, are all of them.
use Rattle.std.proofs.Common.{arith}
use Rattle.queries.proofs.Sizes.{marked-here, unmarked-here, none-behind}
use Rattle.queries.proofs.name_set.NameSet.len.Goals as goal
use Rattle.queries.proofs.name_set.NameSet.len.Goals.{then-self-i, else-self-i}

pub loop-i-init : goal.loop-i-init
loop-i-init c = (omega arith, omega arith, omega arith)

pub loop-i-preserved : goal.loop-i-preserved
loop-i-preserved c =
    let m = c.args.self.now.marks in
    let i = c.loop-i.i in
    elim c.if-self-i.branch [
      | then-self-i w ↦ (
        omega (arith, w.n-is, c.loop-i.invariant.0),
        omega (arith, c.loop-i-test.true),
        omega (arith, w.n-is, c.loop-i.invariant.2, marked-here m i (omega arith) w.if-self-i.true),
      )
      | else-self-i w ↦ (
        omega (arith, w.n-is, c.loop-i.invariant.0),
        omega (arith, c.loop-i-test.true),
        omega (arith, w.n-is, c.loop-i.invariant.2, unmarked-here m i (omega arith) w.if-self-i.false),
      )
    ]

pub returns : goal.returns
returns c = omega (arith, c.loop-i.invariant.2, none-behind c.args.self.now.marks c.loop-i.i (omega arith))
