-- `inner::mark` meets its contract.
use Rattle.std.proofs.Common.{arith}
use Rattle.text_grammar.specs.Points.{marked}
use Rattle.text_grammar.proofs.Points.{stays, none_left, marks-past, mark-end, mark-other, mark-there}
use Rattle.text_grammar.proofs.inner.mark.Goals as goal
use Rattle.text_grammar.proofs.inner.mark.Goals.{else-i-line-via-then-i-line+else-line-i, else-i-line-via-else-i-line}

pub returns-in_default : goal.returns-in_default
returns-in_default c = let n = c.in_default.not-At in
    record { reads = stays c.args.p (marked _) tt (marks-past _) tt n; less = omega (arith, none_left c.args.line.now c.args.p n) }

pub returns-then-line-i : goal.returns-then-line-i
returns-then-line-i c = rw c.in-At.is (mark-there _ c.skip_blanks-i.ensures c.if-i-line.true c.if-line-i.true)

pub returns-else-i-line : goal.returns-else-i-line
returns-else-i-line c = rw c.in-At.is (elim c.else-i-line.branch [
  | else-i-line-via-then-i-line+else-line-i w ↦ mark-other _ c.skip_blanks-i.ensures w.if-i-line.true w.if-line-i.false
  | else-i-line-via-else-i-line w ↦ mark-end _ c.skip_blanks-i.ensures (omega (arith, w.if-i-line.false))
])
