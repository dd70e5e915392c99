use Rattle.replace.proofs.Unsaid.{called-at, called-out}
use Rattle.replace.proofs.inner.bound.number_at.Goals as goal

pub returns-then-s-i : goal.returns-then-s-i
returns-then-s-i c = called-out c.args.s.now c.args.i c.if-s-i.true

pub returns : goal.returns
returns c = called-at c.args.s.now c.args.i c.if-s-i.false
