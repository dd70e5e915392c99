-- `head_of` meets its contract.
use Rattle.records.proofs.Cut.{head-fits, head-unfits}
use Rattle.records.proofs.seen.head_of.Goals as goal

pub returns-then-n-le65535 : goal.returns-then-n-le65535
returns-then-n-le65535 c = head-fits c.args.kind c.args.n c.if-n-le65535.true

pub returns : goal.returns
returns c = head-unfits c.args.kind c.args.n c.if-n-le65535.false
