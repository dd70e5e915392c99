use Rattle.theorems_lines.proofs.Promise.{order-alone}
use Rattle.theorems_lines.proofs.order_alone_decides.Goals as goal

pub returns : goal.returns
returns c = order-alone
