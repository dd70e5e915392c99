use Rattle.laws.proofs.Depth.{depth-read}
use Rattle.laws.proofs.read_is_within_the_limit.Goals as goal

pub returns : goal.returns
returns c = depth-read
