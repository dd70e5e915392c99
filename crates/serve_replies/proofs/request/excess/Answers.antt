-- `excess` meets its contract.
use native.Mathlib.Omega.{arith}
use Rattle.serve_replies.specs.Requests.{excessOf}
use Rattle.serve_replies.proofs.request.excess.Goals as goal

pub returns : goal.returns
unfolding excessOf
returns c = omega arith
