-- `header_from` meets its contract.
use Rattle.serve_replies.proofs.request.header_from.Goals as goal

pub returns : goal.returns
returns c = cc
