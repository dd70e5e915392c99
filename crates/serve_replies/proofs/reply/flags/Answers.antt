-- `flags` meets its contract.
use Rattle.serve_replies.proofs.reply.flags.Goals as goal

pub returns : goal.returns
returns c = rw (c.flag-rest.ensures.0, c.flag-zero.ensures.0, c.flag-same.ensures.0, c.all_from.ensures, c.all_from-2.ensures, c.all_from-3.ensures)
