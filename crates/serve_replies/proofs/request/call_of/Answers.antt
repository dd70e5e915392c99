-- `call_of` meets its contract.
use mathlib.Core.Path.{sym, ap, ◌∙◌}
use Rattle.serve_replies.specs.Requests.{servedAs, requestOf}
use Rattle.serve_replies.proofs.request.call_of.Goals as goal

pub returns-in-None : goal.returns-in-None
unfolding requestOf
returns-in-None c = ap (servedAs c.args.h) (sym c.in-None.is ∙ c.from_number.ensures)

pub returns-in-Some : goal.returns-in-Some
unfolding requestOf
returns-in-Some c = c.fitting.ensures ∙ ap (servedAs c.args.h) (sym c.in-Some.is ∙ c.from_number.ensures)
