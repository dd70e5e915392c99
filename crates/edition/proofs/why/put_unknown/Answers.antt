-- `put_unknown` meets its contract: piece by piece.
use Rattle.text_spell.proofs.Sinks.{then, cut}
use Rattle.edition.specs.Why.{unknownText}
use Rattle.edition.proofs.why.put_unknown.Goals as goal

pub returns-in_err-put_refused : goal.returns-in_err-put_refused
unfolding unknownText
returns-in_err-put_refused g c = then _ c.in_ok-put.ensures (cut _ _ c.from_residual-in_err-put_refused.ensures.0 c.in_err-put_refused.ensures)

pub returns : goal.returns
unfolding unknownText
returns g c = then _ c.in_ok-put.ensures (then _ c.in_ok-put_refused.ensures c.put-2.ensures)
