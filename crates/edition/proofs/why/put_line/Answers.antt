-- `put_line` meets its contract: piece by piece.
use Rattle.text_spell.proofs.Sinks.{then}
use Rattle.edition.proofs.why.put_line.Goals as goal

pub returns : goal.returns
returns g c =
    then _ c.in_ok-put.ensures (then _ c.in_ok-put_shown.ensures (then _ c.in_ok-put_number.ensures (rw c.line_in.ensures at c.put_part.ensures)))
