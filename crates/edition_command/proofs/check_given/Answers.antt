use Rattle.std.proofs.Common.{sym, ◌∙◌}
use Rattle.edition_command.proofs.Passing.{agree-pass, all-accepted}
use Rattle.edition_command.proofs.check_given.Goals as goal

pub returns : goal.returns
returns g c = λ accepted. agree-pass _ _ _ _ _ c.in_ok-totals.ensures (all-accepted _ _ _ (sym c.status_of.ensures ∙ accepted))
