-- `inner::make_line` meets its contract.
use Rattle.std.proofs.Common.{sym, ap, ◌∙◌}
use Rattle.std.proofs.lemmas.Result.{err_from_is_err_and}
use Rattle.rules.specs.Refusals.{toldBy}
use Rattle.lines_entry.specs.Told.{stepsOf}
use Rattle.lines.proofs.Whole.{came, line_made, refused-line, no-table}
use Rattle.lines.proofs.inner.make_line.Goals as goal

pub type_line-requires : goal.type_line-requires
type_line-requires c =
    let e = sym c.enter_line.ensures ∙ ap (toldBy stepsOf) c.in_ok-steps.was in
    record { read = came _ _ _ _ c.in_ok-names.names _ c.requires.lent (rw c.in_ok-names.was at e); room = c.requires.room }

pub returns-in_err-steps : goal.returns-in_err-steps
returns-in_err-steps c =
    let p = err_from_is_err_and c.from_residual.result c.from_residual.ensures.1 in
    rw (p.1, p.2) (refused-line _ _ _ _ c.args.names _ _ (sym c.enter_line.ensures ∙ ap (toldBy stepsOf) c.in_err-steps.was))

pub returns-in_err-names : goal.returns-in_err-names
returns-in_err-names c =
    no-table _ _ _ _ c.args.names _ _ c.in_err-names.was (sym c.enter_line.ensures ∙ ap (toldBy stepsOf) c.in_ok-steps.was)

pub returns : goal.returns
returns c =
    let e = sym c.enter_line.ensures ∙ ap (toldBy stepsOf) c.in_ok-steps.was in
    rw c.in_ok-names.was (line_made _ _ _ _ c.in_ok-names.names _ (rw c.in_ok-names.was at e) _ _ c.type_line.ensures)
