-- `show_line` meets its contract.
use Rattle.std.proofs.Common.{◌≡◌, ◌-◌, arith}
use Rattle.edition_report.proofs.Bytes.{line_is}
use Rattle.text_spell.proofs.Sinks.{cut, then}
use Rattle.edition_report.proofs.shown.show_line.Goals as goal

pub returns-in_err-put_part : goal.returns-in_err-put_part
returns-in_err-put_part g c =
    let n : c.saturating_sub-before.result ≡ c.args.column - 1 - c.first_shown-first.result = omega arith in
    rw (line_is c.args.column c.first_shown-first.result c.saturating_sub-before.result c.args.line.now c.first_shown-first.ensures n)
    (cut _ _ c.from_residual.ensures.0 c.in_err-put_part.ensures)

pub returns : goal.returns
returns g c =
    let n : c.saturating_sub-before.result ≡ c.args.column - 1 - c.first_shown-first.result = omega arith in
    rw (line_is c.args.column c.first_shown-first.result c.saturating_sub-before.result c.args.line.now c.first_shown-first.ensures n)
    (then _ c.in_ok-put_part.ensures c.put_mark.ensures)
