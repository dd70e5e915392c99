use Rattle.std.proofs.Common.{◌≡◌, sym, ◌∙◌, ◌-◌, length, take, drop, arith, length-drop}
use Rattle.std.proofs.lemmas.List.{take_all}
use Rattle.edition_certificate_file.specs.Reading.{textRead}
use Rattle.edition_certificate_file.proofs.sheets.Goals as goal

pub returns-then-starts_with : goal.returns-then-starts_with
unfolding textRead
returns-then-starts_with c =
    let text = c.args.text.now in
    let whole : take (length text - 28) (drop 28 text) ≡ drop 28 text = take_all (length text - 28) (drop 28 text) (omega (arith, length-drop 28 text)) in
    rw (sym c.starts_with.ensures.value ∙ c.if-starts_with.true, ← whole) c.sheets_in.ensures
