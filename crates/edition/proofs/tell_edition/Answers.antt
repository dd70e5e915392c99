-- `tell_edition` meets its contract: pages, and then the last line.
use Rattle.std.specs.Prelude.{refl}
use Rattle.std.proofs.Common.{rules, ◌≡◌, Err, ◌∙◌}
use Rattle.edition.proofs.Files.{as-many}
use Rattle.edition.proofs.Told.{whole-told, whole-cut}
use Rattle.edition.proofs.tell_edition.Goals as goal

pub returns-in_err-accepted : goal.returns-in_err-accepted
returns-in_err-accepted g c =
    let r : c.from_residual.result ≡ Err c.in_err-accepted.field-0.0 = search rules in
    record {
      told = λ e h. rw r (whole-cut c.args.how.why c.args.how.shown _ _ c.args.sheets.now e h (c.in_err-accepted.ensures.told _ h.holds) _ refl);
      counted = λ e h. rw r tt;
    }

pub returns-in_err-put_total : goal.returns-in_err-put_total
returns-in_err-put_total g c =
    let r : c.from_residual-in_err-put_total.result ≡ Err c.in_err-put_total.field-0.0 = search rules in
    record {
      told = λ e h. rw r (whole-told c.args.how.why c.args.how.shown _ _ c.args.sheets.now e h (c.in_ok-accepted.ensures.told _ h.holds)
          (c.in_ok-accepted.ensures.counted _ h.holds) _
          c.in_err-put_total.ensures);
      counted = λ e h. rw r tt;
    }

pub returns : goal.returns
returns g c = record {
  told = λ e h. whole-told c.args.how.why c.args.how.shown _ _ c.args.sheets.now e h (c.in_ok-accepted.ensures.told _ h.holds)
      (c.in_ok-accepted.ensures.counted _ h.holds) _
      c.in_ok-put_total.ensures;
  counted = λ e h. record {
    sheet-count = as-many c.args.sheets.now e.pages h.holds;
    accepted-count = c.in_ok-accepted.ensures.counted _ h.holds ∙ rw (h.pools, h.tables) refl;
  };
}
