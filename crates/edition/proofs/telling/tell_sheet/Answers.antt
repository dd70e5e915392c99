-- `tell_sheet` meets its contract: by whether its page is shown.
use Rattle.std.proofs.Common.{rules, ◌≡◌, Err}
use Rattle.rules.specs.Names.{table_of}
use Rattle.text_spell.proofs.Sinks.{nothing}
use Rattle.edition.proofs.Pages.{hidden, visible, page-is}
use Rattle.edition.proofs.telling.tell_sheet.Goals as goal

pub returns-then-not-is_shown-clause-told : goal.returns-then-not-is_shown-clause-told
returns-then-not-is_shown-clause-told g c = λ p h.
    let t = table_of c.args.names.pool.now c.args.names.table.now in
    let e = c.is_accepted.ensures _ _ (c.judge_sheet-outcome.ensures.found p h) in
    rw (hidden c.args.shown t p e c.is_shown.ensures (search rules)) (nothing _)

pub returns-in_err-put_page-clause-told : goal.returns-in_err-put_page-clause-told
returns-in_err-put_page-clause-told g c = λ p h.
    let t = table_of c.args.names.pool.now c.args.names.table.now in
    let f = c.judge_sheet-outcome.ensures.found p h in
    let e = c.is_accepted.ensures _ _ f in
    let r : c.from_residual.result ≡ Err c.in_err-put_page.field-0.0 = search rules in
    rw (r, visible c.args.shown t p e c.is_shown.ensures (search rules), ← page-is t p (c.page_of.ensures p h)) (c.in_err-put_page.ensures _ f)

pub returns-clause-told : goal.returns-clause-told
returns-clause-told g c = λ p h.
    let t = table_of c.args.names.pool.now c.args.names.table.now in
    let f = c.judge_sheet-outcome.ensures.found p h in
    let e = c.is_accepted.ensures _ _ f in
    rw (visible c.args.shown t p e c.is_shown.ensures (search rules), ← page-is t p (c.page_of.ensures p h)) (c.in_ok-put_page.ensures _ f)
