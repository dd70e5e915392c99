-- `put_outcome` meets its contract: by what became of the sheet.
use Rattle.std.proofs.Common.{arith}
use Rattle.rules.specs.Reports.{findingText}
use Rattle.text_write.specs.Parts.{name_of}
use Rattle.text_spell.proofs.Sinks.{cut, then}
use Rattle.edition_report.proofs.Found.{agrees-text, remains-text, left-there, solved-in, solved-there}
use Rattle.edition_report.proofs.OnRows.{left-rows, left-text, solved-rows, solved-text}
use Rattle.edition_report.proofs.inner.put_outcome.Goals as goal

pub returns-in-Unseen : goal.returns-in-Unseen
unfolding findingText
returns-in-Unseen g c = λ f h. rw (rw c.in-Unseen.is at h) c.put_unseen.ensures

pub returns-in-Unread : goal.returns-in-Unread
returns-in-Unread g c = λ f h. rw (rw c.in-Unread.is at h) (c.put_unread.ensures _ _ _)

pub returns-in-Denied : goal.returns-in-Denied
returns-in-Denied g c = λ f h. rw (rw c.in-Denied.is at h) (c.put_denied.ensures _ _ _)

pub returns-in-Unjudged : goal.returns-in-Unjudged
returns-in-Unjudged g c = λ f h. rw (rw c.in-Unjudged.is at h) (c.put_unjudged.ensures _ _ _ _)

pub returns-in-Stops : goal.returns-in-Stops
returns-in-Stops g c = λ f h. rw (rw c.in-Stops.is at h) (c.put_stopped.ensures _ _ _ _)

pub returns-in_err-put_accepted-in-Agrees : goal.returns-in_err-put_accepted-in-Agrees
returns-in_err-put_accepted-in-Agrees g c = λ f h.
    let k = rw c.in-Agrees.is at h in
    rw (k.is, agrees-text (name_of c.args.names.pool.now c.args.names.table.now) c.args.page.text.now)
    (cut _ _ c.from_residual.ensures.0 c.in_err-put_accepted-in-Agrees.ensures)

pub overflow_add-bindings : goal.overflow_add-bindings
overflow_add-bindings g c = omega (arith, solved-in c.requires.near (rw c.in-Agrees.is at c.requires.there))

pub put_rows-requires-clause-there : goal.put_rows-requires-clause-there
put_rows-requires-clause-there g c = solved-there (rw c.in-Agrees.is at c.requires.there)

pub returns-in_ok-put_accepted-in-Agrees : goal.returns-in_ok-put_accepted-in-Agrees
returns-in_ok-put_accepted-in-Agrees g c = λ f h.
    let k = rw c.in-Agrees.is at h in
    let lines = c.put_rows.ensures _ (solved-rows _ _ _ k.bs k.ns k.solved) in
    rw (k.is, agrees-text (name_of c.args.names.pool.now c.args.names.table.now) c.args.page.text.now)
    (then _ c.in_ok-put_accepted-in-Agrees.ensures (rw (solved-text (name_of c.args.names.pool.now c.args.names.table.now) k.bs k.ns) at lines))

pub returns-in_err-put_remaining-in-Remains : goal.returns-in_err-put_remaining-in-Remains
returns-in_err-put_remaining-in-Remains g c = λ f h.
    let k = rw c.in-Remains.is at h in
    rw (k.is, remains-text (name_of c.args.names.pool.now c.args.names.table.now) c.args.page.text.now)
    (cut _ _ c.from_residual-in_err-put_remaining-in-Remains.ensures.0 c.in_err-put_remaining-in-Remains.ensures)

pub put_rows-requires-in-Remains-clause-there : goal.put_rows-requires-in-Remains-clause-there
put_rows-requires-in-Remains-clause-there g c = left-there (rw c.in-Remains.is at c.requires.there)

pub returns-in_ok-put_remaining-in-Remains : goal.returns-in_ok-put_remaining-in-Remains
returns-in_ok-put_remaining-in-Remains g c = λ f h.
    let k = rw c.in-Remains.is at h in
    let lines = c.put_rows-in-Remains.ensures _ (left-rows _ k.ds 0 _ k.left) in
    rw (k.is, remains-text (name_of c.args.names.pool.now c.args.names.table.now) c.args.page.text.now)
    (then _ c.in_ok-put_remaining-in-Remains.ensures (rw (left-text (name_of c.args.names.pool.now c.args.names.table.now) k.ds) at lines))
