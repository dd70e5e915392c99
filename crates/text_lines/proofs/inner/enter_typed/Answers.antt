-- `inner::enter_typed` meets its contract.
use mathlib.Core.Path.{sym, subst, ◌∙◌}
use Rattle.text_names.specs.Effects.{kept_then}
use Rattle.text_names.proofs.Effects.{head-above, ready-count, ready_on, ready-next}
use Rattle.text_names.proofs.Inside.{inside-column, inside-spelled}
use Rattle.text_types.proofs.Parts.{from-counted}
use Rattle.text_lines.specs.Statements.{SaysScalar}
use Rattle.text_lines.proofs.Statements.{equal-done, dim-done, scalar-done, none_done}
use Rattle.text_lines.proofs.inner.enter_typed.Goals as goal

pub enter_type-l-requires : goal.enter_type-l-requires
enter_type-l-requires c =
    ready_on inside-column c.next_sign-q.ensures (ready-count 1 _ c.requires c.count-stand.ensures)

pub enter_type-t-requires : goal.enter_type-t-requires
enter_type-t-requires c =
    ready_on (inside-spelled _) c.mark-at.ensures.reads
    (ready_on inside-column c.next_sign-e.ensures (ready-next c.enter_type-l.ensures.done))

pub put_head-requires : goal.put_head-requires
put_head-requires c =
    head-above 1 _ c.requires c.count-stand.ensures (kept_then c.enter_type-l.ensures.done.kept c.enter_type-t.ensures.done.kept)

pub returns-then-b-eq126-clause-done : goal.returns-then-b-eq126-clause-done
returns-then-b-eq126-clause-done c =
    equal-done c.requires c.next_sign-q.ensures
    (from-counted c.next_sign-q.result c.args.from.stand c.place_of.ensures c.count-stand.ensures c.enter_type-l.ensures.done)
    c.next_sign-e.ensures (sym c.byte_at-b.ensures ∙ c.if-b-eq126.true) c.mark-at.ensures.reads
    c.enter_type-t.ensures.done _ c.put_head.ensures

pub put_head-requires-then-b-eq58 : goal.put_head-requires-then-b-eq58
put_head-requires-then-b-eq58 c =
    head-above 1 _ c.requires c.count-stand.ensures c.enter_type-l.ensures.done.kept

pub returns-then-b-eq58-clause-done : goal.returns-then-b-eq58-clause-done
returns-then-b-eq58-clause-done c =
    dim-done c.requires c.next_sign-q.ensures
    (from-counted c.next_sign-q.result c.args.from.stand c.place_of.ensures c.count-stand.ensures c.enter_type-l.ensures.done)
    c.next_sign-e.ensures (sym c.byte_at-b.ensures ∙ c.if-b-eq58.true) c.mark-m.ensures.reads
    c.sign-at.ensures _ c.put_head-then-b-eq58.ensures

pub put_head-requires-then-says_scalar : goal.put_head-requires-then-says_scalar
put_head-requires-then-says_scalar c =
    head-above 1 _ c.requires c.count-stand.ensures c.enter_type-l.ensures.done.kept

pub returns-then-says_scalar-clause-done : goal.returns-then-says_scalar-clause-done
returns-then-says_scalar-clause-done c =
    let says = subst (SaysScalar c.args.line.now c.next_sign-q.result c.byte_at-b.result) c.if-says_scalar.true
    c.says_scalar.ensures in
    scalar-done c.requires c.next_sign-q.ensures
    (from-counted c.next_sign-q.result c.args.from.stand c.place_of.ensures c.count-stand.ensures c.enter_type-l.ensures.done)
    c.next_sign-e.ensures (sym c.byte_at-b.ensures ∙ says.0) says.1 c.mark-m-then-says_scalar.ensures.reads
    c.sign-at-then-says_scalar.ensures _ c.put_head-then-says_scalar.ensures

pub returns-clause-done : goal.returns-clause-done
returns-clause-done c =
    rw c.refuse-at.ensures
    (none_done c.requires c.next_sign-q.ensures
    (from-counted c.next_sign-q.result c.args.from.stand c.place_of.ensures c.count-stand.ensures c.enter_type-l.ensures.done)
    c.next_sign-e.ensures (λ e. c.if-b-eq126.false (c.byte_at-b.ensures ∙ e))
    (λ e. c.if-b-eq58.false (c.byte_at-b.ensures ∙ e))
    (λ e. subst (SaysScalar c.args.line.now c.next_sign-q.result c.byte_at-b.result) c.if-says_scalar.false c.says_scalar.ensures (c.byte_at-b.ensures ∙ e)))
