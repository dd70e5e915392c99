-- `inner::enter_has_field` meets its contract.
use Rattle.text_names.specs.Effects.{kept_then}
use Rattle.text_names.proofs.Effects.{head-above, ready-count, ready_on, ready-next}
use Rattle.text_names.proofs.Inside.{inside-column, inside-spelled}
use Rattle.text_types.proofs.Parts.{from-counted}
use mathlib.Core.List.{[]}
use Rattle.text_lines.proofs.Statements.{inside-quote, hasfield-done}
use Rattle.text_lines.proofs.inner.enter_has_field.Goals as goal

pub enter_type-l-requires : goal.enter_type-l-requires
enter_type-l-requires c =
    ready_on (inside-spelled _) c.mark-b.ensures.reads
    (ready_on (inside-spelled _) c.sign-a.ensures (ready_on inside-column c.next_sign-q.ensures (ready-count 1 _ c.requires c.count-stand.ensures)))

pub read_named-x-requires : goal.read_named-x-requires
read_named-x-requires c =
    ready_on (inside-spelled _) c.mark-e.ensures.reads
    (ready_on (inside-spelled _) c.mark-d.ensures.reads (ready-next c.enter_type-l.ensures.done))

pub quote-g-requires : goal.quote-g-requires
quote-g-requires c =
    (c.read_named-x.ensures []).reads.within

pub enter_type-t-requires : goal.enter_type-t-requires
enter_type-t-requires c =
    ready_on (inside-spelled _) c.mark-f.ensures.reads
    (ready_on inside-quote c.quote-g.ensures (ready-next (c.read_named-x.ensures [])))

pub put_head-requires : goal.put_head-requires
put_head-requires c =
    head-above 1 _ c.requires c.count-stand.ensures
    (kept_then c.enter_type-l.ensures.done.kept (kept_then (c.read_named-x.ensures _).kept c.enter_type-t.ensures.done.kept))

pub returns-clause-done : goal.returns-clause-done
returns-clause-done c =
    hasfield-done c.requires c.next_sign-q.ensures c.sign-a.ensures c.mark-b.ensures.reads
    (from-counted c.next_sign-q.result c.args.from.stand c.place_of.ensures c.count-stand.ensures c.enter_type-l.ensures.done)
    c.mark-d.ensures.reads c.mark-e.ensures.reads (c.read_named-x.ensures _) c.quote-g.ensures
    c.mark-f.ensures.reads c.enter_type-t.ensures.done c.mark-at.ensures.reads _ c.put_head.ensures
