-- The functions of types call one another and meet their contracts: types are nested less deep, and the bytes of a line end.
use mathlib.Core.Path.{sym, ◌∙◌}
use mathlib.Core.List.{[]}
use native.Mathlib.Omega.{arith}
use Rattle.std.proofs.Common.{rules}
use Rattle.rules.specs.Grammar.{type}
use Rattle.text_grammar.proofs.Choice.{by-function, by-list, by-structure}
use Rattle.text_names.specs.Effects.{kept_then}
use Rattle.text_names.proofs.Effects.{head-above, ready-few, ready-count, ready_on, ready-next}
use Rattle.text_names.proofs.Inside.{inside-column, inside-spelled}
use Rattle.text_types.proofs.Parts.{from-counted, list_done, function-done}
use Rattle.text_types.proofs.Members.{ready-tested, field-by, structure-done}
use Rattle.text_types.proofs.Rows.{tys-start, tys-turn, tys-fall, tys-done, fields-start, fields-turn, fields-fall, fields-done, some-params, no-params}
use Rattle.text_types.proofs.Rows.{some-types, no-types, some-fields, no_fields, done-by, type-zero, type-some}
use Rattle.text_types.proofs.inner.nested.+types.Goals as goal

-- ══ enter_arguments ══

pub enter_arguments-enter_types-ts-requires : goal.enter_arguments-enter_types-ts-requires
enter_arguments-enter_types-ts-requires t c =
    (omega (arith, c.decreases), ready_on (inside-spelled _) c.mark-a.ensures.reads c.requires)

pub enter_arguments-returns-then-not-next_is-clause-done : goal.enter_arguments-returns-then-not-next_is-clause-done
enter_arguments-returns-then-not-next_is-clause-done t c =
    no-types (type _) c.requires (sym c.if-not-next_is.true ∙ c.next_is.ensures)

pub enter_arguments-returns-clause-done : goal.enter_arguments-returns-clause-done
enter_arguments-returns-clause-done t c =
    some-types (type _) (sym c.if-not-next_is.false ∙ c.next_is.ensures) c.mark-a.ensures.reads
    c.enter_types-ts.ensures.done c.mark-at.ensures.reads

-- ══ enter_field ══

pub enter_field-read_named-x-requires : goal.enter_field-read_named-x-requires
enter_field-read_named-x-requires t c =
    ready_on inside-column c.next_sign-q.ensures c.requires

pub enter_field-rises-risen-requires : goal.enter_field-rises-risen-requires
enter_field-rises-risen-requires t c = (c.read_named-x.ensures []).kept.good

pub enter_field-count-now-requires : goal.enter_field-count-now-requires
enter_field-count-now-requires t c =
    let tested = ready-tested c.rises-risen.result c.place_of-at.result (ready-next (c.read_named-x.ensures [])) c.pass_if-tested.ensures in
    record { small = omega arith; few = ready-few tested }

pub enter_field-mark-c-requires : goal.enter_field-mark-c-requires
enter_field-mark-c-requires t c = (c.read_named-x.ensures []).reads.within

pub enter_field-enter_type-end-requires : goal.enter_field-enter_type-end-requires
enter_field-enter_type-end-requires t c =
    let tested = ready-tested c.rises-risen.result c.place_of-at.result (ready-next (c.read_named-x.ensures [])) c.pass_if-tested.ensures in
    (omega (arith, c.decreases), ready_on (inside-spelled _) c.mark-c.ensures.reads (ready-count 1 _ tested c.count-now.ensures))

pub enter_field-put_head-requires : goal.enter_field-put_head-requires
enter_field-put_head-requires t c =
    let tested = ready-tested c.rises-risen.result c.place_of-at.result (ready-next (c.read_named-x.ensures [])) c.pass_if-tested.ensures in
    head-above 1 _ tested c.count-now.ensures c.enter_type-end.ensures.done.kept

pub enter_field-returns-clause-done : goal.enter_field-returns-clause-done
enter_field-returns-clause-done t c =
    field-by (type _) c.args.from.before c.requires c.next_sign-q.ensures (c.read_named-x.ensures _)
    c.place_of-at.ensures c.rises-risen.ensures c.pass_if-tested.ensures c.count-now.ensures
    c.mark-c.ensures.reads c.enter_type-end.ensures.done _ c.put_head.ensures

-- ══ enter_fields ══

pub enter_fields-enter_field-first-requires : goal.enter_fields-enter_field-first-requires
enter_fields-enter_field-first-requires t c =
    (omega (arith, c.decreases), c.requires)

pub enter_fields-loop-a-init : goal.enter_fields-loop-a-init
enter_fields-loop-a-init t c =
    (fields-start (type _) (ready-next c.enter_field-first.ensures.done) (omega arith), search rules)

pub enter_fields-enter_field-next-requires : goal.enter_fields-enter_field-next-requires
enter_fields-enter_field-next-requires t c =
    (omega (arith, c.decreases), ready_on (inside-spelled _) c.mark-a.ensures.reads c.loop-a.invariant.0.ready)

pub enter_fields-loop-a-smaller : goal.enter_fields-loop-a-smaller
enter_fields-loop-a-smaller t c =
    fields-fall c.loop-a.invariant.0 (sym c.loop-a-test.true ∙ c.next_is.ensures) c.mark-a.ensures
    c.enter_field-next.ensures.done

pub enter_fields-loop-a-preserved : goal.enter_fields-loop-a-preserved
enter_fields-loop-a-preserved t c =
    rw c.one_more-n.ensures (
      fields-turn c.loop-a.invariant.0 (sym c.loop-a-test.true ∙ c.next_is.ensures) c.mark-a.ensures
          c.enter_field-next.ensures.done,
      search rules,
    )

pub enter_fields-returns-clause-done : goal.enter_fields-returns-clause-done
enter_fields-returns-clause-done t c =
    fields-done (type _) c.enter_field-first.ensures.done c.loop-a.invariant.0 (sym c.loop-a-test.false ∙ c.next_is.ensures)

-- ══ enter_function ══

pub enter_function-count-now-requires : goal.enter_function-count-now-requires
enter_function-count-now-requires t c =
    record { small = omega arith; few = ready-few c.requires }

pub enter_function-enter_params-ps-requires : goal.enter_function-enter_params-ps-requires
enter_function-enter_params-ps-requires t c = (
  omega (arith, c.decreases),
  ready_on (inside-spelled _) c.mark-c.ensures.reads
      (ready_on (inside-spelled _) c.mark-b.ensures.reads (ready_on (inside-spelled _) c.sign-a.ensures
      (ready_on inside-column c.next_sign-q.ensures (ready-count 1 _ c.requires c.count-now.ensures)))),
)

pub enter_function-enter_type-t-requires : goal.enter_function-enter_type-t-requires
enter_function-enter_type-t-requires t c = (
  omega (arith, c.decreases),
  ready_on (inside-spelled _) c.sign-g.ensures
      (ready_on (inside-spelled _) c.mark-f.ensures.reads (ready-next c.enter_params-ps.ensures.done)),
)

pub enter_function-put_head-requires : goal.enter_function-put_head-requires
enter_function-put_head-requires t c =
    head-above 1 _ c.requires c.count-now.ensures (kept_then c.enter_params-ps.ensures.done.kept c.enter_type-t.ensures.done.kept)

pub enter_function-returns-clause-done : goal.enter_function-returns-clause-done
enter_function-returns-clause-done t c =
    function-done (type _) c.requires c.next_sign-q.ensures c.sign-a.ensures c.mark-b.ensures.reads
    c.mark-c.ensures.reads
    (from-counted c.next_sign-q.result c.args.from.stand c.place_of.ensures c.count-now.ensures c.enter_params-ps.ensures.done)
    c.mark-f.ensures.reads c.sign-g.ensures c.enter_type-t.ensures.done c.mark-at.ensures.reads _
    c.put_head.ensures

-- ══ enter_list ══

pub enter_list-count-now-requires : goal.enter_list-count-now-requires
enter_list-count-now-requires t c =
    record { small = omega arith; few = ready-few c.requires }

pub enter_list-enter_type-t-requires : goal.enter_list-enter_type-t-requires
enter_list-enter_type-t-requires t c = (
  omega (arith, c.decreases),
  ready_on (inside-spelled _) c.mark-b.ensures.reads
      (ready_on (inside-spelled _) c.sign-a.ensures (ready_on inside-column c.next_sign-q.ensures (ready-count 1 _ c.requires c.count-now.ensures))),
)

pub enter_list-put_head-requires : goal.enter_list-put_head-requires
enter_list-put_head-requires t c =
    head-above 1 _ c.requires c.count-now.ensures c.enter_type-t.ensures.done.kept

pub enter_list-returns-clause-done : goal.enter_list-returns-clause-done
enter_list-returns-clause-done t c =
    list_done (type _) c.requires c.next_sign-q.ensures c.sign-a.ensures c.mark-b.ensures.reads
    (from-counted c.next_sign-q.result c.args.from.stand c.place_of.ensures c.count-now.ensures c.enter_type-t.ensures.done)
    c.mark-at.ensures.reads _ c.put_head.ensures

-- ══ enter_members ══

pub enter_members-enter_fields-fs-requires : goal.enter_members-enter_fields-fs-requires
enter_members-enter_fields-fs-requires t c =
    (omega (arith, c.decreases), ready_on (inside-spelled _) c.mark-a.ensures.reads c.requires)

pub enter_members-returns-then-not-next_is-clause-done : goal.enter_members-returns-then-not-next_is-clause-done
enter_members-returns-then-not-next_is-clause-done t c =
    no_fields (type _) c.requires (sym c.if-not-next_is.true ∙ c.next_is.ensures)

pub enter_members-returns-clause-done : goal.enter_members-returns-clause-done
enter_members-returns-clause-done t c =
    some-fields (type _) (sym c.if-not-next_is.false ∙ c.next_is.ensures) c.mark-a.ensures.reads
    c.enter_fields-fs.ensures.done c.mark-at.ensures.reads

-- ══ enter_params ══

pub enter_params-returns-then-next_is-clause-done : goal.enter_params-returns-then-next_is-clause-done
enter_params-returns-then-next_is-clause-done t c =
    no-params (type _) c.requires (sym c.if-next_is.true ∙ c.next_is.ensures)

pub enter_params-enter_types-requires : goal.enter_params-enter_types-requires
enter_params-enter_types-requires t c =
    (omega (arith, c.decreases), c.requires)

pub enter_params-returns-clause-done : goal.enter_params-returns-clause-done
enter_params-returns-clause-done t c =
    some-params (type _) (sym c.if-next_is.false ∙ c.next_is.ensures) c.enter_types.ensures.done

-- ══ enter_structure ══

pub enter_structure-count-now-requires : goal.enter_structure-count-now-requires
enter_structure-count-now-requires t c =
    record { small = omega arith; few = ready-few c.requires }

pub enter_structure-read_named-x-requires : goal.enter_structure-read_named-x-requires
enter_structure-read_named-x-requires t c =
    ready_on (inside-spelled _) c.mark-a.ensures.reads
    (ready_on inside-column c.next_sign-q.ensures (ready-count 1 _ c.requires c.count-now.ensures))

pub enter_structure-enter_arguments-ts-requires : goal.enter_structure-enter_arguments-ts-requires
enter_structure-enter_arguments-ts-requires t c =
    (omega (arith, c.decreases), ready-next (c.read_named-x.ensures []))

pub enter_structure-enter_members-fs-requires : goal.enter_structure-enter_members-fs-requires
enter_structure-enter_members-fs-requires t c =
    (omega (arith, c.decreases), ready-next c.enter_arguments-ts.ensures.done)

pub enter_structure-put_head-requires : goal.enter_structure-put_head-requires
enter_structure-put_head-requires t c =
    head-above 1 _ c.requires c.count-now.ensures
    (kept_then (c.read_named-x.ensures _).kept (kept_then c.enter_arguments-ts.ensures.done.kept c.enter_members-fs.ensures.done.kept))

pub enter_structure-returns-clause-done : goal.enter_structure-returns-clause-done
enter_structure-returns-clause-done t c =
    structure-done (type _) c.requires c.next_sign-q.ensures c.mark-a.ensures.reads
    (from-counted c.next_sign-q.result c.args.from.stand c.place_of.ensures c.count-now.ensures (c.read_named-x.ensures _))
    c.enter_arguments-ts.ensures.done c.enter_members-fs.ensures.done _ c.put_head.ensures

-- ══ enter_type ══

pub enter_type-returns-then-d-eq0-clause-done : goal.enter_type-returns-then-d-eq0-clause-done
enter_type-returns-then-d-eq0-clause-done t c =
    type-zero _ c.if-d-eq0.true c.next_sign-q.ensures
    (c.too_deep.ensures _ _ _ (ready_on inside-column c.next_sign-q.ensures c.requires))

pub enter_type-enter_function-requires : goal.enter_type-enter_function-requires
enter_type-enter_function-requires t c =
    (omega (arith, c.decreases, c.if-d-eq0.false), ready_on inside-column c.next_sign-q.ensures c.requires)

pub enter_type-returns-in-70-clause-done : goal.enter_type-returns-in-70-clause-done
enter_type-returns-in-70-clause-done t c =
    type-some _ c.if-d-eq0.false c.next_sign-q.ensures
    (done-by (by-function _ (sym c.byte_at.ensures ∙ c.in-70.is)) c.enter_function.ensures.done)

pub enter_type-enter_list-requires : goal.enter_type-enter_list-requires
enter_type-enter_list-requires t c =
    (omega (arith, c.decreases, c.if-d-eq0.false), ready_on inside-column c.next_sign-q.ensures c.requires)

pub enter_type-returns-in-76-clause-done : goal.enter_type-returns-in-76-clause-done
enter_type-returns-in-76-clause-done t c =
    type-some _ c.if-d-eq0.false c.next_sign-q.ensures
    (done-by (by-list _ (sym c.byte_at.ensures ∙ c.in-76.is)) c.enter_list.ensures.done)

pub enter_type-enter_structure-requires : goal.enter_type-enter_structure-requires
enter_type-enter_structure-requires t c =
    (omega (arith, c.decreases, c.if-d-eq0.false), ready_on inside-column c.next_sign-q.ensures c.requires)

pub enter_type-returns-in-64-clause-done : goal.enter_type-returns-in-64-clause-done
enter_type-returns-in-64-clause-done t c =
    type-some _ c.if-d-eq0.false c.next_sign-q.ensures
    (done-by (by-structure _ (sym c.byte_at.ensures ∙ c.in-64.is)) c.enter_structure.ensures.done)

pub enter_type-enter_leaf-requires : goal.enter_type-enter_leaf-requires
enter_type-enter_leaf-requires t c =
    ready_on inside-column c.next_sign-q.ensures c.requires

pub enter_type-returns-in_default-clause-done : goal.enter_type-returns-in_default-clause-done
enter_type-returns-in_default-clause-done t c =
    let b = c.byte_at.ensures in
    type-some _ c.if-d-eq0.false c.next_sign-q.ensures
    (c.enter_leaf.ensures _ (λ h. search (rules, b ∙ h)) (λ h. search (rules, b ∙ h)) (λ h. search (rules, b ∙ h)))

-- ══ enter_types ══

pub enter_types-enter_type-first-requires : goal.enter_types-enter_type-first-requires
enter_types-enter_type-first-requires t c =
    (omega (arith, c.decreases), c.requires)

pub enter_types-loop-a-init : goal.enter_types-loop-a-init
enter_types-loop-a-init t c =
    (tys-start (type _) (ready-next c.enter_type-first.ensures.done) (omega arith), search rules)

pub enter_types-enter_type-end-requires : goal.enter_types-enter_type-end-requires
enter_types-enter_type-end-requires t c =
    (omega (arith, c.decreases), ready_on (inside-spelled _) c.mark-a.ensures.reads c.loop-a.invariant.0.ready)

pub enter_types-loop-a-smaller : goal.enter_types-loop-a-smaller
enter_types-loop-a-smaller t c =
    tys-fall c.loop-a.invariant.0 (sym c.loop-a-test.true ∙ c.next_is.ensures) c.mark-a.ensures c.enter_type-end.ensures.done

pub enter_types-loop-a-preserved : goal.enter_types-loop-a-preserved
enter_types-loop-a-preserved t c =
    rw c.one_more-n.ensures
    (tys-turn c.loop-a.invariant.0 (sym c.loop-a-test.true ∙ c.next_is.ensures) c.mark-a.ensures c.enter_type-end.ensures.done, search rules)

pub enter_types-returns-clause-done : goal.enter_types-returns-clause-done
enter_types-returns-clause-done t c =
    tys-done (type _) c.enter_type-first.ensures.done c.loop-a.invariant.0 (sym c.loop-a-test.false ∙ c.next_is.ensures)
