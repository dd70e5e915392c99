-- The walkers of types, lists of types and fields meet their contracts: one cycle.
use Rattle.std.specs.Prelude.{Some, None}
use Rattle.std.proofs.Common.{sym, subst, ◌∙◌, arith}
use Rattle.records.proofs.Walks.{
  types-none,
  types-fail,
  types-step,
  fields-none,
  fields-other,
  fields-fail,
  fields-type,
  fields-step,
  type-shallow,
  type-open,
  type-open-fail,
  type-basic,
  type-dim,
  type-list,
  type-fn-fail,
  type-fn,
  type-struct-name,
  type-struct-fail,
  type-struct,
  type-other,
}
use Rattle.records.proofs.Closing.{FieldAt, field-closed}
use Rattle.records.specs.Good.{Ends}
use Rattle.records.specs.Places.{seen-in}
use Rattle.rules.specs.Names.{table_of}
use Rattle.records.proofs.reader.Reader.+types.Goals as goal
use Rattle.records.proofs.reader.Reader.+types.Goals.{
  type_end-in-Opened+else-not-holds,
  type_end-in-Basic,
  type_end-in-Dim+in_ok-end-in-Dim,
  type_end-in-Function+in_ok-result-in-Function+in_ok-end-in-Function,
  type_end-in-Struct+else-not-is_held+in_ok-fields-in-Struct+in_ok-end-in-Struct,
  type_end-in-List+in_ok-end-in-List,
}

pub types_end-returns-then-n-eq0 : goal.types_end-returns-then-n-eq0
types_end-returns-then-n-eq0 t c = let a = c.args in types-none a.self a.deep a.at a.n c.if-n-eq0.true

pub types_end-returns-in_err-next : goal.types_end-returns-in_err-next
types_end-returns-in_err-next t c = let a = c.args in rw c.from_residual.ensures (types-fail a.self a.deep a.at a.n c.if-n-eq0.false c.in_err-next.ensures)

pub types_end-returns : goal.types_end-returns
types_end-returns t c = let a = c.args in
    types-step a.self a.deep a.at a.n c.in_ok-next.next c.if-n-eq0.false c.in_ok-next.ensures c.types_end.result c.types_end.ensures

pub fields_end-returns-then-n-eq0 : goal.fields_end-returns-then-n-eq0
fields_end-returns-then-n-eq0 t c = let a = c.args in fields-none a.self a.deep a.at a.n a.before c.if-n-eq0.true

pub fields_end-returns-in_default : goal.fields_end-returns-in_default
fields_end-returns-in_default t c = let a = c.args in
    fields-other a.self a.deep a.at a.n a.before c.if-n-eq0.false (λ x e. c.in_default.not-Field x (c.view_at.ensures ∙ e))

pub fields_end-returns-then-not-name_good : goal.fields_end-returns-then-not-name_good
fields_end-returns-then-not-name_good t c = let a = c.args
    in fields-fail a.self a.deep a.at a.n a.before c.in-Field.x (sym c.in-Field.ensures) c.if-n-eq0.false (sym c.if-not-name_good.ensures)

pub fields_end-overflow_add-at : goal.fields_end-overflow_add-at
fields_end-overflow_add-at t c = omega (arith, seen-in _ _ (sym c.in-Field.ensures) tt)

pub fields_end-returns-in_err-end : goal.fields_end-returns-in_err-end
fields_end-returns-in_err-end t c = let a = c.args in rw c.from_residual.ensures
    (fields-type a.self a.deep a.at a.n a.before c.in-Field.x (sym c.in-Field.ensures) c.if-n-eq0.false
    (λ u e g. c.in_err-end.ensures u e g.type))

pub fields_end-returns-in_err-next : goal.fields_end-returns-in_err-next
fields_end-returns-in_err-next t c = let a = c.args in rw c.from_residual-in_err-next.ensures
    (fields-type a.self a.deep a.at a.n a.before c.in-Field.x (sym c.in-Field.ensures) c.if-n-eq0.false
    (subst (Ends (FieldAt a.self a.deep a.at)) (sym c.in_err-next.ensures) (field-closed a.self a.deep a.at c.in_ok-end.end c.in_ok-end.ensures.1)))

pub fields_end-returns : goal.fields_end-returns
fields_end-returns t c = let a = c.args in
    fields-step a.self a.deep a.at a.n a.before c.in-Field.x (sym c.in-Field.ensures) c.if-n-eq0.false c.in_ok-next.next
    (sym c.if-not-name_good.ensures)
    (subst (Ends (FieldAt a.self a.deep a.at)) (sym c.in_ok-next.ensures) (field-closed a.self a.deep a.at c.in_ok-end.end c.in_ok-end.ensures.1))
    c.fields_end.result c.fields_end.ensures

pub type_end-returns-in_err-deep : goal.type_end-returns-in_err-deep
type_end-returns-in_err-deep t c = let a = c.args in rw c.from_residual.ensures (type-shallow a.self a.deep a.at c.in_err-deep.ensures)

pub type_end-overflow_add-end : goal.type_end-overflow_add-end
type_end-overflow_add-end t c = omega (arith, seen-in _ _ (sym c.in-Opened.ensures) tt)

pub type_end-overflow_add-end-in-Basic : goal.type_end-overflow_add-end-in-Basic
type_end-overflow_add-end-in-Basic t c = omega (arith, seen-in _ _ (sym c.in-Basic.ensures) tt)

pub type_end-overflow_add-at : goal.type_end-overflow_add-at
type_end-overflow_add-at t c = omega (arith, seen-in _ _ (sym c.in-Dim.ensures) tt)

pub type_end-overflow_add-at-in-Function : goal.type_end-overflow_add-at-in-Function
type_end-overflow_add-at-in-Function t c = omega (arith, seen-in _ _ (sym c.in-Function.ensures) tt)

pub type_end-overflow_add-at-in-Struct : goal.type_end-overflow_add-at-in-Struct
type_end-overflow_add-at-in-Struct t c = omega (arith, seen-in _ _ (sym c.in-Struct.ensures) tt)

pub type_end-overflow_add-at-in-List : goal.type_end-overflow_add-at-in-List
type_end-overflow_add-at-in-List t c = omega (arith, seen-in _ _ (sym c.in-List.ensures) tt)

pub type_end-returns-then-not-holds : goal.type_end-returns-then-not-holds
type_end-returns-then-not-holds t c = let a = c.args in let d = c.in_ok-deep in
    type-open-fail a.self a.deep a.at d.deep d.ensures.0 d.ensures.1 _ (sym c.in-Opened.ensures) (sym c.if-not-holds.ensures)

pub type_end-returns-in_err-end-in-Dim : goal.type_end-returns-in_err-end-in-Dim
type_end-returns-in_err-end-in-Dim t c = let a = c.args in let d = c.in_ok-deep in rw c.from_residual-in_err-end-in-Dim.ensures
    (type-dim a.self a.deep a.at d.deep d.ensures.0 d.ensures.1 _ (sym c.in-Dim.ensures) None c.in_err-end-in-Dim.ensures)

pub type_end-returns-in_err-result-in-Function : goal.type_end-returns-in_err-result-in-Function
type_end-returns-in_err-result-in-Function t c = let a = c.args in let d = c.in_ok-deep in rw c.from_residual-in_err-result-in-Function.ensures
    (type-fn-fail a.self a.deep a.at d.deep d.ensures.0 d.ensures.1 _ (sym c.in-Function.ensures) c.in_err-result-in-Function.ensures)

pub type_end-returns-in_err-end-in-Function : goal.type_end-returns-in_err-end-in-Function
type_end-returns-in_err-end-in-Function t c = let a = c.args in let d = c.in_ok-deep in rw c.from_residual-in_err-end-in-Function.ensures
    (type-fn a.self a.deep a.at d.deep d.ensures.0 d.ensures.1 _ c.in_ok-result-in-Function.result (sym c.in-Function.ensures)
    c.in_ok-result-in-Function.ensures None c.in_err-end-in-Function.ensures)

pub type_end-returns-then-not-is_held : goal.type_end-returns-then-not-is_held
unfolding table_of
type_end-returns-then-not-is_held t c = let a = c.args in let d = c.in_ok-deep in let x = c.in-Struct in
    type-struct-name a.self a.deep a.at d.deep d.ensures.0 d.ensures.1 x.x x.n x.m (sym x.ensures) (sym c.if-not-is_held.ensures)

pub type_end-returns-in_err-fields-in-Struct : goal.type_end-returns-in_err-fields-in-Struct
type_end-returns-in_err-fields-in-Struct t c = let a = c.args in let d = c.in_ok-deep in let x = c.in-Struct in
    rw c.from_residual-in_err-fields-in-Struct.ensures
    (type-struct-fail a.self a.deep a.at d.deep d.ensures.0 d.ensures.1 x.x x.n x.m (sym x.ensures) c.in_err-fields-in-Struct.ensures)

pub type_end-returns-in_err-end-in-Struct : goal.type_end-returns-in_err-end-in-Struct
unfolding table_of
type_end-returns-in_err-end-in-Struct t c = let a = c.args in let d = c.in_ok-deep in let x = c.in-Struct in
    rw c.from_residual-in_err-end-in-Struct.ensures
    (type-struct a.self a.deep a.at d.deep d.ensures.0 d.ensures.1 x.x x.n x.m (sym x.ensures) c.in_ok-fields-in-Struct.fields
    (sym c.if-not-is_held.ensures) c.in_ok-fields-in-Struct.ensures None c.in_err-end-in-Struct.ensures)

pub type_end-returns-in_err-end-in-List : goal.type_end-returns-in_err-end-in-List
type_end-returns-in_err-end-in-List t c = let a = c.args in let d = c.in_ok-deep in rw c.from_residual-in_err-end-in-List.ensures
    (type-list a.self a.deep a.at d.deep d.ensures.0 d.ensures.1 (sym c.in-List.ensures) None c.in_err-end-in-List.ensures)

pub type_end-returns-in_default : goal.type_end-returns-in_default
type_end-returns-in_default t c = let a = c.args in let d = c.in_ok-deep in let n = c.in_default in type-other a.self a.deep a.at d.deep d.ensures.0 d.ensures.1
    c.view_at.result n.not-Opened n.not-Basic n.not-Dim n.not-Function n.not-Struct n.not-List (sym c.view_at.ensures)

pub type_end-returns : goal.type_end-returns
unfolding table_of
type_end-returns t c = let a = c.args in let d = c.in_ok-deep in rw c.closed.ensures (elim c.match-view_at.branch [
  | type_end-in-Opened+else-not-holds w ↦
      rw w.end-is (type-open a.self a.deep a.at d.deep d.ensures.0 d.ensures.1 _ (sym w.in-Opened.ensures) (sym w.if-not-holds.ensures))
  | type_end-in-Basic w ↦ rw w.end-is (type-basic a.self a.deep a.at d.deep d.ensures.0 d.ensures.1 _ (sym w.in-Basic.ensures))
  | type_end-in-Dim+in_ok-end-in-Dim w ↦
      rw w.end-is (type-dim a.self a.deep a.at d.deep d.ensures.0 d.ensures.1 _ (sym w.in-Dim.ensures) (Some w.in_ok-end-in-Dim.end) w.in_ok-end-in-Dim.ensures)
  | type_end-in-Function+in_ok-result-in-Function+in_ok-end-in-Function w ↦
      rw w.end-is (type-fn a.self a.deep a.at d.deep d.ensures.0 d.ensures.1 _ w.in_ok-result-in-Function.result (sym w.in-Function.ensures)
      w.in_ok-result-in-Function.ensures (Some w.in_ok-end-in-Function.end) w.in_ok-end-in-Function.ensures)
  | type_end-in-Struct+else-not-is_held+in_ok-fields-in-Struct+in_ok-end-in-Struct w ↦
      rw w.end-is (type-struct a.self a.deep a.at d.deep d.ensures.0 d.ensures.1 w.in-Struct.x w.in-Struct.n w.in-Struct.m (sym w.in-Struct.ensures)
      w.in_ok-fields-in-Struct.fields (sym w.if-not-is_held.ensures) w.in_ok-fields-in-Struct.ensures
      (Some w.in_ok-end-in-Struct.end) w.in_ok-end-in-Struct.ensures)
  | type_end-in-List+in_ok-end-in-List w ↦
      rw w.end-is (type-list a.self a.deep a.at d.deep d.ensures.0 d.ensures.1 (sym w.in-List.ensures)
      (Some w.in_ok-end-in-List.end) w.in_ok-end-in-List.ensures)
])
