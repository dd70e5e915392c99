-- The writers of types meet their contracts: what is left to write falls.
use Rattle.std.specs.Prelude.{ℕ}
use Rattle.std.proofs.Common.{ap, arith, rules}
use Rattle.rules.specs.TextWriting.{tyText}
use Rattle.rules.specs.Trees.{Fields, Ty, Tys, size, sizeFields, sizeTys}
use Rattle.records.proofs.ByView.{size-pos}
use Rattle.text_spell.proofs.Sinks.{cut, nothing, then}
use Rattle.text_write.specs.Parts.{fromTys}
use Rattle.text_write.proofs.Parts.{next_fields, next_types, no_fields, no_types, struct_text}
use Rattle.text_write.proofs.terms.+types.Goals as goal

-- ══ write_fields ══

pub write_fields-returns-in_default : goal.write_fields-returns-in_default
write_fields-returns-in_default g t c = rw (← c.in_default.ensures, no_fields) (nothing _)

pub write_fields-returns-in_err-put_label : goal.write_fields-returns-in_err-put_label
write_fields-returns-in_err-put_label g t c = rw (← c.in-Some.ensures, next_fields) (cut _ _ c.from_residual.ensures.0 c.in_err-put_label.ensures)

pub write_fields-write_type-requires : goal.write_fields-write_type-requires
unfolding sizeFields
write_fields-write_type-requires g t c κs within =
    let n = ap (λ (fs : Fields ℕ). sizeFields fs) c.in-Some.ensures in
    (omega (arith, c.decreases, n), (search rules, search rules))

pub write_fields-returns-in_err-write_type : goal.write_fields-returns-in_err-write_type
write_fields-returns-in_err-write_type g t c =
    rw (← c.in-Some.ensures, next_fields) (then _ c.in_ok-put_label.ensures (cut _ _ c.from_residual-in_err-write_type.ensures.0 c.in_err-write_type.ensures))

pub write_fields-write_fields-requires : goal.write_fields-write_fields-requires
unfolding sizeFields
write_fields-write_fields-requires g t c κs within =
    let n = ap (λ (fs : Fields ℕ). sizeFields fs) c.in-Some.ensures in
    (omega (arith, c.decreases, n), (search rules, search rules))

pub write_fields-returns : goal.write_fields-returns
write_fields-returns g t c = rw (← c.in-Some.ensures, next_fields) (then _ c.in_ok-put_label.ensures (then _ c.in_ok-write_type.ensures c.write_fields.ensures))

-- ══ write_types ══

pub write_types-returns-in_default : goal.write_types-returns-in_default
write_types-returns-in_default g t c = rw (← c.in_default.ensures, no_types) (nothing _)

pub write_types-returns-in_err-put_comma : goal.write_types-returns-in_err-put_comma
write_types-returns-in_err-put_comma g t c = rw (← c.in-Some.ensures, next_types) (cut _ _ c.from_residual.ensures.0 c.in_err-put_comma.ensures)

pub write_types-write_type-requires : goal.write_types-write_type-requires
unfolding sizeTys
write_types-write_type-requires g t c κs within =
    let n = ap (λ (ts : Tys ℕ). sizeTys ts) c.in-Some.ensures in
    (omega (arith, c.decreases, n), (search rules, search rules))

pub write_types-returns-in_err-write_type : goal.write_types-returns-in_err-write_type
write_types-returns-in_err-write_type g t c =
    rw (← c.in-Some.ensures, next_types) (then _ c.in_ok-put_comma.ensures (cut _ _ c.from_residual-in_err-write_type.ensures.0 c.in_err-write_type.ensures))

pub write_types-write_types-requires : goal.write_types-write_types-requires
unfolding sizeTys
write_types-write_types-requires g t c κs within =
    let n = ap (λ (ts : Tys ℕ). sizeTys ts) c.in-Some.ensures in
    (omega (arith, c.decreases, n, size-pos c.in-Some.t.tree.0), (search rules, search rules))

pub write_types-returns : goal.write_types-returns
write_types-returns g t c = rw (← c.in-Some.ensures, next_types) (then _ c.in_ok-put_comma.ensures (then _ c.in_ok-write_type.ensures c.write_types.ensures))

-- ══ write_type ══

pub write_type-write_function-requires : goal.write_type-write_function-requires
unfolding size
write_type-write_function-requires g t c κs within =
    let n = ap (λ (t : Ty ℕ). size t) c.in-Function.ensures in
    (omega (arith, c.decreases, n), (search rules, search rules))

pub write_type-write_struct-requires : goal.write_type-write_struct-requires
unfolding size
write_type-write_struct-requires g t c κs within =
    let n = ap (λ (t : Ty ℕ). size t) c.in-Struct.ensures in
    (omega (arith, c.decreases, n), (search rules, search rules))

pub write_type-write_list-requires : goal.write_type-write_list-requires
unfolding size
write_type-write_list-requires g t c κs within =
    let n = ap (λ (t : Ty ℕ). size t) c.in-List.ensures in
    (omega (arith, c.decreases, n), (search rules, search rules))

pub write_type-returns-in-Open : goal.write_type-returns-in-Open
unfolding tyText
write_type-returns-in-Open g t c = rw (← c.in-Open.ensures) c.put_open.ensures

pub write_type-returns-in-Basic : goal.write_type-returns-in-Basic
unfolding tyText
write_type-returns-in-Basic g t c = rw (← c.in-Basic.ensures) c.put_basic.ensures

pub write_type-returns-in-Dimension : goal.write_type-returns-in-Dimension
unfolding tyText
write_type-returns-in-Dimension g t c = rw (← c.in-Dimension.ensures) c.put_dimension.ensures

pub write_type-returns-in-Function : goal.write_type-returns-in-Function
write_type-returns-in-Function g t c = rw (← c.in-Function.ensures) c.write_function.ensures

pub write_type-returns-in-Struct : goal.write_type-returns-in-Struct
write_type-returns-in-Struct g t c =
    let s = c.in-Struct in
    rw (← s.ensures, struct_text _ s.x _ _ _ _ s.arguments.trees.1.many s.fields.trees.1.many) c.write_struct.ensures

pub write_type-returns-in-List : goal.write_type-returns-in-List
write_type-returns-in-List g t c = rw (← c.in-List.ensures) c.write_list.ensures

-- ══ write_function ══

pub write_function-returns-in_err-put : goal.write_function-returns-in_err-put
unfolding tyText fromTys
write_function-returns-in_err-put g t c = cut _ _ c.from_residual.ensures.0 c.in_err-put.ensures

pub write_function-write_types-requires : goal.write_function-write_types-requires
write_function-write_types-requires g t c κs within = (omega (arith, c.decreases, size-pos c.args.returned.tree.0), (search rules, search rules))

pub write_function-returns-in_err-write_types : goal.write_function-returns-in_err-write_types
unfolding tyText fromTys
write_function-returns-in_err-write_types g t c =
    then _ c.in_ok-put.ensures (cut _ _ c.from_residual-in_err-write_types.ensures.0 c.in_err-write_types.ensures)

pub write_function-returns-in_err-put-2 : goal.write_function-returns-in_err-put-2
unfolding tyText fromTys
write_function-returns-in_err-put-2 g t c =
    then _ c.in_ok-put.ensures (then _ c.in_ok-write_types.ensures (cut _ _ c.from_residual-in_err-put-2.ensures.0 c.in_err-put-2.ensures))

pub write_function-write_type-requires : goal.write_function-write_type-requires
write_function-write_type-requires g t c κs within = (omega (arith, c.decreases), (search rules, search rules))

pub write_function-returns-in_err-write_type : goal.write_function-returns-in_err-write_type
unfolding tyText fromTys
write_function-returns-in_err-write_type g t c =
    then _ c.in_ok-put.ensures (then _ c.in_ok-write_types.ensures (then _ c.in_ok-put-2.ensures
    (cut _ _ c.from_residual-in_err-write_type.ensures.0 c.in_err-write_type.ensures)))

pub write_function-returns : goal.write_function-returns
unfolding tyText fromTys
write_function-returns g t c =
    then _ c.in_ok-put.ensures (then _ c.in_ok-write_types.ensures (then _ c.in_ok-put-2.ensures (then _ c.in_ok-write_type.ensures c.put-3.ensures)))

-- ══ write_struct ══

pub write_struct-returns-in_err-put_head : goal.write_struct-returns-in_err-put_head
write_struct-returns-in_err-put_head g t c =
    cut _ _ c.from_residual.ensures.0 c.in_err-put_head.ensures

pub write_struct-write_types-requires : goal.write_struct-write_types-requires
write_struct-write_types-requires g t c κs within = (omega (arith, c.decreases), (search rules, search rules))

pub write_struct-returns-in_err-write_types : goal.write_struct-returns-in_err-write_types
write_struct-returns-in_err-write_types g t c =
    then _ c.in_ok-put_head.ensures (cut _ _ c.from_residual-in_err-write_types.ensures.0 c.in_err-write_types.ensures)

pub write_struct-returns-in_err-put_between : goal.write_struct-returns-in_err-put_between
write_struct-returns-in_err-put_between g t c =
    then _ c.in_ok-put_head.ensures (then _ c.in_ok-write_types.ensures
    (cut _ _ c.from_residual-in_err-put_between.ensures.0 c.in_err-put_between.ensures))

pub write_struct-write_fields-requires : goal.write_struct-write_fields-requires
write_struct-write_fields-requires g t c κs within = (omega (arith, c.decreases), (search rules, search rules))

pub write_struct-returns-in_err-write_fields : goal.write_struct-returns-in_err-write_fields
write_struct-returns-in_err-write_fields g t c =
    then _ c.in_ok-put_head.ensures (then _ c.in_ok-write_types.ensures (then _ c.in_ok-put_between.ensures
    (cut _ _ c.from_residual-in_err-write_fields.ensures.0 c.in_err-write_fields.ensures)))

pub write_struct-returns : goal.write_struct-returns
write_struct-returns g t c =
    then _ c.in_ok-put_head.ensures (then _ c.in_ok-write_types.ensures (then _ c.in_ok-put_between.ensures
    (then _ c.in_ok-write_fields.ensures c.put_if.ensures)))

-- ══ write_list ══

pub write_list-returns-in_err-put : goal.write_list-returns-in_err-put
unfolding tyText
write_list-returns-in_err-put g t c = cut _ _ c.from_residual.ensures.0 c.in_err-put.ensures

pub write_list-write_type-requires : goal.write_list-write_type-requires
write_list-write_type-requires g t c κs within = (omega (arith, c.decreases), (search rules, search rules))

pub write_list-returns-in_err-write_type : goal.write_list-returns-in_err-write_type
unfolding tyText
write_list-returns-in_err-write_type g t c = then _ c.in_ok-put.ensures (cut _ _ c.from_residual-in_err-write_type.ensures.0 c.in_err-write_type.ensures)

pub write_list-returns : goal.write_list-returns
unfolding tyText
write_list-returns g t c = then _ c.in_ok-put.ensures (then _ c.in_ok-write_type.ensures c.put-2.ensures)
