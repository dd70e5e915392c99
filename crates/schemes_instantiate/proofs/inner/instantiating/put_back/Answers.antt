-- `inner::instantiating::put_back` meets its contract: `once` is what the first walk left, `again` the second.
use Rattle.std.proofs.Common.{refl, rules}
use Rattle.std.proofs.lemmas.Result.{err_from_is_err_and}
use Rattle.rules.specs.Names.{table_of, is_held}
use Rattle.rules.specs.Schemes.{renamed, back}
use Rattle.schemes_renaming.specs.Places.{own}
use Rattle.replace.proofs.Came.{came}
use Rattle.replace.proofs.Walks.{told}
use Rattle.schemes_instantiate.proofs.Ready.{
  back-tables,
  own-tables,
  looked,
  put-walked,
  read-walked,
  first-stopped,
  first-held,
  read-near,
  read-is,
  read-good,
  second-stopped,
  all_made,
}
use Rattle.schemes_instantiate.proofs.inner.instantiating.put_back.Goals as goal

pub invariant_of-back : goal.invariant_of-back
invariant_of-back c =
    let h = c.args.handed in
    record { lent = (renamed (back h.numbers.now), back-tables h _ _ c.put_names_back.ensures c.keep_names.ensures.1) }

pub invariant_of-itself : goal.invariant_of-itself
invariant_of-itself c =
    let h = c.args.handed in
    let itself = renamed (own (is_held (table_of h.names.pool.now h.names.table.now))) in
    record { lent = (itself, own-tables h _ _ c.keep_names.ensures.0 c.keep_names.ensures.1) }

pub returns-in_err-replace_type : goal.returns-in_err-replace_type
returns-in_err-replace_type c =
    let h = c.args.handed in
    let k = err_from_is_err_and c.from_residual.result c.from_residual.ensures.1 in
    rw (k.1, k.2)
    (first-stopped h c.args.t.tree.0 c.args.bounds.listed.0 c.requires.ready _
    (put-walked h (_, search) c.keep_names.ensures.1 c.put_names_back.ensures _ (told c.in_err-replace_type.was c.replace_type.ensures)))

pub invariant_of-read : goal.invariant_of-read
invariant_of-read c =
    let h = c.args.handed in
    let y = c.requires.ready in
    let once = came c.in_ok-replace_type.was (put-walked h (_, search) c.keep_names.ensures.1 c.put_names_back.ensures _ c.replace_type.ensures) in
    record {
      near = read-near h c.args.t.tree.0 c.args.bounds.listed.0 y once refl refl;
      tree = (once.value, first-held h c.args.t.tree.0 c.args.bounds.listed.0 y once refl refl);
    }

pub replace_type-requires-2 : goal.replace_type-requires-2
replace_type-requires-2 c =
    let h = c.args.handed in
    let once = came c.in_ok-replace_type.was (put-walked h (_, search) c.keep_names.ensures.1 c.put_names_back.ensures _ c.replace_type.ensures) in
    read-good h c.args.t.tree.0 c.args.bounds.listed.0 c.requires.ready once refl refl _ (search)

pub returns-in_err-replace_type-2 : goal.returns-in_err-replace_type-2
returns-in_err-replace_type-2 c =
    let h = c.args.handed in
    let y = c.requires.ready in
    let once = came c.in_ok-replace_type.was (put-walked h (_, search) c.keep_names.ensures.1 c.put_names_back.ensures _ c.replace_type.ensures) in
    let again = read-walked h (_, search) c.keep_names.ensures.1 c.keep_names.ensures.0
    (read-is h c.args.t.tree.0 c.args.bounds.listed.0 y once refl refl _ (search)) (told c.in_err-replace_type-2.was c.replace_type-2.ensures) in
    let k = err_from_is_err_and c.from_residual-in_err-replace_type-2.result c.from_residual-in_err-replace_type-2.ensures.1 in
    rw (k.1, k.2) (second-stopped h c.args.t.tree.0 c.args.bounds.listed.0 y once _ again)

pub put_bounds-requires : goal.put_bounds-requires
put_bounds-requires c =
    let h = c.args.handed in
    (back h.numbers.now, looked h (_, search) c.keep_names.ensures.1 c.put_names_back.ensures)

pub returns : goal.returns
returns c =
    let h = c.args.handed in
    let y = c.requires.ready in
    let once = came c.in_ok-replace_type.was (put-walked h (_, search) c.keep_names.ensures.1 c.put_names_back.ensures _ c.replace_type.ensures) in
    let again = came c.in_ok-replace_type-2.was (read-walked h (_, search) c.keep_names.ensures.1 c.keep_names.ensures.0
    (read-is h c.args.t.tree.0 c.args.bounds.listed.0 y once refl refl _ (search)) c.replace_type-2.ensures) in
    let b = c.put_bounds.ensures (back h.numbers.now) (looked h (_, search) c.keep_names.ensures.1 c.put_names_back.ensures) in
    let same = b.same in
    all_made h c.args.t.tree.0 c.args.bounds.listed.0 y once refl c.requires.work_room again b (search (rules, same))
