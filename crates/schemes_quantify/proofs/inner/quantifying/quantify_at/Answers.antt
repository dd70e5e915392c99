-- `inner::quantifying::quantify_at` meets its contract.
use Rattle.std.proofs.Common.{refl, rules}
use Rattle.std.proofs.lemmas.Result.{err_from_is_err_and}
use Rattle.rules.specs.Schemes.{renamed}
use Rattle.replace.proofs.Walks.{told}
use Rattle.schemes_quantify.proofs.Ready.{renaming, tables, looked, walked, type-stopped, all-long, all_made}
use Rattle.schemes_quantify.proofs.inner.quantifying.quantify_at.Goals as goal

pub invariant_of-by : goal.invariant_of-by
invariant_of-by c =
    let q = c.quantify_names in
    record { lent = (renamed (renaming c.args.handed), tables c.args.handed q.new.places q.new.v q.ensures.0 q.ensures.1) }

pub replace_type-requires : goal.replace_type-requires
replace_type-requires c = c.requires.sound.good

pub put_bounds-requires : goal.put_bounds-requires
put_bounds-requires c =
    let h = c.args.handed in
    let q = c.quantify_names in
    (renaming h, looked h q.ensures.0 q.ensures.1 (_, search))

pub returns-in_err-replace_type : goal.returns-in_err-replace_type
returns-in_err-replace_type c =
    let h = c.args.handed in
    let q = c.quantify_names in
    let k = err_from_is_err_and c.from_residual.result c.from_residual.ensures.1 in
    rw (k.1, k.2)
    (type-stopped h c.args.all c.args.t.tree.0 c.args.bounds.listed.0 _
    (walked h q.ensures.0 q.ensures.1 (_, search) _ (told c.in_err-replace_type.was c.replace_type.ensures)))

pub returns-then-out-gt-RECORDS : goal.returns-then-out-gt-RECORDS
returns-then-out-gt-RECORDS c =
    let h = c.args.handed in
    let q = c.quantify_names in
    all-long h c.args.all c.args.t.tree.0 c.args.bounds.listed.0 c.requires.sound.flat _ refl c.reserve-start.ensures
    (walked h q.ensures.0 q.ensures.1 (_, search) _ (told c.in_ok-replace_type.was c.replace_type.ensures))
    (c.put_bounds.ensures (renaming h) (looked h q.ensures.0 q.ensures.1 (_, search))) c.if-out-gt-RECORDS.true

pub returns : goal.returns
returns c =
    let h = c.args.handed in
    let q = c.quantify_names in
    let p = c.put_bounds.ensures (renaming h) (looked h q.ensures.0 q.ensures.1 (_, search)) in
    let same = p.same in
    rw c.begin.ensures.at
    (all_made h c.args.all c.args.t.tree.0 c.args.bounds.listed.0 c.requires.sound.flat refl c.requires.work_room c.reserve-start.ensures
    (walked h q.ensures.0 q.ensures.1 (_, search) _ (told c.in_ok-replace_type.was c.replace_type.ensures)) p c.if-out-gt-RECORDS.false c.begin.ensures
    (search (rules, same)))
