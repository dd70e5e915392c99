-- `inner::judge_found` meets its contract.
use Rattle.std.specs.Prelude.{map}
use Rattle.std.proofs.Common.{arith}
use Rattle.rules.specs.Trees.{var}
use Rattle.judge_trials.proofs.Failing.{verdict}
use Rattle.judge.proofs.Found.{ends-in, listed, put-in, marked}
use Rattle.judge.proofs.inner.judge_found.Goals as goal

pub overflow_mul-from : goal.overflow_mul-from
overflow_mul-from c =
    let (bs, (ns, h)) = c.requires.answer_stands in
    omega (arith, ends-in _ _ _ _ _ bs ns h, h.short)

pub offset_bounds-found-from : goal.offset_bounds-found-from
offset_bounds-found-from c =
    let (bs, (ns, h)) = c.requires.answer_stands in
    omega (arith, ends-in _ _ _ _ _ bs ns h, h.short)

pub overflow_mul-to : goal.overflow_mul-to
overflow_mul-to c =
    let (bs, (ns, h)) = c.requires.answer_stands in
    omega (arith, ends-in _ _ _ _ _ bs ns h, h.short)

pub overflow_add-to : goal.overflow_add-to
overflow_add-to c =
    let (bs, (ns, h)) = c.requires.answer_stands in
    omega (arith, ends-in _ _ _ _ _ bs ns h, h.short)

pub slice_bounds-bound_names-end : goal.slice_bounds-bound_names-end
slice_bounds-bound_names-end c =
    let (bs, (ns, h)) = c.requires.answer_stands in
    ends-in _ _ _ _ _ bs ns h

pub first_failing-requires-clause-bindings_tabled : goal.first_failing-requires-clause-bindings_tabled
first_failing-requires-clause-bindings_tabled c =
    let (bs, (ns, h)) = c.requires.answer_stands in
    (bs, put-in _ _ _ _ _ bs ns h (c.fill.ensures _ _ bs c.args.names.good (listed _ _ _ _ _ bs ns h)))

pub first_failing-requires-clause-bounds_marked : goal.first_failing-requires-clause-bounds_marked
first_failing-requires-clause-bounds_marked c =
    let (bs, (ns, h)) = c.requires.answer_stands in
    (ns, marked _ _ _ _ _ bs ns h (c.bound_names-allowed.ensures c.args.names.pool.now c.args.names.table.now (map (λ n. var n) ns)))

pub returns : goal.returns
returns c = λ cs bs ns t h.
    let p = put-in _ _ _ _ _ bs ns h (c.fill.ensures _ _ bs c.args.names.good (listed _ _ _ _ _ bs ns h)) in
    let m = marked _ _ _ _ _ bs ns h (c.bound_names-allowed.ensures c.args.names.pool.now c.args.names.table.now (map (λ n. var n) ns)) in
    let f = c.first_failing.ensures cs bs ns t p m in
    record { verdict = verdict _ _ bs ns cs _ f; place = f }
