-- `inner::type_into` meets its contract.
use Rattle.std.proofs.Common.{refl, rules, arith}
use Rattle.rules.specs.Trees.{size, depth}
use Rattle.rules.specs.Writing.{writeTy}
use Rattle.laws.proofs.Size.{size-ty}
use Rattle.records.proofs.Cut.{short-ty}
use Rattle.replace.proofs.Came.{came}
use Rattle.replace_calls.proofs.Making.{listed, type-good, type-left, type-stands, made-to, made-stop}
use Rattle.replace_calls.proofs.inner.type_into.Goals as goal

pub fill-requires : goal.fill-requires
fill-requires c =
    let b = c.args.bindings in
    let l = listed _ _ b.all b.fine in
    record { run = (b.all.trees.0, l.run); near = l.near; empty = refl }

pub invariant_of-by : goal.invariant_of-by
invariant_of-by c =
    let b = c.args.bindings in
    record { lent = (_, c.fill.ensures _ _ b.all.trees.0 b.names.good (listed _ _ b.all b.fine)) }

pub replace_type-put-requires : goal.replace_type-put-requires
replace_type-put-requires c = let b = c.args.bindings in type-good _ _ b.all.trees.0 b.fine c.args.t.tree.0 c.requires.good

pub returns-in-Ok : goal.returns-in-Ok
returns-in-Ok c =
    let b = c.args.bindings in
    let f = c.fill.ensures _ _ b.all.trees.0 b.names.good (listed _ _ b.all b.fine) in
    let left = type-left _ _ b.all.trees.0 b.fine c.args.t.tree.0 c.requires.good f (_, search) c.replace_type-put.ensures in
    let k = came c.in-Ok.is left in
    made-to size depth writeTy size-ty short-ty _ _ refl (omega (arith, c.split_at_mut-front.ensures.front_len)) _ _
    c.split_at_mut-front.result.1.now _ k (search rules)
    (c.type_fits.ensures k.value
    (type-stands _ _ b.all.trees.0 b.fine c.args.t.tree.0 c.requires.good refl (omega (arith, c.split_at_mut-front.ensures.front_len)) (search rules) k))

pub returns-in-Err : goal.returns-in-Err
returns-in-Err c =
    let b = c.args.bindings in
    let f = c.fill.ensures _ _ b.all.trees.0 b.names.good (listed _ _ b.all b.fine) in
    let left = type-left _ _ b.all.trees.0 b.fine c.args.t.tree.0 c.requires.good f (_, search) c.replace_type-put.ensures in
    made-stop size depth writeTy size-ty short-ty _ _ refl (omega (arith, c.split_at_mut-front.ensures.front_len)) _ _ c.in-Err.is left
