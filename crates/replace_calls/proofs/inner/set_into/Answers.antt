-- `inner::set_into` meets its contract.
use Rattle.std.proofs.Common.{refl, rules, arith}
use Rattle.rules.specs.Base.{sum_of, max_of, collect}
use Rattle.rules.specs.Trees.{sizeCon, depthCon}
use Rattle.rules.specs.Writing.{writeCon}
use Rattle.laws.proofs.Size.{set-length}
use Rattle.replace.proofs.Came.{came}
use Rattle.replace_calls.proofs.Making.{listed, set-good, set-left, set-stands, set-made, made-to, made-stop, short-set}
use Rattle.replace_calls.proofs.inner.set_into.Goals as goal

pub fill-requires : goal.fill-requires
fill-requires c =
    let b = c.args.bindings in
    let l = listed _ _ b.all b.fine in
    record { run = (b.all.trees.0, l.run); near = l.near; empty = refl }

pub invariant_of-by : goal.invariant_of-by
invariant_of-by c =
    let b = c.args.bindings in
    record { lent = (_, c.fill.ensures _ _ b.all.trees.0 b.names.good (listed _ _ b.all b.fine)) }

pub replace_constraints-put-requires : goal.replace_constraints-put-requires
replace_constraints-put-requires c = let b = c.args.bindings in set-good _ _ b.all.trees.0 b.fine c.args.set.trees.0 c.requires.good

pub set_fits-requires : goal.set_fits-requires
set_fits-requires c =
    let b = c.args.bindings in
    let f = c.fill.ensures _ _ b.all.trees.0 b.names.good (listed _ _ b.all b.fine) in
    let left = set-left _ _ b.all.trees.0 b.fine c.args.set.trees.0 c.requires.good f (_, search) c.replace_constraints-put.ensures in
    let k = came c.in-Ok.is left in (
      k.value,
      set-stands _ _ b.all.trees.0 b.fine c.args.set.trees.0 c.requires.good refl c.split_at_mut-front.ensures.front_len (search rules) k,
    )

pub returns-in-Ok : goal.returns-in-Ok
returns-in-Ok c =
    let b = c.args.bindings in
    let f = c.fill.ensures _ _ b.all.trees.0 b.names.good (listed _ _ b.all b.fine) in
    let left = set-left _ _ b.all.trees.0 b.fine c.args.set.trees.0 c.requires.good f (_, search) c.replace_constraints-put.ensures in
    let k = came c.in-Ok.is left in
    set-made _ _ c.args.set.trees.0 b.all.trees.0 _ _ (made-to (sum_of sizeCon) (max_of depthCon) (collect writeCon) set-length short-set _ _ refl
    (omega (arith, c.split_at_mut-front.ensures.front_len)) _ _ c.split_at_mut-front.result.1.now _ k (search rules)
    (c.set_fits.ensures k.value
    (set-stands _ _ b.all.trees.0 b.fine c.args.set.trees.0 c.requires.good refl (omega (arith, c.split_at_mut-front.ensures.front_len)) (search rules) k)))

pub returns-in-Err : goal.returns-in-Err
returns-in-Err c =
    let b = c.args.bindings in
    let f = c.fill.ensures _ _ b.all.trees.0 b.names.good (listed _ _ b.all b.fine) in
    let left = set-left _ _ b.all.trees.0 b.fine c.args.set.trees.0 c.requires.good f (_, search) c.replace_constraints-put.ensures in
    set-made _ _ c.args.set.trees.0 b.all.trees.0 _ _ (made-stop (sum_of sizeCon) (max_of depthCon) (collect writeCon) set-length short-set _ _ refl
    (omega (arith, c.split_at_mut-front.ensures.front_len)) _ _ c.in-Err.is left)
