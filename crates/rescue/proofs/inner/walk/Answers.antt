-- `inner::walk` meets its contract: the loop says what is still to be written.
use Prim.Native.Nat.{ℕ, ◌≤◌, ◌+◌, ◌/◌}
use mathlib.Core.Path.{refl, ◌∙◌}
use native.Mathlib.Omega.{arith}
use mathlib.Core.List.{List}
use lib.ListN.{length}
use Rattle.records.specs.Good.{Ends, GoodCon}
use Rattle.std.specs.Prelude.{Some}
use Rattle.records.proofs.Moves.{con-moves}
use Rattle.rescue.proofs.Steps.{left-start, left-sound, left-lost, left-done}
use Rattle.records.specs.Found.{Words32}
use Rattle.rules.specs.Trees.{Con}
use Rattle.rescue.proofs.inner.walk.Goals as goal

-- the constraint that was found
record Found (pool table s : List ℕ) (at e : ℕ) : Type 0 where
  con : Con ℕ
  good : GoodCon pool table 0 s at con e
  moves : at + 1 ≤ e
  within : e ≤ length s / 4

found : (pool table s : List ℕ) (at e : ℕ) → Ends (GoodCon pool table 0 s at) (Some e) → Found pool table s at e
found pool table s at e u =
    let v = con-moves pool table 0 s at u.0 e u.1 in
    record { con = u.0; good = u.1; moves = omega (arith, v.0); within = v.1 }

pub loop-at-init : goal.loop-at-init
loop-at-init c =
    let a = c.args in (
      refl,
      omega arith,
      omega arith,
      refl,
      refl,
      left-start a.names.pool.now a.names.table.now a.s.now (record { word = λ i. (c.type_inv.s i).fits }) a.kept.now a.skipped.now,
    )

pub overflow_mul-at : goal.overflow_mul-at
overflow_mul-at c = let f : Found c.args.names.pool.now c.args.names.table.now c.args.s.now c.loop-at.at c.in-Some.e = found _ _ _ _ _ c.in-Some.ensures in
    omega (arith, f.moves, f.within, c.requires)

pub overflow_mul-e : goal.overflow_mul-e
overflow_mul-e c = let f : Found c.args.names.pool.now c.args.names.table.now c.args.s.now c.loop-at.at c.in-Some.e = found _ _ _ _ _ c.in-Some.ensures in
    omega (arith, f.within, c.requires)

pub overflow_mul-k : goal.overflow_mul-k
overflow_mul-k c = let f : Found c.args.names.pool.now c.args.names.table.now c.args.s.now c.loop-at.at c.in-Some.e = found _ _ _ _ _ c.in-Some.ensures in
    omega (arith, f.moves, f.within, c.loop-at.invariant.2, c.requires)

pub put_words-requires : goal.put_words-requires
put_words-requires c = let f : Found c.args.names.pool.now c.args.names.table.now c.args.s.now c.loop-at.at c.in-Some.e = found _ _ _ _ _ c.in-Some.ensures in
    record {
      order = omega (arith, f.moves);
      within = omega (arith, f.within);
      few = omega (arith, c.requires);
      place = omega (arith, f.moves, f.within, c.loop-at.invariant.2, c.requires);
    }

pub overflow_sub-k : goal.overflow_sub-k
overflow_sub-k c = let f : Found c.args.names.pool.now c.args.names.table.now c.args.s.now c.loop-at.at c.in-Some.e = found _ _ _ _ _ c.in-Some.ensures in
    omega (arith, f.moves)

pub overflow_add-k : goal.overflow_add-k
overflow_add-k c = let f : Found c.args.names.pool.now c.args.names.table.now c.args.s.now c.loop-at.at c.in-Some.e = found _ _ _ _ _ c.in-Some.ensures in
    omega (arith, f.moves, f.within, c.loop-at.invariant.2, c.requires)

pub loop-at-smaller-in-Some : goal.loop-at-smaller-in-Some
loop-at-smaller-in-Some c = let f : Found c.args.names.pool.now c.args.names.table.now c.args.s.now c.loop-at.at c.in-Some.e =
    found _ _ _ _ _ c.in-Some.ensures in
    omega (arith, f.moves, f.within)

pub loop-at-preserved-in-Some : goal.loop-at-preserved-in-Some
loop-at-preserved-in-Some c = let f : Found c.args.names.pool.now c.args.names.table.now c.args.s.now c.loop-at.at c.in-Some.e =
    found _ _ _ _ _ c.in-Some.ensures in
    let words32 : Words32 c.args.s.now = record { word = λ i. (c.type_inv.s i).fits } in
    let a = c.args in
    let l = c.loop-at in
    let p = c.put_words in (
      refl,
      f.within,
      omega (arith, f.moves, l.invariant.2),
      p.auto.dst ∙ l.invariant.3,
      l.invariant.4,
      left-sound a.names.pool.now a.names.table.now a.s.now (words32) a.kept.now a.skipped.now l.kept l.skipped l.at l.k l.m
          (omega arith) c.in-Some.e f.con f.good _ p.ensures l.invariant.5,
    )

pub overflow_cast-at : goal.overflow_cast-at
overflow_cast-at c = omega (arith, c.loop-at.invariant.1)

pub overflow_add-m : goal.overflow_add-m
overflow_add-m c = omega (arith, c.loop-at.invariant.1, c.loop-at.invariant.2, c.requires)

pub overflow_add-at : goal.overflow_add-at
overflow_add-at c = omega (arith, c.loop-at.invariant.1, c.requires)

pub loop-at-preserved : goal.loop-at-preserved
loop-at-preserved c = let words32 : Words32 c.args.s.now = record { word = λ i. (c.type_inv.s i).fits } in
    let a = c.args in
    let l = c.loop-at in
    let p = c.put in
    let u = c.in-None.ensures in (
      refl,
      omega arith,
      omega (arith, l.invariant.2),
      l.invariant.3,
      p.auto.dst ∙ l.invariant.4,
      left-lost a.names.pool.now a.names.table.now a.s.now (words32) a.kept.now a.skipped.now l.kept l.skipped l.at l.k l.m
          (omega arith) u _ p.ensures l.invariant.5,
    )

pub shape_of-kept : goal.shape_of-kept
shape_of-kept c = c.loop-at.invariant.3

pub shape_of-skipped : goal.shape_of-skipped
shape_of-skipped c = c.loop-at.invariant.4

pub returns : goal.returns
returns c = let words32 : Words32 c.args.s.now = record { word = λ i. (c.type_inv.s i).fits } in
    let l = c.loop-at in
    left-done c.args.names.pool.now c.args.names.table.now c.args.s.now (words32) c.args.kept.now c.args.skipped.now l.kept l.skipped l.at l.k l.m
    (omega arith) l.invariant.5 _ refl refl (omega (arith, l.invariant.1, l.invariant.2, c.requires))
