-- `names::inner::search` meets its contract. The invariant: the names from k on decide, and the first of them begins at start.
use mathlib.Core.Path.{◌≡◌, refl, sym, ◌∙◌, ap}
use mathlib.Core.List.{List}
use Prim.Native.Nat.{ℕ, ◌+◌, ◌≤◌, ◌<◌}
use native.Mathlib.Numerals.{add-one}
use native.Mathlib.Omega.{arith}
use lib.ListN.{drop, get_or}
use Rattle.rules.specs.Names.{orderBytes, table_of, names_of, number_of}
use Rattle.laws.specs.NameTable.{start_at, Laid}
use Rattle.laws.proofs.NameTable.{part_of, placed, names-step, names-end, search-hit, search-miss}
use Rattle.names.specs.Told.{toldOrder}
use Rattle.names.proofs.Compared.{hit, missed}
use Rattle.names.proofs.inner.search.Goals as goal

-- the part that a turn looks at
record Part (first last : ℕ) : Type 0 where
  rises : first < last
  within : last ≤ 8192

part : {pool table : List ℕ} (k start : ℕ) → Laid pool table → k < get_or table 0 0 → start ≡ start_at table k → Part start (get_or table (k + 1) 0)
part k start laid h e =
    let p = placed laid k h in
    record { rises = rw (e, add-one k) p.rises; within = rw (add-one k) p.within }

pub slice_bounds-compare-count : goal.slice_bounds-compare-count
slice_bounds-compare-count c = let p = part c.loop-k.k _ c.requires.laid (omega arith) c.loop-k.invariant.0 in omega arith

pub slice_bounds-compare-start : goal.slice_bounds-compare-start
slice_bounds-compare-start c = let p = part c.loop-k.k _ c.requires.laid (omega arith) c.loop-k.invariant.0 in omega arith

pub slice_bounds-compare-end : goal.slice_bounds-compare-end
slice_bounds-compare-end c = let p = part c.loop-k.k _ c.requires.laid (omega arith) c.loop-k.invariant.0 in omega (arith, c.requires.laid.bytes)

pub overflow_cast-result : goal.overflow_cast-result
overflow_cast-result c = omega (arith, c.requires.laid.few)

pub returns-in-Equal : goal.returns-in-Equal
returns-in-Equal c =
    let told : toldOrder c.compare.result ≡ orderBytes c.args.name.now (part_of c.args.pool.now c.args.table.now c.loop-k.k) =
    rw (c.loop-k.invariant.0, add-one c.loop-k.k) at c.compare.ensures in
    let step = ap (number_of c.loop-k.k c.args.name.now) (sym (names-step c.requires.laid c.loop-k.k (omega arith))) ∙ c.loop-k.invariant.1 in
    sym (search-hit _ _ _ _ (hit _ _ (rw c.in-Equal.is at (told)))) ∙ step

pub loop-k-preserved : goal.loop-k-preserved
loop-k-preserved c =
    let told : toldOrder c.compare.result ≡ orderBytes c.args.name.now (part_of c.args.pool.now c.args.table.now c.loop-k.k) =
    rw (c.loop-k.invariant.0, add-one c.loop-k.k) at c.compare.ensures in
    let step = ap (number_of c.loop-k.k c.args.name.now) (sym (names-step c.requires.laid c.loop-k.k (omega arith))) ∙ c.loop-k.invariant.1 in (
      rw (add-one c.loop-k.k) refl,
      rw (add-one c.loop-k.k) (sym (search-miss _ _ _ _ (missed _ _ c.compare.result (told) c.in-Less.is)) ∙ step),
    )

pub returns : goal.returns
unfolding number_of
returns c =
    let e : c.loop-k.k ≡ get_or c.args.table.now 0 0 = omega arith in
    sym (ap (number_of c.loop-k.k c.args.name.now)
    (ap (λ (k : ℕ). drop k (names_of (table_of c.args.pool.now c.args.table.now))) e ∙ names-end c.requires.laid))
    ∙ c.loop-k.invariant.1
