-- `names::inner::name_at` meets its contract.
use mathlib.Core.Path.{◌≡◌, sym}
use mathlib.Core.List.{List}
use Prim.Native.Nat.{ℕ, ◌≤◌, ◌<◌, ◌+◌}
use native.Mathlib.Numerals.{add-one}
use native.Mathlib.Omega.{arith}
use lib.ListN.{length, get_or}
use Rattle.laws.specs.NameTable.{start_at, Laid}
use Rattle.laws.proofs.NameTable.{placed, name-is}
use Rattle.names.proofs.inner.name_at.Goals as goal

-- the part lies within the pool
record Part (first last size : ℕ) : Type 0 where
  rises : first < last
  within : last ≤ 8192
  bytes : 8192 ≤ size

part : (pool table : List ℕ) (k start : ℕ) → Laid pool table → k < get_or table 0 0 → start ≡ start_at table k
    → Part start (get_or table (k + 1) 0) (length pool)
part pool table k start laid h e =
    let p = placed laid k h in
    record { rises = rw (e, add-one k) p.rises; within = rw (add-one k) p.within; bytes = laid.bytes }

pub slice_bounds-result-count : goal.slice_bounds-result-count
slice_bounds-result-count c = let p = part c.args.pool.now c.args.table.now c.args.k _ c.requires.laid c.requires.held c.start_of-start.ensures in omega arith

pub slice_bounds-result-start : goal.slice_bounds-result-start
slice_bounds-result-start c = let p = part c.args.pool.now c.args.table.now c.args.k _ c.requires.laid c.requires.held c.start_of-start.ensures in omega arith

pub slice_bounds-result-end : goal.slice_bounds-result-end
slice_bounds-result-end c = let p = part c.args.pool.now c.args.table.now c.args.k _ c.requires.laid c.requires.held c.start_of-start.ensures in omega arith

pub returns : goal.returns
returns c =
    record {
      place = rw c.start_of-start.ensures;
      bytes = rw (c.start_of-start.ensures, add-one c.args.k) (sym (name-is c.requires.laid c.args.k c.requires.held));
    }
