-- Names that move up in the pool, and their ends in the table.
use Rattle.std.specs.Prelude.{◌≡◌, refl, Bool, true, false, take}
use Rattle.std.proofs.Math.Path.{sym, ap, ap₂}
use Rattle.std.specs.List.{copy_within}
use Rattle.std.proofs.Common.{
  ◌∙◌,
  arith,
  add-zero,
  add-one,
  drop-set-lt,
  get_or-set_other,
  take-add,
  drop_at,
  length-take-le,
  length-drop,
  take_all,
}
use mathlib.Core.List.{List, [], ◌∷◌, ◌++◌, append_assoc, append-nil}
use Prim.Native.Nat.{ℕ, suc, ◌+◌, ◌-◌, ◌≤◌, ◌<◌}
use Rattle.std.proofs.Math.ListN.{length, drop, get_or, set, replicate, length-append, length-replicate}
use Rattle.std.proofs.Math.Seq.{sets, length-sets, slice}
use Rattle.std.proofs.lemmas.List.Edits.{sets-eq}
use borrow.Rule.Slice.PartMut.{put_mid}
use Rattle.rules.specs.Names.{Bytes, table_of, names_of, held, used}
use Rattle.rules.specs.Base.{collect}
use Rattle.rules.specs.Calls.{over}
use Rattle.laws.proofs.Answers.{over-is}
use Rattle.laws.specs.NameTable.{Good, start_at, endsOf}
use Rattle.laws.proofs.NameTable.{placed, part_of, part_length, names-step, names-end, start_is, lengths-within}
use Rattle.laws.proofs.NameTable.{lengths-drop, used-is, used-within, ends-are, good-laid, count-is}
use Rattle.records.proofs.Stores.{sets-append, sets-before, part-cut}
use Rattle.compaction.specs.Told.{Squeezed}
use Rattle.rules.specs.Compaction.{consIf, keptFrom, joined, endsFrom, poolOf, endsOver}

-- ══ Stores before a place, and what lies from it on ══

drop-sets : (vs l : List ℕ) (i f : ℕ) → i + length vs ≤ f → drop f (sets l i vs) ≡ drop f l
drop-sets [] l i f h = refl
drop-sets (v ∷ vs) l i f h = drop-sets vs (set l i v) (suc i) f (omega arith) ∙ drop-set-lt f l i v (omega arith)

pub get-sets : (vs l : List ℕ) (i j : ℕ) → i + length vs ≤ j → get_or (sets l i vs) j 0 ≡ get_or l j 0
get-sets [] l i j h = refl
get-sets (v ∷ vs) l i j h = get-sets vs (set l i v) (suc i) j (omega arith) ∙ get_or-set_other l i j v 0 (λ e. omega arith)

slice-part : (f t : ℕ) (l : List ℕ) → f ≤ t → f ≤ length l → slice f t l ≡ take (t - f) (drop f l)
slice-part f t l h k =
    let e : t ≡ f + (t - f) = omega arith in
    ap (λ (n : ℕ). drop f (take n l)) e ∙ ap (drop f) (take-add f (t - f) l) ∙ drop_at (take f l) (take (t - f) (drop f l)) f (length-take-le f l k)

-- ══ Bytes that move up, and what is set to 0 ══

pub copied : (d : List ℕ) (f t o : ℕ) → f ≤ t → t ≤ length d → o ≤ f → copy_within d f t o ≡ sets d o (slice f t d)
copied d f t o h k l =
    let vs = take (t - f) (drop f d) in
    let n : length vs ≡ t - f = length-take-le (t - f) (drop f d) (omega (arith, length-drop f d)) in
    sym (ap (sets d o) (slice-part f t d h (omega arith)) ∙ sets-eq vs d o (omega (arith, n)) ∙ ap (λ (k : ℕ). take o d ++ vs ++ drop (o + k) d) n)

pub wiped : (d z : List ℕ) (f k : ℕ) → f + k ≤ length d → z ≡ replicate (length (take k (drop f d))) 0 → put_mid f k d z ≡ sets d f (replicate k 0)
wiped d z f k h e =
    let zs = replicate {A = ℕ} k 0 in
    let n : length zs ≡ k = length-replicate k (let o : ℕ = 0 in o) in
    let m : length (take k (drop f d)) ≡ k = length-take-le k (drop f d) (omega (arith, length-drop f d)) in
    let zeroes : z ≡ take k zs = e ∙ ap (λ (j : ℕ). replicate j 0) m ∙ sym (take_all k zs (omega (arith, n))) in
    part-cut zs d z f k k zeroes refl h (omega (arith, n)) (λ l. absurd (omega (arith, n, l)))

-- ══ One name more ══

joined-more : (ns : List Bytes) (n : Bytes) → joined (ns ++ n ∷ []) ≡ joined ns ++ n
unfolding joined collect
joined-more [] n = append-nil n
joined-more (m ∷ ns) n = ap (m ++◌) (joined-more ns n) ∙ sym (append_assoc m (joined ns) n)

ends_more : (at : ℕ) (ns : List Bytes) (n : Bytes) → endsFrom at (ns ++ n ∷ []) ≡ endsFrom at ns ++ (at + length (joined ns) + length n) ∷ []
unfolding joined collect endsFrom
ends_more at [] n = rw (add-zero at)
ends_more at (m ∷ ns) n =
    let e : at + length m + length (joined ns) ≡ at + length (m ++ joined ns) = omega (arith, length-append m (joined ns)) in
    ap (λ (es : List ℕ). (at + length m) ∷ es) (ends_more (at + length m) ns n ∙ ap (λ (k : ℕ). endsFrom (at + length m) ns ++ (k + length n) ∷ []) e)

pub ends-many : (at : ℕ) (ns : List Bytes) → length (endsFrom at ns) ≡ length ns
unfolding endsFrom
ends-many at [] = refl
ends-many at (n ∷ ns) = ap suc (ends-many (at + length n) ns)

-- ══ Names one after another ══

-- after i names, of which k are kept, in `out` bytes: what was written, and that the rest gives the whole
pub record Doing (p : ℕ → Bool) (pool table pool' table' : List ℕ) (i from k out : ℕ) : Type 0 where
  pub done : List Bytes
  pub inside : i ≤ get_or table 0 0
  pub start : from ≡ start_at table i
  pub few : k ≤ i
  pub behind : out ≤ from
  pub bytes : pool' ≡ sets pool 0 (joined done)
  pub ends : table' ≡ sets table 1 (endsFrom 0 done)
  pub long : length (joined done) ≡ out
  pub many : length done ≡ k
  pub left : done ++ keptFrom p i (drop i (names_of (table_of pool table))) ≡ keptFrom p 0 (names_of (table_of pool table))

module _ {p : ℕ → Bool} {pool table : List ℕ} (g : Good pool table) where
  pub doing-first : Doing p pool table pool table 0 0 0 0
  unfolding joined collect endsFrom
  doing-first = record {
    done = [];
    inside = omega arith;
    start = refl;
    few = omega arith;
    behind = omega arith;
    bytes = refl;
    ends = refl;
    long = refl;
    many = refl;
    left = refl;
  }

  module _ {pool' table' : List ℕ} {i from k out : ℕ} (d : Doing p pool table pool' table' i from k out) where
    pub pool-long : length pool' ≡ length pool
    pool-long = ap length d.bytes ∙ length-sets pool 0 (joined d.done)

    pub table-long : length table' ≡ length table
    table-long = ap length d.ends ∙ length-sets table 1 (endsFrom 0 d.done)

    pub from-within : from ≤ 8192
    from-within =
        let laid = good-laid g in
        rw d.start (rw (start_is table laid.words laid.few i d.inside) at (lengths-within _ _ (lengths-drop 0 (endsOf table) i laid.rising)))

    -- reading is never behind writing
    pub end_is : get_or table' (i + 1) 0 ≡ get_or table (i + 1) 0
    end_is = ap (λ (l : List ℕ). get_or l (i + 1) 0) d.ends ∙ get-sets (endsFrom 0 d.done) table 1 (i + 1) (omega (arith, ends-many 0 d.done, d.many, d.few))

    module _ (more : i < get_or table 0 0) where
      abbrev end : ℕ
      end = get_or table (i + 1) 0

      place : (from < end) × (end ≤ 8192)
      place = let q = placed (good-laid g) i more in rw (d.start, add-one i) (q.rises, q.within)

      pub rises : from < end
      rises = place.0

      pub within : end ≤ 8192
      within = place.1

      rest : keptFrom p i (drop i (names_of (table_of pool table)))
          ≡ consIf (p i) (part_of pool table i) (keptFrom p (suc i) (drop (suc i) (names_of (table_of pool table))))
      unfolding keptFrom
      rest = ap (keptFrom p i) (names-step (good-laid g) i more)

      pub doing-skip : p i ≡ false → Doing p pool table pool' table' (i + 1) end k out
      doing-skip e = record {
        done = d.done;
        inside = omega arith;
        start = rw (add-one i);
        few = omega (arith, d.few);
        behind = omega (arith, d.behind, rises);
        bytes = d.bytes;
        ends = d.ends;
        long = d.long;
        many = d.many;
        left = rw (add-one i) (ap (d.done ++◌)
            (sym (rest ∙ ap (λ (b : Bool). consIf b (part_of pool table i) (keptFrom p (suc i) (drop (suc i) (names_of (table_of pool table))))) e))
            ∙ d.left);
      }

      abbrev part : Bytes
      part = part_of pool table i

      moved : slice from end pool' ≡ part
      moved =
          slice-part from end pool' (omega (arith, rises)) (omega (arith, pool-long, g.bytes, rises, within))
          ∙ ap (take (end - from)) (ap (drop from) d.bytes ∙ drop-sets (joined d.done) pool 0 from (omega (arith, d.long, d.behind)))
          ∙ rw (d.start, add-one i)

      part-long : length part ≡ end - from
      part-long = rw (d.start, add-one i) (part_length (good-laid g) i more)

      pub doing-keep : p i ≡ true → {pool'' table'' : List ℕ} → pool'' ≡ sets pool' out (slice from end pool')
          → table'' ≡ set table' (k + 1) (out + (end - from))
          → Doing p pool table pool'' table'' (i + 1) end (k + 1) (out + (end - from))
      doing-keep e q r = record {
        done = d.done ++ part ∷ [];
        inside = omega arith;
        start = rw (add-one i);
        few = omega (arith, d.few);
        behind = omega (arith, d.behind, rises);
        bytes =
            q ∙ ap₂ (λ (b v : List ℕ). sets b out v) d.bytes moved
            ∙ ap (λ (n : ℕ). sets (sets pool 0 (joined d.done)) n part) (let z : out ≡ 0 + length (joined d.done) = omega (arith, d.long) in z)
            ∙ sym (sets-append (joined d.done) part pool 0)
            ∙ ap (sets pool 0) (sym (joined-more d.done part));
        ends =
            r ∙ ap (λ (b : List ℕ). set b (k + 1) (out + (end - from))) d.ends
            ∙ ap₂ (λ (n v : ℕ). set (sets table 1 (endsFrom 0 d.done)) n v)
            (let z : k + 1 ≡ 1 + length (endsFrom 0 d.done) = omega (arith, ends-many 0 d.done, d.many) in z)
            (let z : out + (end - from) ≡ 0 + length (joined d.done) + length part = omega (arith, d.long, part-long) in z)
            ∙ sym (sets-append (endsFrom 0 d.done) ((0 + length (joined d.done) + length part) ∷ []) table 1)
            ∙ ap (sets table 1) (sym (ends_more 0 d.done part));
        long = ap length (joined-more d.done part) ∙ length-append (joined d.done) part ∙ ap₂ ◌+◌ d.long part-long;
        many = length-append d.done (part ∷ []) ∙ ap (◌+ 1) d.many;
        left = rw (add-one i) (append_assoc d.done (part ∷ []) (keptFrom p (suc i) (drop (suc i) (names_of (table_of pool table))))
            ∙ ap (d.done ++◌) (sym (rest ∙ ap (λ (b : Bool). consIf b part (keptFrom p (suc i) (drop (suc i) (names_of (table_of pool table))))) e))
            ∙ d.left);
      }

    pub doing-last : get_or table 0 0 ≤ i → {pool'' table'' table''' : List ℕ} → pool'' ≡ sets pool' out (replicate (from - out) 0)
        → table'' ≡ sets table' (k + 1) (replicate (get_or table 0 0 + 1 - (k + 1)) 0)
        → table''' ≡ set table'' 0 k → Squeezed p pool table pool'' table''' k
    unfolding keptFrom poolOf endsOver
    doing-last h q r s =
        let laid = good-laid g in
        let all_seen : i ≡ get_or table 0 0 = omega (arith, d.inside) in
        let none : drop i (names_of (table_of pool table)) ≡ [] = ap (λ (n : ℕ). drop n (names_of (table_of pool table))) all_seen ∙ names-end laid in
        let kept : d.done ≡ keptFrom p 0 (names_of (table_of pool table)) = sym (append-nil d.done)
        ∙ sym (ap (λ (ns : List Bytes). d.done ++ keptFrom p i ns) none) ∙ d.left in
        let last : from ≡ used 0 (held (table_of pool table)) = d.start ∙ ap (start_at table) all_seen ∙ sym (used-is table laid.words laid.few)
        ∙ sym (ap (used 0) (ends-are pool table)) in
        let inside : from ≤ 8192 = rw (d.start, all_seen) (used-within laid) in
        let J = joined d.done in
        let E = endsFrom 0 d.done in
        let Z = replicate {A = ℕ} (from - out) 0 in
        let Y = replicate {A = ℕ} (get_or table 0 0 + 1 - (k + 1)) 0 in
        record {
          many = sym d.many ∙ ap length kept;
          bytes =
              q ∙ ap₂ (λ (b : List ℕ) (n : ℕ). sets b n Z) d.bytes (let z : out ≡ 0 + length J = omega (arith, d.long) in z)
              ∙ sym (sets-append J Z pool 0)
              ∙ over-is (J ++ Z) pool (omega
              (arith, length-append J Z, length-replicate (from - out) (let z : ℕ = 0 in z), d.long, d.behind, inside, laid.bytes))
              ∙ ap₂ (λ (a b : ℕ). over (J ++ replicate (a - b) 0) pool) last (sym d.long)
              ∙ ap (λ (ns : List Bytes). poolOf ns (used 0 (held (table_of pool table))) pool) kept;
          ends =
              s ∙ ap (λ (b : List ℕ). set b 0 k)
              (r ∙ ap₂ (λ (b : List ℕ) (n : ℕ). sets b n Y) d.ends
              (let z : k + 1 ≡ 1 + length E = omega (arith, ends-many 0 d.done, d.many) in z) ∙ sym (sets-append E Y table 1))
              ∙ sets-before (k ∷ []) (E ++ Y) table 0
              ∙ over-is (k ∷ (E ++ Y)) table
              (omega (
                arith,
                length-append E Y,
                length-replicate (get_or table 0 0 + 1 - (k + 1)) (let z : ℕ = 0 in z),
                ends-many 0 d.done,
                d.many,
                d.few,
                d.inside,
                laid.words,
                laid.few,
              ))
              ∙ ap₂ (λ (a b : ℕ). over (a ∷ (E ++ replicate b 0)) table) (sym d.many)
              (let z : get_or table 0 0 + 1 - (k + 1) ≡ get_or table 0 0 - length d.done = omega (arith, d.many) in z)
              ∙ ap (λ (n : ℕ). endsOver d.done n table) (sym (count-is pool table))
              ∙ ap (λ (ns : List Bytes). endsOver ns (table_of pool table).count table) kept;
        }
