-- The table afterwards: well formed, and its names are those that were kept.
use Rattle.std.proofs.Math.Path.{◌≡◌, refl, sym, ap, ap₂}
use Rattle.std.proofs.Common.{◌∙◌, add-zero, lt-ltb, le-leb, length-drop, take-append-drop, drop_at}
use Rattle.std.specs.Prelude.{Bool, ◌&&◌, ◌||◌}
use Rattle.std.proofs.Math.Bool.{true, false, not}
use mathlib.Core.List.{List, [], ◌∷◌, ◌++◌, append_assoc}
use Prim.Native.Nat.{ℕ, zero, suc, ◌+◌, ◌-◌, ◌≤◌, ◌<◌}
use native.Mathlib.Omega.{arith}
use Rattle.std.proofs.Math.Nat.{zero-add}
use Rattle.std.proofs.Math.ListN.{length, take, drop, get_or, replicate, length-append, length-replicate}
use Rattle.std.proofs.Math.Seq.{take_at, take-take, length-take-le}
use Rattle.rules.specs.Base.{any, collect, oneIf}
use Rattle.rules.specs.Calls.{over}
use Rattle.rules.specs.Names.{Bytes, table_of, names_of, held, used, cut, lengthsGood, sameBytes, distinct}
use Rattle.laws.specs.Lists.{Every, and_left, and_right}
use Rattle.laws.specs.NameTable.{Good, endsOf}
use Rattle.laws.proofs.NameTable.{ends-are, lengths-step, lengths-within, used-is, used-within, good-laid, good-is, good-distinct, length-names, count-is}
use Rattle.rules.specs.Compaction.{newNumber, consIf, keptFrom, joined, endsFrom, poolOf, endsOver}
use Rattle.compaction.proofs.Moves.{ends-many}

pool-front : (pool table : List ℕ) → (table_of pool table).pool ≡ take 8192 pool
unfolding table_of
pool-front pool table = refl

-- ══ What holds of all names holds of those that are kept ══

abbrev Short : Bytes → Type 0
Short n = (1 ≤ length n) × (length n ≤ 48)

module _ (p : ℕ → Bool) where
  kept-every : (P : Bytes → Type 0) (i : ℕ) (ns : List Bytes) → Every P ns → Every P (keptFrom p i ns)
  unfolding keptFrom
  kept-every P i [] h = tt
  kept-every P i (n ∷ ns) h = go (p i) (kept-every P (suc i) ns h.1)
    where
      go : (b : Bool) → Every P (keptFrom p (suc i) ns) → Every P (consIf b n (keptFrom p (suc i) ns))
      go true k = (h.0, k)
      go false k = k

  kept-shorter : (i : ℕ) (ns : List Bytes) → length (joined (keptFrom p i ns)) ≤ length (joined ns)
  unfolding keptFrom joined collect
  kept-shorter i [] = omega arith
  kept-shorter i (n ∷ ns) = go (p i) (kept-shorter (suc i) ns)
    where
      go : (b : Bool) → length (joined (keptFrom p (suc i) ns)) ≤ length (joined ns)
          → length (joined (consIf b n (keptFrom p (suc i) ns))) ≤ length (n ++ joined ns)
      go true k = omega (arith, length-append n (joined ns), length-append n (joined (keptFrom p (suc i) ns)))
      go false k = omega (arith, length-append n (joined ns))

  kept-fewer : (i : ℕ) (ns : List Bytes) → length (keptFrom p i ns) ≤ length ns
  unfolding keptFrom
  kept-fewer i [] = omega arith
  kept-fewer i (n ∷ ns) = go (p i) (kept-fewer (suc i) ns)
    where
      go : (b : Bool) → length (keptFrom p (suc i) ns) ≤ length ns → length (consIf b n (keptFrom p (suc i) ns)) ≤ suc (length ns)
      go true k = omega arith
      go false k = omega arith

  kept_any : (q : Bytes → Bool) (i : ℕ) (ns : List Bytes) → any q ns ≡ false → any q (keptFrom p i ns) ≡ false
  unfolding keptFrom any
  kept_any q i [] h = refl
  kept_any q i (n ∷ ns) h = go (p i) (q n) refl h (λ e. kept_any q (suc i) ns e)
    where
      go : (b c : Bool) → q n ≡ c → (c || any q ns) ≡ false → (any q ns ≡ false → any q (keptFrom p (suc i) ns) ≡ false)
          → any q (consIf b n (keptFrom p (suc i) ns)) ≡ false
      go b true e h k = absurd (cc)
      go true false e h k = ap (◌|| any q (keptFrom p (suc i) ns)) e ∙ k h
      go false false e h k = k h

  kept-distinct : (i : ℕ) (ns : List Bytes) → distinct ns ≡ true → distinct (keptFrom p i ns) ≡ true
  unfolding keptFrom distinct
  kept-distinct i [] h = refl
  kept-distinct i (n ∷ ns) h = go (p i) (any (sameBytes n) ns) refl (kept-distinct (suc i) ns (and_right (not (any (sameBytes n) ns)) _ h))
    where
      go : (b c : Bool) → any (sameBytes n) ns ≡ c → distinct (keptFrom p (suc i) ns) ≡ true → distinct (consIf b n (keptFrom p (suc i) ns)) ≡ true
      go false c e k = k
      go true true e k = absurd (let y : not true ≡ true = sym (ap not e) ∙ and_left (not (any (sameBytes n) ns)) _ h in cc)
      go true false e k = ap₂ (λ (a b : Bool). not a && b) (kept_any (sameBytes n) (suc i) ns e) k

  -- how many of the j names from i on are kept
  unfoldable pub rank : ℕ → ℕ → ℕ
  rank i zero = 0
  rank i (suc j) = oneIf (p i) + rank (suc i) j

  rank-from : (i j : ℕ) → newNumber p i + rank i j ≡ newNumber p (i + j)
  unfolding newNumber rank
  rank-from i zero = rw (add-zero i) (add-zero (newNumber p i))
  rank-from i (suc j) = let e : newNumber p i + (oneIf (p i) + rank (suc i) j) ≡ newNumber p i + oneIf (p i) + rank (suc i) j = omega arith in e
      ∙ rank-from (suc i) j ∙ ap (newNumber p) (let s : suc i + j ≡ i + suc j = omega arith in s)

  pub new-rank : (j : ℕ) → newNumber p j ≡ rank 0 j
  unfolding newNumber
  new-rank j = sym (ap (newNumber p) (zero-add j)) ∙ sym (rank-from 0 j) ∙ zero-add (rank 0 j)

  rank-get : (i : ℕ) (ns : List Bytes) (j : ℕ) → j < length ns → p (i + j) ≡ true → (get_or (keptFrom p i ns) (rank i j) [] ≡ get_or ns j [])
      × (rank i j < length (keptFrom p i ns))
  unfolding keptFrom rank
  rank-get i [] j h e = absurd (omega arith)
  rank-get i (n ∷ ns) zero h e = rw (sym (ap p (add-zero i)) ∙ e) (refl, omega arith)
  rank-get i (n ∷ ns) (suc j) h e = go (p i) (rank-get (suc i) ns j (omega arith) (sym (ap p (let s : i + suc j ≡ suc i + j = omega arith in s)) ∙ e))
    where
      go : (b : Bool) → (get_or (keptFrom p (suc i) ns) (rank (suc i) j) [] ≡ get_or ns j []) × (rank (suc i) j < length (keptFrom p (suc i) ns))
          → (get_or (consIf b n (keptFrom p (suc i) ns)) (oneIf b + rank (suc i) j) [] ≡ get_or ns j [])
          × (oneIf b + rank (suc i) j < length (consIf b n (keptFrom p (suc i) ns)))
      go true k = rw (let s : 1 + rank (suc i) j ≡ suc (rank (suc i) j) = omega arith in s) (k.0, omega (arith, k.1))
      go false k = rw (zero-add (rank (suc i) j)) k

  -- each kept name has its new number
  pub kept-get : (ns : List Bytes) (j : ℕ) → j < length ns → p j ≡ true → (get_or (keptFrom p 0 ns) (newNumber p j) [] ≡ get_or ns j [])
      × (newNumber p j < length (keptFrom p 0 ns))
  kept-get ns j h e = rw (new-rank j) (rank-get 0 ns j h (ap p (zero-add j) ∙ e))

-- ══ Names behind one another ══

lengths-made : (at : ℕ) (ns : List Bytes) → Every Short ns → at + length (joined ns) ≤ 8192 → lengthsGood at (endsFrom at ns) ≡ true
unfolding lengthsGood endsFrom joined collect
lengths-made at [] h k = le-leb at 8192 (omega arith)
lengths-made at (n ∷ ns) h k =
    rw (lt-ltb at (at + length n) (omega (arith, h.0.0)), le-leb (at + length n) (at + 48) (omega (arith, h.0.1)))
    (lengths-made (at + length n) ns h.1 (omega (arith, length-append n (joined ns))))

used-made : (at : ℕ) (ns : List Bytes) → used at (endsFrom at ns) ≡ at + length (joined ns)
unfolding used endsFrom joined collect
used-made at [] = sym (add-zero at)
used-made at (n ∷ ns) = used-made (at + length n) ns
    ∙ (let e : at + length n + length (joined ns) ≡ at + length (n ++ joined ns) = omega (arith, length-append n (joined ns)) in e)

cut-joined : (pre : List ℕ) (ns : List Bytes) (rest : List ℕ) (at : ℕ) → length pre ≡ at → cut at (endsFrom at ns) (pre ++ (joined ns ++ rest)) ≡ ns
unfolding cut endsFrom joined collect
cut-joined pre [] rest at h = refl
cut-joined pre (n ∷ ns) rest at h =
    let whole : pre ++ ((n ++ joined ns) ++ rest) ≡ (pre ++ n) ++ (joined ns ++ rest) = ap (pre ++◌) (append_assoc n (joined ns) rest)
    ∙ sym (append_assoc pre n (joined ns ++ rest)) in
    let first : take (at + length n - at) (drop at (pre ++ ((n ++ joined ns) ++ rest))) ≡ n =
    ap (take (at + length n - at)) (drop_at pre ((n ++ joined ns) ++ rest) at h ∙ append_assoc n (joined ns) rest)
    ∙ take_at n (joined ns ++ rest) (at + length n - at) (let e : length n ≡ at + length n - at = omega arith in e) in
    ap₂ {C = List Bytes} (λ (m : Bytes) (ms : List Bytes). m ∷ ms) first
    (ap (cut (at + length n) (endsFrom (at + length n) ns)) whole ∙ cut-joined (pre ++ n) ns rest (at + length n) (length-append pre n ∙ ap (◌+ length n) h))

-- names that were cut from a table with good lengths
cut_short : (at : ℕ) (es pool : List ℕ) → lengthsGood at es ≡ true → 8192 ≤ length pool → Every Short (cut at es pool)
    × (at + length (joined (cut at es pool)) ≡ used at es)
unfolding cut joined collect used
cut_short at [] pool h k = (tt, add-zero at)
cut_short at (e ∷ es) pool h k =
    let s = lengths-step at e es h in
    let w = lengths-within e es s.rest in
    let long : length (take (e - at) (drop at pool)) ≡ e - at = length-take-le (e - at) (drop at pool) (omega (arith, length-drop at pool, s.rises)) in
    let r = cut_short e es pool s.rest k in (
      ((omega (arith, long, s.rises), omega (arith, long, s.short)), r.0),
      (let q : at + length (take (e - at) (drop at pool) ++ joined (cut e es pool))
          ≡ e + length (joined (cut e es pool)) = omega (arith, long, s.rises, length-append (take (e - at) (drop at pool)) (joined (cut e es pool)))
          in q) ∙ r.1,
    )

-- ══ A table made of these names ══

over-length : (ws b : List ℕ) → length ws ≤ length b → length (over ws b) ≡ length b
unfolding over
over-length ws b h = omega (arith, length-append ws (drop (length ws) b), length-drop (length ws) b)

module _ (pool table : List ℕ) (ns : List Bytes) (end count : ℕ) (bytes : 8192 ≤ length pool) (words : 257 ≤ length table) (few : length ns ≤ count)
    (most : count ≤ 256) (inside : length (joined ns) ≤ end) (within : end ≤ 8192) where
  abbrev pool' : List ℕ
  pool' = poolOf ns end pool

  abbrev table' : List ℕ
  table' = endsOver ns count table

  made_bytes : length pool' ≡ length pool
  unfolding poolOf
  made_bytes = over-length (joined ns ++ replicate (end - length (joined ns)) 0) pool
      (omega (
        arith,
        length-append (joined ns) (replicate {A = ℕ} (end - length (joined ns)) 0),
        length-replicate {A = ℕ} (end - length (joined ns)) 0,
      ))

  made-words : length table' ≡ length table
  unfolding endsOver
  made-words = over-length (length ns ∷ (endsFrom 0 ns ++ replicate (count - length ns) 0)) table
      (omega (
        arith,
        length-append (endsFrom 0 ns) (replicate {A = ℕ} (count - length ns) 0),
        length-replicate {A = ℕ} (count - length ns) 0,
        ends-many 0 ns,
      ))

  made-count : get_or table' 0 0 ≡ length ns
  unfolding endsOver over
  made-count = refl

  made_ends : endsOf table' ≡ endsFrom 0 ns
  unfolding endsOf endsOver over
  made_ends =
      let Z = replicate {A = ℕ} (count - length ns) 0 in
      let D = drop (length (length ns ∷ (endsFrom 0 ns ++ Z))) table in
      take-take (length ns) 256 ((endsFrom 0 ns ++ Z) ++ D) (omega arith) ∙ ap (take (length ns)) (append_assoc (endsFrom 0 ns) Z D)
      ∙ take_at (endsFrom 0 ns) (Z ++ D) (length ns) (ends-many 0 ns)

  made-front : take (length (joined ns)) pool' ≡ joined ns
  unfolding poolOf over
  made-front =
      let Z = replicate {A = ℕ} (end - length (joined ns)) 0 in
      let D = drop (length (joined ns ++ Z)) pool in
      ap (take (length (joined ns))) (append_assoc (joined ns) Z D) ∙ take_at (joined ns) (Z ++ D) (length (joined ns)) refl

  pub made-names : names_of (table_of pool' table') ≡ ns
  unfolding names_of
  made-names =
      let J = length (joined ns) in
      let rest = drop J (take 8192 pool') in
      let front : take 8192 pool' ≡ joined ns ++ rest = sym (take-append-drop J (take 8192 pool'))
      ∙ ap (◌++ rest) (take-take J 8192 pool' (omega arith) ∙ made-front) in
      ap₂ (cut 0) (ends-are pool' table' ∙ made_ends) (pool-is ∙ front) ∙ cut-joined [] ns rest 0 refl
    where
      pool-is : (table_of pool' table').pool ≡ take 8192 pool'
      pool-is = pool-front pool' table'

  pub made-used : used 0 (held (table_of pool' table')) ≡ length (joined ns)
  made-used = ap (used 0) (ends-are pool' table' ∙ made_ends) ∙ used-made 0 ns ∙ zero-add (length (joined ns))

  pub made-good : Every Short ns → distinct ns ≡ true → Good pool' table'
  made-good s d = record {
    bytes = omega (arith, made_bytes);
    words = omega (arith, made-words);
    good = good-is pool' table' ∙ rw (made-count, made_ends, made-names, le-leb (length ns) 256 (omega arith), lengths-made 0 ns s (omega arith), d) refl;
  }

-- ══ The table afterwards ══

module _ {pool table : List ℕ} (g : Good pool table) (p : ℕ → Bool) where
  abbrev pub kept : List Bytes
  kept = keptFrom p 0 (names_of (table_of pool table))

  abbrev pub poolAfter : List ℕ
  poolAfter = poolOf kept (used 0 (held (table_of pool table))) pool

  abbrev pub tableAfter : List ℕ
  tableAfter = endsOver kept (table_of pool table).count table

  old : Every Short (names_of (table_of pool table)) × (0 + length (joined (names_of (table_of pool table))) ≡ used 0 (held (table_of pool table)))
  unfolding names_of
  old = cut_short 0 (held (table_of pool table)) (table_of pool table).pool (ap (lengthsGood 0) (ends-are pool table) ∙ (good-laid g).rising)
      (omega (arith, ap length (pool-front pool table), length-take-le 8192 pool g.bytes))

  few : length kept ≤ (table_of pool table).count
  few = omega (arith, kept-fewer p 0 (names_of (table_of pool table)), length-names (good-laid g), count-is pool table)

  most : (table_of pool table).count ≤ 256
  most = omega (arith, count-is pool table, (good-laid g).few)

  inside : length (joined kept) ≤ used 0 (held (table_of pool table))
  inside = omega (arith, kept-shorter p 0 (names_of (table_of pool table)), old.1)

  within : used 0 (held (table_of pool table)) ≤ 8192
  within = omega (arith, ap (used 0) (ends-are pool table) ∙ used-is table g.words (good-laid g).few, used-within (good-laid g))

  -- its names are those that are kept, in the old order
  pub after-names : names_of (table_of poolAfter tableAfter) ≡ kept
  after-names = made-names pool table kept (used 0 (held (table_of pool table))) (table_of pool table).count g.bytes g.words few most inside within

  -- and it is well formed
  pub after-good : Good poolAfter tableAfter
  after-good = made-good pool table kept (used 0 (held (table_of pool table))) (table_of pool table).count g.bytes g.words few most inside within
      (kept-every p Short 0 (names_of (table_of pool table)) old.0) (kept-distinct p 0 (names_of (table_of pool table)) (good-distinct g))

  -- the first free byte is the first that was freed
  pub after-used : used 0 (held (table_of poolAfter tableAfter)) ≡ length (joined kept)
  after-used = made-used pool table kept (used 0 (held (table_of pool table))) (table_of pool table).count g.bytes g.words few most inside within
