-- What follows from the definitions of specs/NameTable: what a table of names holds: its ends and starts, its names one by one, and the bytes in use.
use Rattle.std.specs.Prelude.{◌≡◌, Bool, true, false, not, ◌&&◌, ◌||◌}
use Rattle.std.proofs.Math.Path.{refl, sym, ap, ap₂}
use Rattle.std.proofs.Common.{◌∙◌, arith, length-take, length-drop, drop_of_length-le, drop-cons, take-take, take-add, drop_at, length-take-le}
use mathlib.Core.List.{List, [], ◌∷◌, ◌++◌}
use Rattle.std.proofs.Math.Option.{some}
use Prim.Native.Nat.{ℕ, zero, suc, ◌+◌, ◌-◌, ◌≤◌, ◌<◌}
use Rattle.std.proofs.Math.Decide.{ℕ_discrete}
use Rattle.std.proofs.Math.Bool.{or-true}
use borrow.Author.Tests.{ltb-true, leb-true, lt-ltb, le-leb}
use Rattle.std.proofs.Math.Dec.{leb, ltb}
use Rattle.std.proofs.Math.ListN.{length, take, drop, get_or, set}
use Rattle.std.proofs.Math.Seq.{get_or-take, get_or-drop}
use Rattle.rules.specs.Base.{got, need, ◌>>◌, list-dec, any, is_none}
use Rattle.rules.specs.Names.{
  Bytes,
  table_of,
  is_held,
  held,
  cut,
  names_of,
  used,
  lengthsGood,
  sameBytes,
  distinct,
  numbered,
  numbersOf,
  tableGood,
  tableGiven,
  lentTable,
  number_of,
  nameAsked,
  hasRoom,
  enterNew,
  start_in,
}
use Rattle.rules.specs.declared.Was.TheVariants.{New}
use Rattle.laws.specs.Lists.{and_left, and_right}
use Rattle.laws.proofs.Lists.{is-no, is-yes, yes-is}
use Rattle.laws.proofs.Checks.{need-passed, first-passed, next-passed}
use Rattle.laws.specs.NameTable.{endsOf, start_at, Laid, Good}
use Rattle.laws.specs.Order.{Tells}
use Rattle.laws.proofs.ByteOrder.{bytes_same}

-- ══ What is known of a table ══

module _ (a b : Bytes) where
  pub same-yes : a ≡ b → sameBytes a b ≡ true
  unfolding sameBytes
  same-yes e = is-yes (list-dec ℕ_discrete a b) e

pub cut-length : (at : ℕ) (es pool : List ℕ) → length (cut at es pool) ≡ length es
unfolding cut
cut-length at [] pool = refl
cut-length at (e ∷ es) pool = ap suc (cut-length e es pool)

pub count-is : (pool table : List ℕ) → (table_of pool table).count ≡ get_or table 0 0
unfolding table_of
count-is pool table = refl

module _ (table : List ℕ) (lent : 257 ≤ length table) (few : get_or table 0 0 ≤ 256) where
  pub length-ends : length (endsOf table) ≡ get_or table 0 0
  unfolding endsOf
  length-ends = simp (length-take, length-drop) (omega arith)

module _ {pool table : List ℕ} (laid : Laid pool table) where
  pub length-names : length (names_of (table_of pool table)) ≡ get_or table 0 0
  unfolding names_of table_of endsOf
  length-names = cut-length 0 (endsOf table) (take 8192 pool) ∙ length-ends table laid.words laid.few

-- ══ Distinct names ══

pub any_at : (p : Bytes → Bool) (ns : List Bytes) (j : ℕ) → j < length ns → p (get_or ns j []) ≡ true → any p ns ≡ true
unfolding any
any_at p [] j h t = absurd (omega arith)
any_at p (n ∷ ns) zero h t = rw t
any_at p (n ∷ ns) (suc j) h t = ap (λ (b : Bool). p n || b) (any_at p ns j (omega arith) t) ∙ or-true (p n)

-- two numbers with one name are one number
pub distinct-same : (ns : List Bytes) → distinct ns ≡ true → (i j : ℕ) → i < length ns → j < length ns → get_or ns i [] ≡ get_or ns j [] → i ≡ j
unfolding distinct
distinct-same [] d i j h k e = absurd (omega arith)
distinct-same (n ∷ ns) d zero zero h k e = refl
distinct-same (n ∷ ns) d zero (suc j) h k e =
    let a = any_at (sameBytes n) ns j (omega arith) (same-yes n (get_or ns j []) e) in
    let z : false ≡ true = sym (ap not a) ∙ and_left (not (any (sameBytes n) ns)) _ d in
    cc
distinct-same (n ∷ ns) d (suc i) zero h k e =
    let a = any_at (sameBytes n) ns i (omega arith) (same-yes n (get_or ns i []) (sym e)) in
    let z : false ≡ true = sym (ap not a) ∙ and_left (not (any (sameBytes n) ns)) _ d in
    cc
distinct-same (n ∷ ns) d (suc i) (suc j) h k e =
    ap suc (distinct-same ns (and_right (not (any (sameBytes n) ns)) _ d) i j (omega arith) (omega arith) e)

-- the order tells held numbers apart
pub numbered-tells : (names : List Bytes) → distinct names ≡ true → Tells (λ i. i < length names) (numbered names).order
unfolding numbered
numbered-tells names d = record { same = λ i j h k e. distinct-same names d i j h k (bytes_same (get_or names i []) (get_or names j []) e) }

-- the test, in its three parts
pub good-is : (pool table : List ℕ) → tableGood (table_of pool table)
    ≡ (leb (get_or table 0 0) 256 && lengthsGood 0 (endsOf table) && distinct (names_of (table_of pool table)))
unfolding tableGood table_of endsOf
good-is pool table = refl

module _ {pool table : List ℕ} (g : Good pool table) where
  tested : leb (get_or table 0 0) 256 && lengthsGood 0 (endsOf table) && distinct (names_of (table_of pool table)) ≡ true
  tested = sym (good-is pool table) ∙ g.good

  pub good-laid : Laid pool table
  good-laid =
      let two = and_left (leb (get_or table 0 0) 256 && lengthsGood 0 (endsOf table)) _ tested in
      record {
        bytes = g.bytes;
        words = g.words;
        few = leb-true (get_or table 0 0) 256 (and_left (leb (get_or table 0 0) 256) _ two);
        rising = and_right (leb (get_or table 0 0) 256) _ two;
      }

  pub good-distinct : distinct (names_of (table_of pool table)) ≡ true
  good-distinct = and_right (leb (get_or table 0 0) 256 && lengthsGood 0 (endsOf table)) _ tested

  -- of held numbers, the order says equal exactly where the numbers are equal
  pub held_tells : Tells (λ i. i < get_or table 0 0) (numbered (names_of (table_of pool table))).order
  held_tells = rw (length-names good-laid) at (numbered-tells (names_of (table_of pool table)) good-distinct)

-- ══ Equal names ══

module _ (a b : Bytes) where
  pub same-no : (a ≡ b → ⊥) → sameBytes a b ≡ false
  unfolding sameBytes
  same-no f = is-no (list-dec ℕ_discrete a b) f

  pub same-is : sameBytes a b ≡ true → a ≡ b
  unfolding sameBytes
  same-is t = yes-is (list-dec ℕ_discrete a b) t

-- ══ From one end to the next ══

-- where the name with the number k starts, when the first starts at `at`
unfoldable pub start_of : ℕ → List ℕ → ℕ → ℕ
start_of at es zero = at
start_of at [] (suc k) = at
start_of at (e ∷ es) (suc k) = start_of e es k

pub start-next : (at : ℕ) (es : List ℕ) (k : ℕ) → k < length es → start_of at es (suc k) ≡ get_or es k 0
unfolding start_of
start-next at [] k h = absurd (omega arith)
start-next at (e ∷ es) zero h = refl
start-next at (e ∷ es) (suc k) h = start-next e es k (omega arith)

pub cut-drop : (at : ℕ) (es pool : List ℕ) (k : ℕ) → drop k (cut at es pool) ≡ cut (start_of at es k) (drop k es) pool
unfolding start_of cut
cut-drop at es pool zero = refl
cut-drop at [] pool (suc k) = refl
cut-drop at (e ∷ es) pool (suc k) = cut-drop e es pool k

pub used-drop : (at : ℕ) (es : List ℕ) (k : ℕ) → used (start_of at es k) (drop k es) ≡ used at es
unfolding start_of used
used-drop at es zero = refl
used-drop at [] (suc k) = refl
used-drop at (e ∷ es) (suc k) = used-drop e es k

-- one end of a table with good lengths
pub record Step (at e : ℕ) (es : List ℕ) : Type 0 where
  pub rises : at < e
  pub short : e ≤ at + 48
  pub rest : lengthsGood e es ≡ true

pub lengths-step : (at e : ℕ) (es : List ℕ) → lengthsGood at (e ∷ es) ≡ true → Step at e es
unfolding lengthsGood
lengths-step at e es h =
    let two = and_left (ltb at e && leb e (at + 48)) _ h in
    record {
      rises = ltb-true at e (and_left (ltb at e) _ two);
      short = leb-true e (at + 48) (and_right (ltb at e) _ two);
      rest = and_right (ltb at e && leb e (at + 48)) _ h;
    }

pub lengths-drop : (at : ℕ) (es : List ℕ) (k : ℕ) → lengthsGood at es ≡ true → lengthsGood (start_of at es k) (drop k es) ≡ true
unfolding start_of
lengths-drop at es zero h = h
lengths-drop at [] (suc k) h = h
lengths-drop at (e ∷ es) (suc k) h = lengths-drop e es k (lengths-step at e es h).rest

-- every start and end lies within the pool
pub lengths-within : (at : ℕ) (es : List ℕ) → lengthsGood at es ≡ true → at ≤ 8192
unfolding lengthsGood
lengths-within at [] h = leb-true at 8192 h
lengths-within at (e ∷ es) h =
    let s = lengths-step at e es h in
    let w = lengths-within e es s.rest in
    omega arith

pub ends-are : (pool table : List ℕ) → held (table_of pool table) ≡ endsOf table
unfolding table_of endsOf
ends-are pool table = refl

pub held-is : (pool table : List ℕ) (i : ℕ) → is_held (table_of pool table) i ≡ ltb i (get_or table 0 0)
unfolding table_of
held-is pool table i = refl

module _ (table : List ℕ) (lent : 257 ≤ length table) (few : get_or table 0 0 ≤ 256) where
  pub ends-get : (k : ℕ) → k < get_or table 0 0 → get_or (endsOf table) k 0 ≡ get_or table (suc k) 0
  unfolding endsOf
  ends-get k h =
      get_or-take (get_or table 0 0) (take 256 (drop 1 table)) k 0 h
      ∙ get_or-take 256 (drop 1 table) k 0 (omega arith)
      ∙ get_or-drop 1 table k 0
      ∙ ap (λ (n : ℕ). get_or table n 0) (omega arith)

  pub ends-step : (k : ℕ) → k < get_or table 0 0 → drop k (endsOf table) ≡ get_or table (suc k) 0 ∷ drop (suc k) (endsOf table)
  ends-step k h =
      drop-cons (endsOf table) k 0 (omega (arith, length-ends table lent few))
      ∙ ap (λ (e : ℕ). e ∷ drop (suc k) (endsOf table)) (ends-get k h)

  pub ends-end : drop (get_or table 0 0) (endsOf table) ≡ []
  ends-end = drop_of_length-le (endsOf table) {i = get_or table 0 0} (omega (arith, length-ends table lent few))

  pub start_is : (k : ℕ) → k ≤ get_or table 0 0 → start_of 0 (endsOf table) k ≡ start_at table k
  unfolding start_of
  start_is zero h = refl
  start_is (suc k) h = start-next 0 (endsOf table) k (omega (arith, length-ends table lent few)) ∙ ends-get k (omega arith)

  -- the first free pool byte
  pub used-is : used 0 (endsOf table) ≡ start_at table (get_or table 0 0)
  unfolding used
  used-is =
      sym (used-drop 0 (endsOf table) (get_or table 0 0))
      ∙ ap (used (start_of 0 (endsOf table) (get_or table 0 0))) ends-end
      ∙ start_is (get_or table 0 0) (omega arith)

-- the name with the number k is this part of the pool
abbrev pub part_of : List ℕ → List ℕ → ℕ → Bytes
part_of pool table k = take (get_or table (suc k) 0 - start_at table k) (drop (start_at table k) pool)

module _ {pool table : List ℕ} (laid : Laid pool table) where
  -- from start to end within the pool, 1 to 48 bytes
  pub record Placed (k : ℕ) : Type 0 where
    pub rises : start_at table k < get_or table (suc k) 0
    pub short : get_or table (suc k) 0 ≤ start_at table k + 48
    pub within : get_or table (suc k) 0 ≤ 8192

  pub placed : (k : ℕ) → k < get_or table 0 0 → Placed k
  placed k h =
      let g = lengths-drop 0 (endsOf table) k laid.rising in
      let s = lengths-step (start_at table k) (get_or table (suc k) 0) (drop (suc k) (endsOf table))
      (rw (start_is table laid.words laid.few k (omega arith), ends-step table laid.words laid.few k h) at g) in
      record { rises = s.rises; short = s.short; within = lengths-within _ _ s.rest }

  pub used-within : start_at table (get_or table 0 0) ≤ 8192
  used-within =
      rw (start_is table laid.words laid.few (get_or table 0 0) (omega arith)) at
      (lengths-within _ _ (lengths-drop 0 (endsOf table) (get_or table 0 0) laid.rising))

  -- a part that ends within the first 8,192 bytes is a part of all that was lent
  within-pool : (s e : ℕ) → s < e → e ≤ 8192 → take (e - s) (drop s (take 8192 pool)) ≡ take (e - s) (drop s pool)
  within-pool s e l h =
      let n : 8192 ≡ s + (8192 - s) = omega arith in
      ap (λ (m : ℕ). take (e - s) (drop s (take m pool))) n
      ∙ ap (λ (p : Bytes). take (e - s) (drop s p)) (take-add s (8192 - s) pool)
      ∙ ap (take (e - s)) (drop_at (take s pool) (take (8192 - s) (drop s pool)) s (length-take-le s pool (omega (arith, laid.bytes))))
      ∙ take-take (e - s) (8192 - s) (drop s pool) (omega arith)

  -- the names from the number k on
  pub names-from : (k : ℕ) → k ≤ get_or table 0 0 → drop k (names_of (table_of pool table)) ≡ cut (start_at table k) (drop k (endsOf table)) (take 8192 pool)
  unfolding names_of table_of endsOf
  names-from k h =
      cut-drop 0 (endsOf table) (take 8192 pool) k
      ∙ ap (λ (s : ℕ). cut s (drop k (endsOf table)) (take 8192 pool)) (start_is table laid.words laid.few k h)

  pub names-step : (k : ℕ) → k < get_or table 0 0
      → drop k (names_of (table_of pool table)) ≡ part_of pool table k ∷ drop (suc k) (names_of (table_of pool table))
  unfolding cut
  names-step k h =
      let p = placed k h in
      names-from k (omega arith)
      ∙ ap (λ (es : List ℕ). cut (start_at table k) es (take 8192 pool)) (ends-step table laid.words laid.few k h)
      ∙ ap₂ {C = List Bytes} (λ n ns. n ∷ ns) (within-pool (start_at table k) (get_or table (suc k) 0) p.rises p.within) (sym (names-from (suc k) h))

  pub names-end : drop (get_or table 0 0) (names_of (table_of pool table)) ≡ []
  names-end = drop_of_length-le (names_of (table_of pool table)) {i = get_or table 0 0} (omega (arith, length-names laid))

  pub name-is : (k : ℕ) → k < get_or table 0 0 → get_or (names_of (table_of pool table)) k [] ≡ part_of pool table k
  name-is k h = cc (drop-cons (names_of (table_of pool table)) k [] (omega (arith, length-names laid)), names-step k h)

  -- a held name starts where the word of the end before it says
  pub start-in : (k : ℕ) → k < get_or table 0 0 → start_in (table_of pool table) k ≡ start_at table k
  unfolding start_in table_of endsOf
  start-in zero h = refl
  start-in (suc k) h = ends-get table laid.words laid.few k (omega arith)

  pub part_length : (k : ℕ) → k < get_or table 0 0 → length (part_of pool table k) ≡ get_or table (suc k) 0 - start_at table k
  part_length k h =
      let p = placed k h in
      length-take-le _ _ (simp length-drop (omega (arith, laid.bytes)))

-- ══ The search for a name ══

pub search-any : (i : ℕ) (n : Bytes) (ms : List Bytes) → any (sameBytes n) ms ≡ not (is_none (number_of i n ms))
unfolding any number_of
search-any i n [] = refl
search-any i n (m ∷ ms) = go (sameBytes n m) refl (search-any (suc i) n ms)
  where
    go : (b : Bool) → sameBytes n m ≡ b → any (sameBytes n) ms ≡ not (is_none (number_of (suc i) n ms))
        → sameBytes n m || any (sameBytes n) ms ≡ not (is_none (number_of i n (m ∷ ms)))
    go true e r = rw (e, number_of)
    go false e r = rw (e, number_of) r

pub search-hit : (i : ℕ) (n m : Bytes) (ms : List Bytes) → sameBytes n m ≡ true → number_of i n (m ∷ ms) ≡ some i
unfolding number_of
search-hit i n m ms e = rw (e, number_of)

pub search-miss : (i : ℕ) (n m : Bytes) (ms : List Bytes) → sameBytes n m ≡ false → number_of i n (m ∷ ms) ≡ number_of (suc i) n ms
unfolding number_of
search-miss i n m ms e = rw (e, number_of)

-- a number that a search found has that name
pub record Found (i k : ℕ) (n : Bytes) (ms : List Bytes) : Type 0 where
  pub place : ℕ
  pub counted : k ≡ i + place
  pub held : place < length ms
  pub name : get_or ms place [] ≡ n

pub search-found : (i k : ℕ) (n : Bytes) (ms : List Bytes) → number_of i n ms ≡ some k → Found i k n ms
unfolding number_of
search-found i k n [] h = absurd (cc)
search-found i k n (m ∷ ms) h = go (sameBytes n m) refl (search-found (suc i) k n ms)
  where
    go : (b : Bool) → sameBytes n m ≡ b → (number_of (suc i) n ms ≡ some k → Found (suc i) k n ms) → Found i k n (m ∷ ms)
    go true e r =
        let z : i ≡ k = cc (search-hit i n m ms e) in
        record { place = 0; counted = omega arith; held = omega arith; name = sym (same-is n m e) }
    go false e r =
        let f = r (sym (search-miss i n m ms e) ∙ h) in
        record { place = suc f.place; counted = omega arith; held = omega arith; name = f.name }

-- a name that a search did not find has no number
pub search-none : (n : Bytes) (ms : List Bytes) → any (sameBytes n) ms ≡ false → (j : ℕ) → j < length ms → get_or ms j [] ≡ n → ⊥
search-none n ms h j k e =
    let z : true ≡ false = sym (any_at (sameBytes n) ms j k (same-yes n (get_or ms j []) (sym e))) ∙ h in
    cc

-- ══ The checks of a call ══

module _ {pool table : List ℕ} where
  -- a call that got past 10 and 1 has a good table
  pub given-good : tableGiven pool table ≡ got tt → Good pool table
  unfolding tableGiven lentTable
  given-good e =
      let long = need-passed _ 10 (first-passed (need (tableGood (table_of pool table)) 1) tt (need (leb 8192 (length pool) && leb 257 (length table)) 10) e) in
      record {
        bytes = leb-true 8192 (length pool) (and_left (leb 8192 (length pool)) _ long);
        words = leb-true 257 (length table) (and_right (leb 8192 (length pool)) _ long);
        good = need-passed _ 1 (next-passed (need (tableGood (table_of pool table)) 1) tt (need (leb 8192 (length pool) && leb 257 (length table)) 10) e);
      }

  pub good-given : Good pool table → tableGiven pool table ≡ got tt
  unfolding tableGiven lentTable
  good-given g = rw (le-leb 8192 (length pool) g.bytes, le-leb 257 (length table) g.words, g.good)

-- a number that has a name
pub record Asked (pool table : List ℕ) (i : ℕ) (n : Bytes) : Type 0 where
  pub good : Good pool table
  pub held : i < get_or table 0 0
  pub name : get_or (names_of (table_of pool table)) i [] ≡ n

module _ {pool table : List ℕ} where
  pub asked-name : {i : ℕ} {n : Bytes} → nameAsked pool table i ≡ got n → Asked pool table i n
  unfolding nameAsked table_of
  asked-name {i} {n} h =
      let rest = need (ltb i (get_or table 0 0)) 3 >> got (get_or (names_of (table_of pool table)) i []) in
      let k : rest ≡ got n = next-passed rest n (tableGiven pool table) h in
      record {
        good = given-good (first-passed rest n (tableGiven pool table) h);
        held = ltb-true i (get_or table 0 0)
            (need-passed _ 3 (first-passed (got (get_or (names_of (table_of pool table)) i [])) n (need (ltb i (get_or table 0 0)) 3) k));
        name = cc (next-passed (got (get_or (names_of (table_of pool table)) i [])) n (need (ltb i (get_or table 0 0)) 3) k);
      }

  pub name-asked : Good pool table → (i : ℕ) → i < get_or table 0 0 → nameAsked pool table i ≡ got (get_or (names_of (table_of pool table)) i [])
  unfolding nameAsked table_of
  name-asked g i h = rw (good-given g, lt-ltb i (get_or table 0 0) h)

-- ══ Entering ══

-- the first free pool byte, as a word of the table
pub free-is : {pool table : List ℕ} → Laid pool table → used 0 (held (table_of pool table)) ≡ start_at table (get_or table 0 0)
unfolding table_of endsOf
free-is {pool} {table} laid = used-is table laid.words laid.few

module _ {pool table : List ℕ} (laid : Laid pool table) (name : Bytes) where
  pub room-is : hasRoom (table_of pool table) name ≡ (ltb (get_or table 0 0) 256 && leb (start_at table (get_or table 0 0) + length name) 8192)
  unfolding hasRoom table_of endsOf
  room-is = ap (λ (u : ℕ). ltb (get_or table 0 0) 256 && leb (u + length name) 8192) (used-is table laid.words laid.few)

  pub new_is : enterNew pool table name ≡ record {
    answer = got (get_or table 0 0, New);
    pool = take (start_at table (get_or table 0 0)) pool ++ name ++ drop (start_at table (get_or table 0 0) + length name) pool;
    table = set (set table 0 (suc (get_or table 0 0))) (suc (get_or table 0 0)) (start_at table (get_or table 0 0) + length name);
  }
  unfolding enterNew table_of endsOf
  new_is = ap (λ (free : ℕ). record {
    answer = got (get_or table 0 0, New);
    pool = take free pool ++ name ++ drop (free + length name) pool;
    table = set (set table 0 (suc (get_or table 0 0))) (suc (get_or table 0 0)) (free + length name);
  }) (used-is table laid.words laid.few)

-- the order of the numbers of a table that passed its checks tells them apart
pub held-apart : (pool table : List ℕ) → Good pool table → Tells (λ n. is_held (table_of pool table) n ≡ true) (numbersOf (table_of pool table)).order
held-apart pool table g = record { same = λ i j h k. (held_tells g).same i j (below i h) (below j k) }
  where
    below : (i : ℕ) → is_held (table_of pool table) i ≡ true → i < get_or table 0 0
    below i h = rw (count-is pool table) at (ltb-true i (table_of pool table).count h)
