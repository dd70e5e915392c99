-- What follows from the definitions of specs/Entering: what entering a new name does to a table: one name more, all others as they were, and the table stays
-- well formed.
use Rattle.std.specs.Prelude.{◌≡◌, ◌⊎◌, Bool, ◌&&◌, ◌||◌, ℕ, zero, suc, ◌+◌, ◌-◌, ◌≤◌, ◌<◌, ltb, take, drop, set}
use Rattle.std.proofs.Math.Path.{refl, sym, ap, ap₂}
use Rattle.std.proofs.Common.{
  ◌∙◌,
  inl,
  inr,
  arith,
  length-append,
  take-take,
  take_at,
  drop_at,
  length-take-le,
  take-suc-set,
  get_or-set_same,
  get_or-set_other,
  get_or-take,
  drop-drop,
  drop-set-lt,
}
use Rattle.std.proofs.Math.Bool.{true, false, not}
use mathlib.Core.List.{List, [], ◌∷◌, ◌++◌, append_assoc}
use Rattle.std.proofs.Math.Option.{Option, none, some}
use Rattle.std.proofs.Math.Nat.{sub-zero}
use borrow.Author.Tests.{ltb-true, ltb-false, leb-true, leb-false, lt-ltb, le-leb}
use Rattle.std.proofs.Math.Dec.{leb}
use Rattle.std.proofs.Math.ListN.{length, get_or, length-drop, length-set}
use Rattle.std.proofs.Math.Seq.{take-nil, take-append_seam}
use Rattle.rules.specs.Base.{Got, got, refused, need, ◌>>◌, any, is_none}
use Rattle.rules.specs.Names.{
  Bytes,
  Table,
  is_held,
  nameAsked,
  table_of,
  cut,
  names_of,
  used,
  lengthsGood,
  sameBytes,
  distinct,
  tableGood,
  tableGiven,
  lentTable,
  number_of,
  hasRoom,
  unchanged,
  enterNew,
  enterKnown,
  enterChecks,
  enterChecked,
  enter,
}
use Rattle.rules.specs.declared.Was.{Was}
use Rattle.rules.specs.declared.Was.TheVariants.{New, Known}
use Rattle.laws.proofs.Checks.{need-passed, first-passed, next-passed}
use Rattle.laws.specs.Lists.{and_left, and_right}
use Rattle.laws.proofs.Lists.{got≢refused, same-number}
use Rattle.laws.specs.NameTable.{endsOf, start_at, Laid, Good}
use Rattle.laws.proofs.NameTable.{lengths-step, same-no, used-is, used-within, given-good, good-given, Asked, search-any}
use Rattle.laws.proofs.NameTable.{search-found, room-is, new_is, same-yes, length-names, good-laid, good-distinct, good-is}
use Rattle.laws.specs.Entering.{SameFront}

-- ══ One end more ══

pub drop-take : (m n : ℕ) (l : List ℕ) → drop m (take n l) ≡ take (n - m) (drop m l)
drop-take zero n l = ap (λ (k : ℕ). take k l) (sym (sub-zero n))
drop-take (suc m) zero l = ap (λ (k : ℕ). take k (drop (suc m) l)) {x = 0} {y = 0 - suc m} (omega arith)
drop-take (suc m) (suc n) [] = sym (take-nil (suc n - suc m))
drop-take (suc m) (suc n) (x ∷ l) = drop-take m n l ∙ ap (λ (k : ℕ). take k (drop m l)) {x = n - m} {y = suc n - suc m} (omega arith)

ends_more : (w : ℕ) (ws : List ℕ) (e : ℕ) → w < 256 → 256 ≤ length ws → endsOf (suc w ∷ set ws w e) ≡ endsOf (w ∷ ws) ++ (e ∷ [])
unfolding endsOf
ends_more w ws e h k =
    take-take (suc w) 256 (set ws w e) (omega arith)
    ∙ take-suc-set ws w e (omega arith)
    ∙ ap (λ (l : List ℕ). l ++ (e ∷ [])) (sym (take-take w 256 ws (omega arith)))

-- the ends of a table with one end more
pub ends-new : (table : List ℕ) (e : ℕ) → 257 ≤ length table → get_or table 0 0 < 256
    → endsOf (set (set table 0 (suc (get_or table 0 0))) (suc (get_or table 0 0)) e) ≡ endsOf table ++ (e ∷ [])
ends-new [] e h k = absurd (omega arith)
ends-new (w ∷ ws) e h k = ends_more w ws e k (omega arith)

cut-more : (at : ℕ) (es : List ℕ) (e : ℕ) (p : List ℕ) → cut at (es ++ (e ∷ [])) p ≡ cut at es p ++ (take (e - used at es) (drop (used at es) p) ∷ [])
unfolding cut used
cut-more at [] e p = refl
cut-more at (d ∷ es) e p = ap (λ (l : List Bytes). take (d - at) (drop at p) ∷ l) (cut-more d es e p)

rises-to : (at : ℕ) (es : List ℕ) → lengthsGood at es ≡ true → at ≤ used at es
unfolding used
rises-to at [] h = omega arith
rises-to at (e ∷ es) h =
    let s = lengths-step at e es h in
    let r = rises-to e es s.rest in
    omega arith

-- names lie before the first free byte: what stands behind it doesn't matter
cut-alike : (at : ℕ) (es : List ℕ) (p q : List ℕ) → lengthsGood at es ≡ true → take (used at es) p ≡ take (used at es) q → cut at es p ≡ cut at es q
unfolding cut used
cut-alike at [] p q h k = refl
cut-alike at (e ∷ es) p q h k =
    let s = lengths-step at e es h in
    let r = rises-to e es s.rest in
    let first : take e p ≡ take e q = sym (take-take e (used e es) p r) ∙ ap (take e) k ∙ take-take e (used e es) q r in
    ap₂ {C = List Bytes} (λ n ns. n ∷ ns)
    (sym (drop-take at e p) ∙ ap (drop at) first ∙ drop-take at e q)
    (cut-alike e es p q s.rest k)

lengths-more : (at : ℕ) (es : List ℕ) (e : ℕ) → lengthsGood at es ≡ true → used at es < e → e ≤ used at es + 48 → e ≤ 8192
    → lengthsGood at (es ++ (e ∷ [])) ≡ true
unfolding lengthsGood used
lengths-more at [] e h r s w = rw (lt-ltb at e r, le-leb e (at + 48) s, le-leb e 8192 w)
lengths-more at (d ∷ es) e h r s w =
    let t = lengths-step at d es h in
    rw (lt-ltb at d t.rises, le-leb d (at + 48) t.short) (lengths-more d es e t.rest r s w)

any-more : (f : Bytes → Bool) (ns : List Bytes) (n : Bytes) → any f ns ≡ false → f n ≡ false → any f (ns ++ (n ∷ [])) ≡ false
unfolding any
any-more f [] n h k = rw k
any-more f (m ∷ ns) n h k = go (f m) refl (any-more f ns n)
  where
    go : (b : Bool) → f m ≡ b → (any f ns ≡ false → f n ≡ false → any f (ns ++ (n ∷ [])) ≡ false) → f m || any f (ns ++ (n ∷ [])) ≡ false
    go true e r = let z : true ≡ false = rw e at h in cc
    go false e r = rw e (r (rw e at h) k)

distinct_more : (ns : List Bytes) (n : Bytes) → distinct ns ≡ true → any (sameBytes n) ns ≡ false → distinct (ns ++ (n ∷ [])) ≡ true
unfolding distinct any
distinct_more [] n d h = refl
distinct_more (m ∷ ns) n d h = go (sameBytes n m) refl (any (sameBytes m) ns) refl (distinct_more ns n)
  where
    go : (b : Bool) → sameBytes n m ≡ b → (c : Bool) → any (sameBytes m) ns ≡ c
        → (distinct ns ≡ true → any (sameBytes n) ns ≡ false → distinct (ns ++ (n ∷ [])) ≡ true)
        → not (any (sameBytes m) (ns ++ (n ∷ []))) && distinct (ns ++ (n ∷ [])) ≡ true
    go true e c f r = let z : true ≡ false = rw e at h in cc
    go false e true f r = let z : false ≡ true = rw f at d in cc
    go false e false f r =
        rw (any-more (sameBytes m) ns n f
        (same-no m n (λ q. let z : true ≡ false = sym (same-yes n m (sym q)) ∙ e in cc)))
        (r (rw f at d) (rw e at h))

-- ══ One name more ══

-- the pool and the table after a new name
abbrev pub poolWith : List ℕ → List ℕ → Bytes → List ℕ
poolWith pool table name = (enterNew pool table name).pool

abbrev pub tableWith : List ℕ → List ℕ → Bytes → List ℕ
tableWith pool table name = (enterNew pool table name).table

-- what a new name is entered under
pub record Enters (pool table : List ℕ) (name : Bytes) : Type 0 where
  pub good : Good pool table
  pub long : 1 ≤ length name
  pub short : length name ≤ 48
  pub number : get_or table 0 0 < 256
  pub bytes : start_at table (get_or table 0 0) + length name ≤ 8192
  pub new : any (sameBytes name) (names_of (table_of pool table)) ≡ false

module _ {pool table : List ℕ} {name : Bytes} (en : Enters pool table name) where
  laid : Laid pool table
  laid = good-laid en.good

  free : ℕ
  free = used 0 (endsOf table)

  free-is : free ≡ start_at table (get_or table 0 0)
  unfolding free
  free-is = used-is table laid.words laid.few

  fits : free + length name ≤ 8192
  fits = rw free-is en.bytes

  pool-is : poolWith pool table name ≡ take free pool ++ name ++ drop (free + length name) pool
  pool-is = ap (λ r. r.pool) (new_is laid name) ∙ ap (λ (f : ℕ). take f pool ++ name ++ drop (f + length name) pool) (sym free-is)

  table_is : tableWith pool table name ≡ set (set table 0 (suc (get_or table 0 0))) (suc (get_or table 0 0)) (free + length name)
  table_is = ap (λ r. r.table) (new_is laid name)
      ∙ ap (λ (f : ℕ). set (set table 0 (suc (get_or table 0 0))) (suc (get_or table 0 0)) (f + length name)) (sym free-is)

  pub count-with : get_or (tableWith pool table name) 0 0 ≡ suc (get_or table 0 0)
  count-with =
      ap (λ (t : List ℕ). get_or t 0 0) table_is
      ∙ get_or-set_other (set table 0 (suc (get_or table 0 0))) (suc (get_or table 0 0)) 0 (free + length name) 0 (λ e. omega arith)
      ∙ get_or-set_same table 0 (suc (get_or table 0 0)) 0 (omega (arith, laid.words))

  ends_with : endsOf (tableWith pool table name) ≡ endsOf table ++ ((free + length name) ∷ [])
  ends_with = ap endsOf table_is ∙ ends-new table (free + length name) laid.words en.number

  free-within : length (take free pool) ≡ free
  free-within = length-take-le free pool (omega (arith, fits, laid.bytes))

  -- the pool's bytes before the first free one are as they were
  front : take free (take 8192 (poolWith pool table name)) ≡ take free (take 8192 pool)
  front =
      take-take free 8192 (poolWith pool table name) (omega (arith, fits))
      ∙ ap (take free) (pool-is ∙ append_assoc (take free pool) name (drop (free + length name) pool))
      ∙ take_at (take free pool) (name ++ drop (free + length name) pool) free free-within
      ∙ sym (take-take free 8192 pool (omega (arith, fits)))

  -- and the name stands there
  behind : take (free + length name - free) (drop free (take 8192 (poolWith pool table name))) ≡ name
  behind =
      let e : free + length name - free ≡ length name = omega arith in
      ap (λ (k : ℕ). take k (drop free (take 8192 (poolWith pool table name)))) e
      ∙ ap (take (length name)) (drop-take free 8192 (poolWith pool table name))
      ∙ take-take (length name) (8192 - free) (drop free (poolWith pool table name)) (omega (arith, fits))
      ∙ ap (λ (p : List ℕ). take (length name) (drop free p)) (pool-is ∙ append_assoc (take free pool) name (drop (free + length name) pool))
      ∙ ap (take (length name)) (drop_at (take free pool) (name ++ drop (free + length name) pool) free free-within)
      ∙ take-append_seam name (drop (free + length name) pool)

  -- one name more, at the end
  pub names-with : names_of (table_of (poolWith pool table name) (tableWith pool table name)) ≡ names_of (table_of pool table) ++ (name ∷ [])
  unfolding names_of table_of endsOf free
  names-with =
      ap (λ (es : List ℕ). cut 0 es (take 8192 (poolWith pool table name))) ends_with
      ∙ cut-more 0 (endsOf table) (free + length name) (take 8192 (poolWith pool table name))
      ∙ ap₂ {C = List Bytes} (λ ns n. ns ++ (n ∷ []))
      (cut-alike 0 (endsOf table) (take 8192 (poolWith pool table name)) (take 8192 pool) laid.rising front) behind

  pub good-with : Good (poolWith pool table name) (tableWith pool table name)
  unfolding free
  good-with = record {
    bytes = rw pool-is (simp (length-append, length-drop, free-within) (omega (arith, fits, laid.bytes)));
    words = rw table_is (simp length-set laid.words);
    good = good-is (poolWith pool table name) (tableWith pool table name)
        ∙ rw (
          count-with,
          le-leb (suc (get_or table 0 0)) 256 (omega (arith, en.number)),
          ends_with,
          lengths-more 0 (endsOf table) (free + length name) laid.rising (omega (arith, en.long)) (omega (arith, en.short)) fits,
          names-with,
        ) (distinct_more (names_of (table_of pool table)) name (good-distinct en.good) en.new);
  }

  pub pool-behind : drop 8192 (poolWith pool table name) ≡ drop 8192 pool
  pool-behind =
      let n : 8192 ≡ free + length name + (8192 - (free + length name)) = omega (arith, fits) in
      let all = drop (free + length name) pool in
      ap (λ (k : ℕ). drop k (poolWith pool table name)) n
      ∙ sym (drop-drop (8192 - (free + length name)) (free + length name) (poolWith pool table name))
      ∙ ap (λ (p : List ℕ). drop (8192 - (free + length name)) (drop (free + length name) p)) pool-is
      ∙ ap (drop (8192 - (free + length name)))
      (drop_at (take free pool ++ name) all (free + length name)
      (length-append (take free pool) name ∙ ap (λ (k : ℕ). k + length name) free-within))
      ∙ drop-drop (8192 - (free + length name)) (free + length name) pool
      ∙ ap (λ (k : ℕ). drop k pool) (sym n)

  pub table-behind : drop 257 (tableWith pool table name) ≡ drop 257 table
  table-behind =
      ap (drop 257) table_is
      ∙ drop-set-lt 257 (set table 0 (suc (get_or table 0 0))) (suc (get_or table 0 0)) (free + length name) (omega (arith, en.number))
      ∙ drop-set-lt 257 table 0 (suc (get_or table 0 0)) (omega arith)

-- ══ The cases of entering ══

-- the room that is missing: a number, or bytes
pub record Missing (pool table : List ℕ) (name : Bytes) : Type 0 where
  pub room : (256 ≤ get_or table 0 0) ⊎ (8192 - start_at table (get_or table 0 0) < length name)

pub data Case (pool table : List ℕ) (name : Bytes) : Type 0 where
  stopped : (k : ℕ) → enterChecks pool table name ≡ refused k → enter pool table name ≡ unchanged pool table (refused k) → Case pool table name
  known : (i : ℕ) → Asked pool table i name → enter pool table name ≡ unchanged pool table (got (i, Known)) → Case pool table name
  full : Good pool table → any (sameBytes name) (names_of (table_of pool table)) ≡ false → Missing pool table name
      → enter pool table name ≡ unchanged pool table (refused 3) → Case pool table name
  new : Enters pool table name → enter pool table name ≡ enterNew pool table name → Case pool table name

module _ (pool table : List ℕ) (name : Bytes) where
  -- the checks before the search never refuse with 3
  not_three : (a b c : Bool) (k : ℕ) → ((need a 10 >> need b 1) >> need c 2) ≡ refused k → k ≡ 3 → ⊥
  not_three false b c k h e = omega (arith, same-number h)
  not_three true false c k h e = omega (arith, same-number h)
  not_three true true false k h e = omega (arith, same-number h)
  not_three true true true k h e = got≢refused h

  pub checks-refuse : (k : ℕ) → enterChecks pool table name ≡ refused k → k ≡ 3 → ⊥
  unfolding enterChecks tableGiven lentTable
  checks-refuse k h e = not_three (leb 8192 (length pool) && leb 257 (length table)) (tableGood (table_of pool table))
      (leb 1 (length name) && leb (length name) 48) k h e

  pub record Passed : Type 0 where
    pub good : Good pool table
    pub long : 1 ≤ length name
    pub short : length name ≤ 48

  pub checks-pass : enterChecks pool table name ≡ got tt → Passed
  unfolding enterChecks
  checks-pass h =
      let test = leb 1 (length name) && leb (length name) 48 in
      let sized : test ≡ true = need-passed test 2 (next-passed (need test 2) tt (tableGiven pool table) h) in
      record {
        good = given-good (first-passed (need test 2) tt (tableGiven pool table) h);
        long = leb-true 1 (length name) (and_left (leb 1 (length name)) _ sized);
        short = leb-true (length name) 48 (and_right (leb 1 (length name)) _ sized);
      }

  pub pass-checks : Passed → enterChecks pool table name ≡ got tt
  unfolding enterChecks
  pass-checks p = rw (good-given p.good, le-leb 1 (length name) p.long, le-leb (length name) 48 p.short)

  without-room : Good pool table → hasRoom (table_of pool table) name ≡ false → Missing pool table name
  without-room g h = go (ltb (get_or table 0 0) 256) refl (sym (room-is (good-laid g) name) ∙ h)
    where
      go : (b : Bool) → ltb (get_or table 0 0) 256 ≡ b → (b && leb (start_at table (get_or table 0 0) + length name) 8192) ≡ false → Missing pool table name
      go false e k = record { room = inl (ltb-false (get_or table 0 0) 256 e) }
      go true e k = let l = leb-false (start_at table (get_or table 0 0) + length name) 8192 k
          in record { room = inr (omega (arith, used-within (good-laid g))) }

  with-room : Passed → any (sameBytes name) (names_of (table_of pool table)) ≡ false → hasRoom (table_of pool table) name ≡ true → Enters pool table name
  with-room p a h =
      let r = sym (room-is (good-laid p.good) name) ∙ h in
      record {
        good = p.good;
        long = p.long;
        short = p.short;
        number = ltb-true (get_or table 0 0) 256 (and_left (ltb (get_or table 0 0) 256) _ r);
        bytes = leb-true (start_at table (get_or table 0 0) + length name) 8192 (and_right (ltb (get_or table 0 0) 256) _ r);
        new = a;
      }

  searched : Passed → (f : Option ℕ) → number_of 0 name (names_of (table_of pool table)) ≡ f → (b : Bool) → hasRoom (table_of pool table) name ≡ b
      → enter pool table name ≡ enterKnown f b pool table name → Case pool table name
  unfolding enterKnown
  searched p (some i) e b r h =
      let f = search-found 0 i name (names_of (table_of pool table)) e in
      let z : i ≡ f.place = omega (arith, f.counted) in
      known i (record {
        good = p.good;
        held = omega (arith, f.held, length-names (good-laid p.good));
        name = ap (λ (j : ℕ). get_or (names_of (table_of pool table)) j []) z ∙ f.name;
      }) h
  searched p none e false r h = full p.good (search-any 0 name (names_of (table_of pool table)) ∙ ap (λ (f : Option ℕ). not (is_none f)) e)
      (without-room p.good r) h
  searched p none e true r h = new (with-room p (search-any 0 name (names_of (table_of pool table)) ∙ ap (λ (f : Option ℕ). not (is_none f)) e) r) h

  -- entering ends in one of these cases
  pub enter-case : Case pool table name
  unfolding enter enterChecked
  enter-case = go (enterChecks pool table name) refl
    where
      go : (c : Got (Unit {0})) → enterChecks pool table name ≡ c → Case pool table name
      go (refused k) e = stopped k e (rw (e, enter, enterChecked))
      go (got u) e = searched (checks-pass e) (number_of 0 name (names_of (table_of pool table))) refl (hasRoom (table_of pool table) name) refl
          (rw (e, enter, enterChecked))

-- ══ What lies behind is not read ══

-- the table, from the bytes and words in front
fromFront : List ℕ → List ℕ → Table
fromFront p t = record { count = get_or t 0 0; ends = drop 1 t; pool = p }

table-front : (pool table : List ℕ) → table_of pool table ≡ fromFront (take 8192 pool) (take 257 table)
unfolding table_of fromFront
table-front pool table =
    ap₂ {C = Table} (λ c es. record { count = c; ends = es; pool = take 8192 pool })
    (sym (get_or-take 257 table 0 0 (omega arith)))
    (sym (drop-take 1 257 table))

answerFrom : Option ℕ → Bool → ℕ → Got (ℕ × Was)
answerFrom (some i) b c = got (i, Known)
answerFrom none false c = refused 3
answerFrom none true c = got (c, New)

answer_of : Got (Unit {0}) → Table → Bytes → Got (ℕ × Was)
answer_of (refused k) t name = refused k
answer_of (got u) t name = answerFrom (number_of 0 name (names_of t)) (hasRoom t name) t.count

known-answer : (pool table : List ℕ) (name : Bytes) (f : Option ℕ) (b : Bool)
    → (enterKnown f b pool table name).answer ≡ answerFrom f b (table_of pool table).count
unfolding enterKnown answerFrom enterNew
known-answer pool table name (some i) b = refl
known-answer pool table name none false = refl
known-answer pool table name none true = refl

checked-answer : (pool table : List ℕ) (name : Bytes) (c : Got (Unit {0})) → (enterChecked c pool table name).answer ≡ answer_of c (table_of pool table) name
unfolding enterChecked answer_of
checked-answer pool table name (refused k) = refl
checked-answer pool table name (got u) = known-answer pool table name (number_of 0 name (names_of (table_of pool table))) (hasRoom (table_of pool table) name)

module _ {pool table pool' table' : List ℕ} (s : SameFront pool table pool' table') where
  pub same-table : table_of pool table ≡ table_of pool' table'
  same-table = table-front pool table ∙ ap₂ fromFront s.pools s.tables ∙ sym (table-front pool' table')

  pub same-given : tableGiven pool table ≡ tableGiven pool' table'
  unfolding tableGiven lentTable
  same-given =
      rw (le-leb 8192 (length pool) s.bytes, le-leb 257 (length table) s.words, le-leb 8192 (length pool') s.bytes', le-leb 257 (length table') s.words')
      (ap (λ (t : Table). need (tableGood t) 1) same-table)

  pub same_asked : (i : ℕ) → nameAsked pool table i ≡ nameAsked pool' table' i
  unfolding nameAsked
  same_asked i = ap₂ {C = Got Bytes} (λ g t. g >> (need (is_held t i) 3 >> got (get_or (names_of t) i []))) same-given same-table

  pub same_answer : (name : Bytes) → (enter pool table name).answer ≡ (enter pool' table' name).answer
  unfolding enter enterChecks
  same_answer name =
      checked-answer pool table name (enterChecks pool table name)
      ∙ ap₂ {C = Got (ℕ × Was)} (λ g t. answer_of (g >> need (leb 1 (length name) && leb (length name) 48) 2) t name) same-given same-table
      ∙ sym (checked-answer pool' table' name (enterChecks pool' table' name))
