-- What follows from the definitions of specs/Entry: the checks of the judge at entry, and what is known where they are met.
use Rattle.std.specs.Prelude.{Result, Ok, Err, IfOk, ◌≡◌, Bool, true, ◌&&◌, ℕ, ◌/◌, ◌%◌, ◌≤◌, ◌<◌, eqb}
use Rattle.std.specs.Prelude.{List, [], ◌∷◌, map, length, replicate}
use Rattle.std.proofs.Math.Path.{refl, sym}
use Rattle.std.proofs.Common.{ap, ◌∙◌}
use Rattle.std.proofs.Math.Bool.{false}
use borrow.Author.Tests.{leb-true, lt-leb, le-leb, eq-eqb, ne_eqb}
use Rattle.std.proofs.Math.Dec.{leb}
use Rattle.rules.specs.Base.{Got, got, refused, ◌>>=◌, ◌>>◌, need, all}
use Rattle.rules.specs.Calls.{Entry, shortLists, shortNumbers, tableKept, setGiven, boundsGiven, risingBounds, lentWork, workAfter, judgedSet, judgeCall}
use Rattle.rules.specs.Names.{Table, table_of, tableGiven, lentTable}
use Rattle.rules.specs.Reading.{readBound}
use Rattle.rules.specs.Refusals.{number_of, told, toldBy}
use Rattle.rules.specs.Trees.{Open, Con}
use Rattle.rules.specs.WellFormed.{rising}
use Rattle.rules.specs.Writing.{word_of}
use Rattle.rules.specs.declared.Refusal.{Refusal}
use Rattle.laws.proofs.Checks.{need-passed, first-passed, next-passed}
use Rattle.laws.proofs.Lists.{clash}
use Rattle.names.specs.Told.{unit_of}
use Rattle.names.specs.declared.tables.NameTable.{NameTable}
use Rattle.records.specs.Good.{Chain, Chained, GoodBound, numbers, goodOpen}
use Rattle.records.proofs.Given.{list-told}
use Rattle.records.specs.Schemes.{bound-reader}
use Rattle.types.specs.Given.{over_table, set_over}
use Rattle.types.proofs.Tested as tables
use Rattle.types.proofs.Tested.{over, kept, past_table, as-refused}
use Rattle.judge.specs.Told.{judgedAs}
use Rattle.judge.specs.Entry.{lentAll, entered, judged_over, judgedPast, judgedRest, Entered, given}

pub all-lent : (pool table work : List ℕ) → lentAll pool table work ≡ got tt → (lentTable pool table ≡ got tt) × (16384 ≤ length work)
unfolding lentWork
all-lent pool table work e = (
  first-passed (need (leb 16384 (length work)) 10) tt (lentTable pool table) e,
  leb-true 16384 (length work) (need-passed (leb 16384 (length work)) 10
      (next-passed (need (leb 16384 (length work)) 10) tt (lentTable pool table) e)),
)

-- ══ Too long ══

module _ (set types bounds : List ℕ) (es : List Entry) where
  shorts : Got (Unit {0})
  shorts = shortLists (set ∷ types ∷ bounds ∷ []) >> shortNumbers es

  tests : (a b c d : Bool) → leb (length set) 8192 ≡ a → leb (length types) 8192 ≡ b → leb (length bounds) 8192 ≡ c → leb (length es) 2048 ≡ d
      → shorts ≡ (need (a && (b && (c && true))) 8 >> need d 8)
  unfolding shortLists shortNumbers all shorts
  tests a b c d p q r s = rw (p, q, r, s)

  second-long : (a c d : Bool) → (need (a && (false && (c && true))) 8 >> need d 8) ≡ refused 8
  second-long true c d = refl
  second-long false c d = refl

  third-long : (a b d : Bool) → (need (a && (b && (false && true))) 8 >> need d 8) ≡ refused 8
  third-long true true d = refl
  third-long true false d = refl
  third-long false b d = refl

  last-long : (a : Bool) → (need a 8 >> need false 8) ≡ refused 8
  last-long true = refl
  last-long false = refl

  module _ (names : Result NameTable Refusal) where
    over-long : shorts ≡ refused 8 → refused 8 ≡ entered names set es types bounds
    unfolding shorts
    over-long e = sym (rw e)

    pub types_long : 8192 < length types → refused 8 ≡ entered names set es types bounds
    types_long h = over-long (tests _ _ _ _ refl (lt-leb (length types) 8192 h) refl refl
        ∙ second-long (leb (length set) 8192) (leb (length bounds) 8192) (leb (length es) 2048))

    pub bounds-long : 8192 < length bounds → refused 8 ≡ entered names set es types bounds
    bounds-long h = over-long (tests _ _ _ _ refl refl (lt-leb (length bounds) 8192 h) refl
        ∙ third-long (leb (length set) 8192) (leb (length types) 8192) (leb (length es) 2048))

    pub many-long : 2048 < length es → refused 8 ≡ entered names set es types bounds
    many-long h = over-long (tests _ _ _ _ refl refl refl (lt-leb (length es) 2048 h)
        ∙ last-long (leb (length set) 8192 && (leb (length types) 8192 && (leb (length bounds) 8192 && true))))

    one_way : {A : Type 0} (a : Bool) (M : Got A) → (need (a && true) 8 >> M) ≡ ((need (a && (true && (true && true))) 8 >> need true 8) >> M)
    one_way true M = refl
    one_way false M = refl

    -- where the others are short, the set is all that is left to look at
    pub set-left : length types ≤ 8192 → length bounds ≤ 8192 → length es ≤ 2048 → set_over names set ≡ entered names set es types bounds
    unfolding shortLists all shorts shortNumbers
    set-left p q r = rw (le-leb (length types) 8192 p, le-leb (length bounds) 8192 q, le-leb (length es) 2048 r)
        (one_way (leb (length set) 8192) (over_table names (λ t. setGiven t set)))

  -- ══ Met ══

  short-all : (a b c d : Bool) → (need (a && (b && (c && true))) 8 >> need d 8) ≡ got tt → (a ≡ true) × ((b ≡ true) × (d ≡ true))
  short-all true true true true e = (refl, (refl, refl))
  short-all true true true false e = clash e
  short-all true true false d e = clash e
  short-all true false c d e = clash e
  short-all false b c d e = clash e

  pub record CameIn (names : Result NameTable Refusal) (n : NameTable) (cs : List (Con ℕ)) : Type 0 where
    pub known : Entered n.pool.now n.table.now set types cs
    pub few : length es ≤ 2048
    pub rest : judgedRest n.pool.now n.table.now es types bounds cs ≡ judged_over names set es types bounds

  pub came-in : (names : Result NameTable Refusal) (n : NameTable) (cs : List (Con ℕ)) → names ≡ Ok n → got cs ≡ entered names set es types bounds
      → CameIn names n cs
  unfolding judgedSet shorts
  came-in names n cs i e =
      let given = setGiven (table_of n.pool.now n.table.now) set in
      let e' : (shorts >> given) ≡ got cs = sym (rw i at e) in
      let s = first-passed given cs shorts e' in
      let g = next-passed given cs shorts e' in
      let p = short-all (leb (length set) 8192) (leb (length types) 8192) (leb (length bounds) 8192) (leb (length es) 2048)
      (sym (tests _ _ _ _ refl refl refl refl) ∙ s) in
      record {
        known = record { good = n.good; given = g; short = leb-true (length set) 8192 p.0; types-short = leb-true (length types) 8192 p.1.0 };
        few = leb-true (length es) 2048 p.1.1;
        rest = sym (rw (i, s, kept n, g));
      }

  pub kept_out : (names : Result NameTable Refusal) (k : ℕ) → refused k ≡ entered names set es types bounds → refused k ≡ judged_over names set es types bounds
  unfolding judgedSet shorts
  kept_out (Ok n) k e =
      let t = over n in
      ap (λ m. m >>= judgedPast t es types bounds) e
      ∙ sym (past_table shorts (tableKept t) (setGiven t set) (judgedPast t es types bounds) (kept n))
  kept_out (Err why) k e = sym (as-refused shorts k (number_of why) e)

  -- over the table that was tested it is what the call asks
  module _ (pool table : List ℕ) (l : lentTable pool table ≡ got tt) where
    abbrev past : Table → Got (Unit {0}) → Got Bool
    past t k = shorts >> (k >> (setGiven t set >>= judgedPast t es types bounds))

    pub tested : (names : Result NameTable Refusal) → toldBy unit_of names ≡ tableGiven pool table
        → IfOk names (λ n. (n.pool.now ≡ pool) × (n.table.now ≡ table))
        → judged_over names set es types bounds ≡ judgedSet (table_of pool table) set es types bounds
    unfolding judgedSet shorts
    tested = tables.tested past pool table l (λ names. judged_over names set es types bounds) (λ n. refl) (λ why. refl)

module _ (pool table : List ℕ) where
  -- ══ Bounds ══

  module _ (bounds : List ℕ) where
    none : {A : Type 0} (m : Got A) → (m >> got (tt {0})) ≡ refused 1 → m ≡ refused 1
    none (got a) e = clash (sym e)
    none (refused n) e = cc

    given-told : (b : Bool) → Chained (GoodBound pool table 0 bounds) (length bounds / 4) 0 b
        → (boundsGiven (table_of pool table) bounds >> got (tt {0})) ≡ need (eqb (length bounds % 4) 0 && b) 1
    unfolding boundsGiven
    given-told b h = list-told bounds readBound (goodOpen pool table 0) (GoodBound pool table 0 bounds) (bound-reader bounds pool table 0) b h

    pub not-whole : (b : Bool) → Chained (GoodBound pool table 0 bounds) (length bounds / 4) 0 b → (length bounds % 4 ≡ 0 → ⊥)
        → risingBounds (table_of pool table) bounds ≡ refused 1
    unfolding risingBounds
    not-whole b h n = rw (none (boundsGiven (table_of pool table) bounds) (given-told b h ∙ rw (ne_eqb (length bounds % 4) 0 n)))

    pub not_good : length bounds % 4 ≡ 0 → Chained (GoodBound pool table 0 bounds) (length bounds / 4) 0 false
        → risingBounds (table_of pool table) bounds ≡ refused 1
    unfolding risingBounds
    not_good e h = rw (none (boundsGiven (table_of pool table) bounds) (given-told false h ∙ rw (eq-eqb (length bounds % 4) 0 e)))

    module _ (e : length bounds % 4 ≡ 0) (os : List (Open ℕ)) (c : Chain (GoodBound pool table 0 bounds) (length bounds / 4) os 0) where
      pub not-rising : rising (numbers pool table).order (map word_of os) ≡ false → risingBounds (table_of pool table) bounds ≡ refused 1
      unfolding risingBounds
      not-rising r = rw (given pool table bounds e os c, r)

      pub are-rising : rising (numbers pool table).order (map word_of os) ≡ true → risingBounds (table_of pool table) bounds ≡ got (map word_of os)
      unfolding risingBounds
      are-rising r = rw (given pool table bounds e os c, r)

-- ══ The call ══

module _ (pool table set types bounds work : List ℕ) (es : List Entry) where
  pub call-short : (v : Result Bool Refusal) → told v ≡ refused 10 → lentAll pool table work ≡ refused 10
      → judgedAs v work ≡ judgeCall pool table set es types bounds work
  unfolding judgeCall workAfter
  call-short v i e = rw (e, i)

  pub called : (v : Result Bool Refusal) (w work' : List ℕ) → length w ≡ length work → lentAll pool table work ≡ got tt
      → told v ≡ judgedSet (table_of pool table) set es types bounds → work' ≡ replicate (length w) 0
      → judgedAs v work' ≡ judgeCall pool table set es types bounds work
  unfolding judgeCall workAfter
  called v w work' n e a z = rw (e, a, z, n)
