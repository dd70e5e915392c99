-- The promises of entering are kept, by the cases in which entering ends.
use Rattle.std.proofs.Math.Path.{◌≡◌, sym, ap}
use Rattle.std.specs.Prelude.{refl, false, List, [], ◌∷◌, ℕ, ◌<◌, drop, get_or}
use Rattle.std.proofs.Common.{◌∙◌, arith}
use Rattle.std.proofs.Math.Logic.{⊎_elim}
use Rattle.std.proofs.Math.ListN.{length, take, get_or-append}
use Rattle.std.proofs.lemmas.List.{get_or_at}
use Rattle.rules.specs.Base.{Got, got, refused, any}
use Rattle.rules.specs.Names.{
  Bytes,
  orderBytes,
  numbered,
  sameBytes,
  table_of,
  names_of,
  tableGiven,
  nameAsked,
  partFrom,
  partAsked,
  Entered,
  unchanged,
  enterChecks,
  enterNew,
  enter,
}
use Rattle.rules.specs.declared.Was.{Was}
use Rattle.rules.specs.declared.Was.TheVariants.{New, Known}
use Rattle.laws.proofs.Order.{self}
use Rattle.laws.proofs.ByteOrder.{bytes-lawful}
use Rattle.laws.specs.NameTable.{Good, start_at}
use Rattle.laws.proofs.NameTable.{good-given, Asked, asked-name, name-asked, search-none, free-is, part_of, start-in, part_length}
use Rattle.laws.proofs.NameTable.{name-is, placed, new_is, good-laid, length-names, good-distinct, distinct-same, held_tells}
use Rattle.laws.specs.Entering.{SameFront}
use Rattle.laws.proofs.Entering.{
  Enters,
  Passed,
  checks-refuse,
  pass-checks,
  Case,
  stopped,
  known,
  full,
  new,
  enter-case,
  count-with,
  names-with,
  good-with,
  pool-behind,
  table-behind,
  same_answer,
  same_asked,
}
use Rattle.names.specs.Promises.{Unheld, NoRoom, Promises, NumberPromises, FrontDecides, Alike}

-- ══ Numbers ══

module _ (pool table : List ℕ) where
  no-name-twice : (i j : ℕ) (n : Bytes) → nameAsked pool table i ≡ got n → nameAsked pool table j ≡ got n → i ≡ j
  no-name-twice i j n h k =
      let a = asked-name h in
      let b = asked-name k in
      let l = length-names (good-laid a.good) in
      distinct-same (names_of (table_of pool table)) (good-distinct a.good) i j (omega (arith, a.held)) (omega (arith, b.held)) (a.name ∙ sym b.name)

  -- a name that is held has 1 to 48 bytes, and would pass the checks
  held-passes : {i : ℕ} {n : Bytes} → Asked pool table i n → Passed pool table n
  held-passes {i} {n} a =
      let laid = good-laid a.good in
      let p = placed laid i a.held in
      let e : length n ≡ _ = ap length (sym a.name ∙ name-is laid i a.held) ∙ part_length laid i a.held in
      record { good = a.good; long = omega (arith, p.rises); short = omega (arith, p.short) }

  from-the-pool : (i : ℕ) (n : Bytes) → nameAsked pool table i ≡ got n → n ≡ take (length n) (drop (partAsked pool table i).start pool)
  unfolding partAsked partFrom
  from-the-pool i n h =
      let a = asked-name h in
      let laid = good-laid a.good in
      let e : n ≡ part_of pool table i = sym a.name ∙ name-is laid i a.held in
      rw (h, start-in laid i a.held) (e ∙ ap (λ (k : ℕ). take k (drop (start_at table i) pool)) (sym (ap length e ∙ part_length laid i a.held)))

  pub numbers-kept : NumberPromises pool table
  numbers-kept = record {
    fromThePool = from-the-pool;
    noNameTwice = no-name-twice;
    neverEmpty = λ i h. let p = held-passes (asked-name h) in omega (arith, p.long);
  }

-- ══ Entering ══

-- one answer: one number, and new or known alike
one_answer : {i j : ℕ} {v w : Was} → ◌≡◌ {A = Got (ℕ × Was)} (got (i, v)) (got (j, w)) → (i ≡ j) × (v ≡ w)
one_answer {i} {j} {v} {w} e = let p : ◌≡◌ {A = ℕ × Was} (i, v) (j, w) = cc in (ap (λ q. q.0) p, ap (λ q. q.1) p)

module _ (pool table : List ℕ) (name : Bytes) where
  -- what is to be shown where the answer is the number i
  record Success (i : ℕ) (after : Entered) : Type 0 where
    wellFormed : tableGiven after.pool after.table ≡ got tt
    named : nameAsked after.pool after.table i ≡ got name

  asked_is : {i : ℕ} → Asked pool table i name → nameAsked pool table i ≡ got name
  asked_is {i} a = name-asked a.good i a.held ∙ ap got a.name

  unheld : Good pool table → any (sameBytes name) (names_of (table_of pool table)) ≡ false → Unheld pool table name
  unheld g n j h = let a = asked-name h in search-none name (names_of (table_of pool table)) n j (omega (arith, a.held, length-names (good-laid g))) a.name

  -- a new name gets the next number
  new-number : Enters pool table name → (enterNew pool table name).answer ≡ got (get_or table 0 0, New)
  new-number en = ap (λ r. r.answer) (new_is (good-laid en.good) name)

  new-success : Enters pool table name → Success (get_or table 0 0) (enterNew pool table name)
  new-success en =
      let g = good-with en in
      record {
        wellFormed = good-given g;
        named = name-asked g (get_or table 0 0) (omega (arith, count-with en))
            ∙ ap (λ (ns : List Bytes). got (get_or ns (get_or table 0 0) [])) (names-with en)
            ∙ ap got (get_or_at (names_of (table_of pool table)) name [] [] (get_or table 0 0) (length-names (good-laid en.good)));
      }

  new-keeps : Enters pool table name → (j : ℕ) (n : Bytes) → nameAsked pool table j ≡ got n
      → nameAsked (enterNew pool table name).pool (enterNew pool table name).table j ≡ got n
  new-keeps en j n k =
      let a = asked-name k in
      let l = length-names (good-laid en.good) in
      name-asked (good-with en) j (omega (arith, a.held, count-with en))
      ∙ ap (λ (ns : List Bytes). got (get_or ns j [])) (names-with en)
      ∙ ap got (get_or-append (names_of (table_of pool table)) (name ∷ []) [] j (omega (arith, a.held)) ∙ a.name)

  success : (i : ℕ) (w : Was) → (enter pool table name).answer ≡ got (i, w) → Success i (enter pool table name)
  success i w h = go (enter-case pool table name)
    where
      go : Case pool table name → Success i (enter pool table name)
      go (stopped k z e) = let y : ◌≡◌ {A = ℕ} 0 1 = cc (ap (λ r. r.answer) e) in absurd (omega arith)
      go (full g a m e) = let y : ◌≡◌ {A = ℕ} 0 1 = cc (ap (λ r. r.answer) e) in absurd (omega arith)
      go (known k a e) = let y = one_answer (sym (ap (λ r. r.answer) e) ∙ h) in rw (e, ← y.0) (record { wellFormed = good-given a.good; named = asked_is a })
      go (new en e) = let y = one_answer (sym (new-number en) ∙ sym (ap (λ r. r.answer) e) ∙ h) in rw (e, ← y.0) (new-success en)

  kept : (j : ℕ) (n : Bytes) → nameAsked pool table j ≡ got n → nameAsked (enter pool table name).pool (enter pool table name).table j ≡ got n
  kept j n h = go (enter-case pool table name)
    where
      go : Case pool table name → nameAsked (enter pool table name).pool (enter pool table name).table j ≡ got n
      go (stopped k z e) = rw e h
      go (full g a m e) = rw e h
      go (known k a e) = rw e h
      go (new en e) = rw e (new-keeps en j n h)

  again : (i : ℕ) → nameAsked pool table i ≡ got name → enter pool table name ≡ unchanged pool table (got (i, Known))
  again i h = go (enter-case pool table name)
    where
      go : Case pool table name → enter pool table name ≡ unchanged pool table (got (i, Known))
      go (stopped k z e) = let y : ◌≡◌ {A = ℕ} 0 1 = cc (pass-checks pool table name (held-passes pool table (asked-name h))) in absurd (omega arith)
      go (full g n m e) = absurd (unheld g n i h)
      go (known k b e) = rw (no-name-twice pool table k i name (asked_is b) h) at e
      go (new en e) = absurd (unheld en.good en.new i h)

  -- what new and known mean, where the answer is the number i
  record Said (i : ℕ) (w : Was) : Type 0 where
    knownOnly : w ≡ Known → nameAsked pool table i ≡ got name
    newOnly : w ≡ New → Unheld pool table name × (i ≡ (table_of pool table).count)
    newAlways : Unheld pool table name → w ≡ New

  said : (i : ℕ) (w : Was) → (enter pool table name).answer ≡ got (i, w) → Said i w
  unfolding table_of
  said i w h = go (enter-case pool table name)
    where
      go : Case pool table name → Said i w
      go (stopped k z e) = let y : ◌≡◌ {A = ℕ} 0 1 = cc (ap (λ r. r.answer) e) in absurd (omega arith)
      go (full g a m e) = let y : ◌≡◌ {A = ℕ} 0 1 = cc (ap (λ r. r.answer) e) in absurd (omega arith)
      go (known k a e) =
          let y = one_answer (sym (ap (λ r. r.answer) e) ∙ h) in
          record {
            knownOnly = λ _. rw y.0 at (asked_is a);
            newOnly = λ n. let z : ◌≡◌ {A = ℕ} 0 1 = cc y.1 in absurd (omega arith);
            newAlways = λ u. absurd (u k (asked_is a));
          }
      go (new en e) =
          let y = one_answer (sym (new-number en) ∙ sym (ap (λ r. r.answer) e) ∙ h) in
          record {
            knownOnly = λ n. let z : ◌≡◌ {A = ℕ} 0 1 = cc y.1 in absurd (omega arith);
            newOnly = λ _. (unheld en.good en.new, sym y.0);
            newAlways = λ _. sym y.1;
          }

  without-room : enterChecks pool table name ≡ got tt → Unheld pool table name → NoRoom pool table name
      → enter pool table name ≡ unchanged pool table (refused 3)
  unfolding table_of
  without-room c u r = go (enter-case pool table name)
    where
      go : Case pool table name → enter pool table name ≡ unchanged pool table (refused 3)
      go (stopped k z e) = absurd (cc)
      go (full g n m e) = e
      go (known k b e) = absurd (u k (asked_is b))
      go (new en e) =
          let f = free-is (good-laid en.good) in
          ⊎_elim (λ w. absurd (omega (arith, en.number))) (λ w. absurd (omega (arith, en.bytes, f))) r

  only : (enter pool table name).answer ≡ refused 3 → Unheld pool table name × NoRoom pool table name
  unfolding table_of
  only h = go (enter-case pool table name)
    where
      go : Case pool table name → Unheld pool table name × NoRoom pool table name
      go (stopped j z e) = absurd (checks-refuse pool table name j z (cc (ap (λ r. r.answer) e)))
      go (known j b e) = let y : ◌≡◌ {A = ℕ} 0 1 = cc (ap (λ r. r.answer) e) in absurd (omega arith)
      go (new en e) = let y : ◌≡◌ {A = ℕ} 0 1 = cc (ap (λ r. r.answer) e, new-number en) in absurd (omega arith)
      go (full g n m e) = (unheld g n, rw (free-is (good-laid g)) m.room)

  refusal : (k : ℕ) → (enter pool table name).answer ≡ refused k → enter pool table name ≡ unchanged pool table (refused k)
  refusal k h = go (enter-case pool table name)
    where
      as-told : (a : Got (ℕ × Was)) → enter pool table name ≡ unchanged pool table a → enter pool table name ≡ unchanged pool table (refused k)
      as-told a e = e ∙ ap (unchanged pool table) (sym (ap (λ r. r.answer) e) ∙ h)

      go : Case pool table name → enter pool table name ≡ unchanged pool table (refused k)
      go (stopped j z e) = as-told (refused j) e
      go (full g n m e) = as-told (refused 3) e
      go (known j b e) = as-told (got (j, Known)) e
      go (new en e) = let y : ◌≡◌ {A = ℕ} 0 1 = cc (ap (λ r. r.answer) e, new-number en) in absurd (omega arith)

  behind-pool : drop 8192 (enter pool table name).pool ≡ drop 8192 pool
  behind-pool = go (enter-case pool table name)
    where
      go : Case pool table name → drop 8192 (enter pool table name).pool ≡ drop 8192 pool
      go (stopped j z e) = ap (λ r. drop 8192 r.pool) e
      go (full g n m e) = ap (λ r. drop 8192 r.pool) e
      go (known j b e) = ap (λ r. drop 8192 r.pool) e
      go (new en e) = ap (λ r. drop 8192 r.pool) e ∙ pool-behind en

  behind-table : drop 257 (enter pool table name).table ≡ drop 257 table
  behind-table = go (enter-case pool table name)
    where
      go : Case pool table name → drop 257 (enter pool table name).table ≡ drop 257 table
      go (stopped j z e) = ap (λ r. drop 257 r.table) e
      go (full g n m e) = ap (λ r. drop 257 r.table) e
      go (known j b e) = ap (λ r. drop 257 r.table) e
      go (new en e) = ap (λ r. drop 257 r.table) e ∙ table-behind en

pub promises-kept : (pool table : List ℕ) (name : Bytes) → Promises pool table name
promises-kept pool table name =
    let s = success pool table name in
    let d = said pool table name in
    record {
      wellFormed = λ i w h. (s i w h).wellFormed;
      named = λ i w h. (s i w h).named;
      noOther = λ i w n h k. cc (s i w h).named;
      kept = kept pool table name;
      again = again pool table name;
      knownOnly = λ i h. (d i Known h).knownOnly refl;
      newOnly = λ i h. (d i New h).newOnly refl;
      newAlways = λ i w h. (d i w h).newAlways;
      -- it is then held
      twice = λ i w h. again (enter pool table name).pool (enter pool table name).table name i (s i w h).named;
      withoutRoom = without-room pool table name;
      only = only pool table name;
      refusal = refusal pool table name;
      behindPool = behind-pool pool table name;
      behindTable = behind-table pool table name;
    }

-- ══ What lies behind is not read ══

pub front-decides : {pool table pool' table' : List ℕ} → SameFront pool table pool' table' → FrontDecides pool table pool' table'
front-decides s = record { entering = same_answer s; asking = same_asked s }

-- ══ Numbers stand for names ══

pub alike : {pool table : List ℕ} → Good pool table → (i j : ℕ) → i < get_or table 0 0 → j < get_or table 0 0 → Alike pool table i j
unfolding numbered
alike {pool} {table} g i j h k =
    let names = names_of (table_of pool table) in
    record {
      toNames = ap (λ (n : ℕ). get_or names n []);
      toOrder = λ e. ap (orderBytes (get_or names i [])) (sym e) ∙ self bytes-lawful (get_or names i []);
      toNumbers = λ e. (held_tells g).same i j h k e;
    }
