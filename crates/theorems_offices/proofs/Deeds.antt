-- What offices are answered that enter names and read sheets over one table: whatever the other does, and whenever.
use Rattle.std.specs.Prelude.{◌≡◌, refl, Bool, true, false, ◌&&◌, List, [], ◌∷◌, ℕ, get_or}
use Rattle.std.proofs.Common.{sym, ap, ◌∙◌, subst, arith, lt-ltb, ltb-true}
use Rattle.rules.specs.Base.{Got, got, refused, ◌>>◌, collect, all}
use Rattle.rules.specs.Names.{Bytes, Table, table_of, names_of, is_held, nameAsked}
use Rattle.rules.specs.Trees.{Con}
use Rattle.rules.specs.Writing.{writeCon}
use Rattle.rules.specs.Calls.{lent, tableKept, workAfter}
use Rattle.rules.specs.TextReading.{Sofar, Sheet, sheet, refusedIn, sheetRead, handed, fromEntry, sheetGiven, readTextCall}
use Rattle.rules.specs.Offices.{Name, named, nameNo, mapGot, Office, sameOffice, Shared, tableIn, answered}
use Rattle.laws.specs.Lists.{and_left, and_right}
use Rattle.laws.proofs.Alike.{both, neither}
use Rattle.laws.specs.NameTable.{Good}
use Rattle.laws.proofs.NameTable.{given-good, held-is, asked-name, name-asked, good-laid, length-names}
use Rattle.theorems_offices.specs.Deeds.{Deed, enters, reads, Done, leftBy, readIn, afterDeed, afterDeeds, Reply, outcome, replyTo, noThreeIn}
use Rattle.theorems_offices.specs.Deeds.{deedsBy, repliesTo, hadRoomFor, RepliedAlike, numbers, refusals, sets, EachAlike, none, next}
use Rattle.theorems_offices.specs.Theorems.{DeedsUnmoved}
use Rattle.theorems_offices.proofs.Histories.{GoodIn, grown-entry, Stands, number, name-is, entry-stands}
use Rattle.theorems_offices.proofs.Steps.{Grows, grows-same, grows-on, grows-more}
use Rattle.theorems_offices.proofs.Readings.{SheetsOut, three-at, three-at', refused-at, both-read, sheets-alike}
use Rattle.theorems_offices.proofs.Writing.{set-written, words-alike}
use Rattle.theorems_offices.proofs.Offices.{numbering'}

-- ══ Names stay ══

-- the table is well formed, and what had a name still has it
pub record Keeps (s s' : Shared) : Type 0 where
  pub good : GoodIn s'
  pub grown : Grows (tableIn s) (tableIn s')

keeps-same : (s : Shared) → GoodIn s → Keeps s s
keeps-same s g = record { good = g; grown = grows-same (tableIn s) }

keeps-on : {s u v : Shared} → Keeps s u → Keeps u v → Keeps s v
keeps-on k m = record { good = m.good; grown = grows-on k.grown m.grown }

pub sheet-keeps : (s : Shared) → GoodIn s → (text : Bytes) → Keeps s (leftBy s (readIn s text))
sheet-keeps s g text = go refl (sheets-alike g g text)
  where
    go : {x x' : Sheet} → x ≡ x' → SheetsOut (tableIn s) (tableIn s) x x' → Keeps s (leftBy s x)
    go e (three-at l c x) = keeps-same s g
    go e (three-at' x l c) = subst (λ (y : Sheet). Keeps s (leftBy s y)) (sym e) (keeps-same s g)
    go e (refused-at n l c) = keeps-same s g
    go e (both-read cs cs' u u' b q) = record { good = b.good; grown = b.grown.here }

-- and one that was read leaves the pool and the table that its reading came to
pub sheet-left : {pool table : List ℕ} → Good pool table → (text : Bytes) (cs : List (Con ℕ)) (u : Sofar) → sheetRead pool table text ≡ sheet cs u
    → Keeps (record { pool = pool; table = table }) (record { pool = u.pool; table = u.table })
sheet-left {pool} {table} g text cs u e =
    let s : Shared = record { pool = pool; table = table } in subst (λ (x : Sheet). Keeps s (leftBy s x)) e (sheet-keeps s g text)

deed-keeps : (s : Shared) → GoodIn s → (d : Deed) → Keeps s (afterDeed s d)
unfolding afterDeed
deed-keeps s g (enters n) = let k = grown-entry s g n in record { good = k.good; grown = grows-more g k.good k.more k.names }
deed-keeps s g (reads text) = sheet-keeps s g text

deeds-keep : (ds : List Done) (s : Shared) → GoodIn s → Keeps s (afterDeeds s ds)
unfolding afterDeeds
deeds-keep [] s g = keeps-same s g
deeds-keep (d ∷ ds) s g = let k = deed-keeps s g d.deed in keeps-on k (deeds-keep ds (afterDeed s d.deed) k.good)

-- ══ One deed ══

-- a number that was given has its name later on
later-name : {s : Shared} {t : Table} {a : Got ℕ} {x : Got Name} → GoodIn s → Grows (tableIn s) t → Stands (tableIn s) a x → mapGot (nameNo t) a ≡ x
later-name g k neither = refl
later-name {s} g k (both (number i n h e)) =
    let held : is_held (tableIn s) i ≡ true = held-is s.pool s.table i ∙ lt-ltb i (get_or s.table 0 0) (omega (arith, h, length-names (good-laid g))) in
    ap got (k.same i held) ∙ name-is s g (got i) (got (named n)) (both (number i n h e))

outcome-alike : (s s' : Shared) {t t' : Table} {x x' : Sheet} → SheetsOut (tableIn s) (tableIn s') x x'
    → Grows (tableIn (leftBy s x)) t → Grows (tableIn (leftBy s' x')) t' → noThreeIn (outcome x) ≡ true → noThreeIn (outcome x') ≡ true
    → RepliedAlike t t' (outcome x) (outcome x')
outcome-alike s s' (three-at l c x) k k' h h' = absurd (cc)
outcome-alike s s' (three-at' x l c) k k' h h' = absurd (cc)
outcome-alike s s' (refused-at n l c) k k' h h' = refusals n l c
outcome-alike s s' {t} {t'} (both-read cs cs' u u' b q) k k' h h' =
    let e = q.at t t' (record { here = k; there = k' }) in
    sets cs cs' u u' e (words-alike t t' (collect writeCon cs) (collect writeCon cs') (set-written t t' cs cs' e))

reply-alike : (d : Deed) (s s' : Shared) {t t' : Table} → GoodIn s → GoodIn s' → Grows (tableIn (afterDeed s d)) t → Grows (tableIn (afterDeed s' d)) t'
    → noThreeIn (replyTo s d) ≡ true → noThreeIn (replyTo s' d) ≡ true → RepliedAlike t t' (replyTo s d) (replyTo s' d)
unfolding afterDeed replyTo
reply-alike (enters n) s s' g g' k k' h h' = numbers (answered s n) (answered s' n)
    (later-name (grown-entry s g n).good k (entry-stands s g n h) ∙ sym (later-name (grown-entry s' g' n).good k' (entry-stands s' g' n h')))
reply-alike (reads text) s s' g g' k k' h h' = outcome-alike s s' (sheets-alike g g' text) k k' h h'

-- ══ A whole history ══

-- an office's deeds and what it was answered, each over a table whose names the last one still has
data Answered (t : Table) : List Deed → List Reply → Type 0 where
  nothing : Answered t [] []
  then : (d : Deed) (s : Shared) {ds : List Deed} {rs : List Reply} → GoodIn s → Grows (tableIn (afterDeed s d)) t → noThreeIn (replyTo s d) ≡ true
      → Answered t ds rs → Answered t (d ∷ ds) (replyTo s d ∷ rs)

answered-all : (o : Office) (ds : List Done) (s : Shared) {t : Table} → GoodIn s → Grows (tableIn (afterDeeds s ds)) t
    → hadRoomFor (repliesTo o s ds) ≡ true → Answered t (deedsBy o ds) (repliesTo o s ds)
unfolding afterDeeds deedsBy repliesTo hadRoomFor all
answered-all o [] s g k h = nothing
answered-all o (d ∷ ds) s {t} g k h = go (sameOffice o d.by) refl (answered-all o ds (afterDeed s d.deed) (deed-keeps s g d.deed).good k)
  where
    rest : List Reply
    rest = repliesTo o (afterDeed s d.deed) ds

    go : (b : Bool) → sameOffice o d.by ≡ b → (hadRoomFor rest ≡ true → Answered t (deedsBy o ds) rest)
        → Answered t (deedsBy o (d ∷ ds)) (repliesTo o s (d ∷ ds))
    go false q r = rw (q, deedsBy, repliesTo) (r (rw (q, repliesTo) at h))
    go true q r =
        let i : noThreeIn (replyTo s d.deed) && all noThreeIn rest ≡ true = rw (q, repliesTo) at h in
        let l = grows-on (deeds-keep ds (afterDeed s d.deed) (deed-keeps s g d.deed).good).grown k in
        rw (q, deedsBy, repliesTo) (then d.deed s g l (and_left (noThreeIn (replyTo s d.deed)) _ i) (r (and_right (noThreeIn (replyTo s d.deed)) _ i)))

each-alike : {t t' : Table} {ds : List Deed} {rs rs' : List Reply} → Answered t ds rs → Answered t' ds rs' → EachAlike t t' rs rs'
each-alike nothing nothing = none
each-alike (then d s g k h a) (then _ s' g' k' h' a') = next (reply-alike d s s' g g' k k' h h') (each-alike a a')

pub deeds-unmoved : DeedsUnmoved
deeds-unmoved o s s' ds ds' given given' same h h' =
    let g = given-good given in
    let g' = given-good given' in
    let k = deeds-keep ds s g in
    let k' = deeds-keep ds' s' g' in
    let a = answered-all o ds s g (grows-same (tableIn (afterDeeds s ds))) h in
    let a' = answered-all o ds' s' g' (grows-same (tableIn (afterDeeds s' ds'))) h' in
    record {
      replies = each-alike a (subst (λ (xs : List Deed). Answered (tableIn (afterDeeds s' ds')) xs (repliesTo o s' ds')) (sym same) a');
      calls = numbering' k.good k'.good;
    }

-- ══ Reading a sheet ══

abbrev NamesStay : List ℕ → List ℕ → List ℕ → List ℕ → Type 0
NamesStay pool table pool' table' = (j : ℕ) (n : Bytes) → nameAsked pool table j ≡ got n → nameAsked pool' table' j ≡ got n

one-name : {a b : Bytes} → ◌≡◌ {A = Name} (named a) (named b) → a ≡ b
one-name e = cc

names-stay : {pool table pool' table' : List ℕ} → Good pool table → Good pool' table' → Grows (table_of pool table) (table_of pool' table')
    → NamesStay pool table pool' table'
unfolding nameNo
names-stay {pool} {table} {pool'} {table'} g g' k j n e =
    let a = asked-name e in
    let held : is_held (table_of pool table) j ≡ true = held-is pool table j ∙ lt-ltb j (get_or table 0 0) a.held in
    let still : is_held (table_of pool' table') j ≡ true = k.held j held in
    let name : named (get_or (names_of (table_of pool' table')) j []) ≡ named (get_or (names_of (table_of pool table)) j []) =
    rw (held, still) at (k.same j held) in
    name-asked g' j (ltb-true j (get_or table' 0 0) (sym (held-is pool' table' j) ∙ still)) ∙ ap got (one-name name ∙ a.name)

pub reading-keeps : (pool table : List ℕ) (text : Bytes) (result work : List ℕ)
    → NamesStay pool table (readTextCall pool table text result work).pool (readTextCall pool table text result work).table
unfolding readTextCall sheetGiven
reading-keeps pool table text result work j n e =
    go (lent pool table result work >> tableKept (table_of pool table)) (sheetRead pool table text) (sheet-keeps (record { pool = pool; table = table }) g text)
  where
    g : Good pool table
    g = (asked-name e).good

    w : List ℕ
    w = workAfter (lent pool table result work) work

    go : (m : Got (Unit {0})) (x : Sheet) → Keeps (record { pool = pool; table = table }) (leftBy (record { pool = pool; table = table }) x)
        → nameAsked (handed pool table result w (fromEntry m x)).pool (handed pool table result w (fromEntry m x)).table j ≡ got n
    go (refused k) x h = e
    go (got u) (refusedIn k l c) h = e
    go (got u) (sheet cs s) h = names-stay g h.good h.grown j n e
