-- What is promised of a rescue: kept and skipped account for every record, in order; what is kept is a well formed set; a good file comes out the same, with an
-- empty list; rescuing what was rescued changes nothing; every byte string is handled.
use Rattle.std.specs.Prelude.{◌≡◌, Bool, ◌&&◌, ltb, length}
use Rattle.std.proofs.Math.Path.{refl, sym, ap, subst}
use Rattle.std.proofs.Common.{ap₂, ◌∙◌, add-zero, arith, ltb-true, ltb-false, eq-eqb, length-append}
use Rattle.std.proofs.Math.Bool.{true, false}
use Rattle.std.proofs.Math.Option.{Option, none, some}
use mathlib.Core.List.{List, [], ◌∷◌, ◌++◌, map}
use Prim.Native.Nat.{ℕ, zero, suc, ◌+◌, ◌/◌, ◌%◌, ◌≤◌, ◌<◌}
use Rattle.rules.specs.Base.{got, all, collect}
use Rattle.rules.specs.Names.{Table, table_of, numbersOf, is_held}
use Rattle.rules.specs.Trees.{Con, equal, isDim, is_scalar, hasField, dim, sizeCon, depthCon}
use Rattle.rules.specs.WellFormed.{goodTy, goodCon}
use Rattle.rules.specs.Writing.{Rec, rec, words, writeCon}
use Rattle.rules.specs.Reading.{readCon}
use Rattle.rules.specs.Calls.{listGiven, setGiven}
use Rattle.laws.specs.Lists.{Every, and_left, and_right}
use Rattle.laws.proofs.Lists.{every-left, every-right, every_append, and_both}
use Rattle.laws.proofs.Reading.{good-fits}
use Rattle.laws.specs.ReadLists.{FitsCon, Writable}
use Rattle.laws.proofs.ReadLists.{con-read, read_set}
use Rattle.laws.proofs.ReadLists as lists
use Rattle.laws.proofs.Size.{size-con, words_append, words-length}
use Rattle.laws.specs.Written.{Small}
use Rattle.records.proofs.Given.{absurd-some, con-reader}
use Rattle.records.specs.Good.{Chain, GoodCon}
use Rattle.records.proofs.Moves.{con-moves}
use Rattle.records.specs.Places.{recAt, recs-length, from-none, from_some}
use Rattle.records.specs.Views.{recs, from}
use Rattle.records.proofs.Whole.{set_is}
use Rattle.rules.specs.Rescue.{words_in, recordsIn, bytes_of, Piece, sound, lost, startsHere, pieces, piecesIn, keptIn, skippedFrom, tornIn, placesIn}
use Rattle.rescue.specs.Told.{keptBytes, Bytes, recordsOf, consIn}
use Rattle.rescue.proofs.Steps.{words-in-length, bytes-length, records-are, pieces-sound, pieces_end}
use Rattle.rescue.proofs.Bytes.{Words, words-32, bytes-words, bytes-bytes, words-records, records-back, words_back, bytes_back}

-- ══ Account of every record ══

module _ (t : Table) where
  abbrev good : Con ℕ → Bool
  good = goodCon (numbersOf t) (is_held t) 0

  -- what starts here was read, and is well formed
  pub starts_is : (rs : List Rec) (v : Con ℕ × List Rec) → startsHere t rs ≡ some v → (readCon rs ≡ some v) × (good v.0 ≡ true)
  unfolding startsHere
  starts_is rs v e = go (readCon rs) refl
    where
      test : (u : Con ℕ × List Rec) → readCon rs ≡ some u → (b : Bool) → good u.0 ≡ b → (readCon rs ≡ some v) × (good v.0 ≡ true)
      test u p true q =
          let f : some u ≡ some v = sym (rw (p, q)) ∙ e in
          let i : u ≡ v = cc in
          (p ∙ ap some i, subst (λ (x : Con ℕ × List Rec). good x.0 ≡ true) i q)
      test u p false q = absurd-some (sym (rw (p, q)) ∙ e)

      go : (o : Option (Con ℕ × List Rec)) → readCon rs ≡ o → (readCon rs ≡ some v) × (good v.0 ≡ true)
      go none p = absurd-some (sym (rw p) ∙ e)
      go (some u) p = test u p (good u.0) refl

  -- a property of pieces, by what is done at each place
  module _ (P : List Rec → List Piece → Type 0) (end : P [] []) (skip : (r : Rec) (rs : List Rec) (ps : List Piece) → P rs ps → P (r ∷ rs) (lost r ∷ ps))
      (keep : (c : Con ℕ) (rs : List Rec) (ps : List Piece) → P rs ps → P (writeCon c ++ rs) (sound c ∷ ps)) where
    none_kept : (rs : List Rec) → P rs (map lost rs)
    none_kept [] = end
    none_kept (r ∷ rs) = skip r rs (map lost rs) (none_kept rs)

    rest-small : (r : Rec) (rs : List Rec) → Small (r ∷ rs) → Small rs
    rest-small (rec k a b c) rs h = h.1

    pub by-pieces : (n : ℕ) (rs : List Rec) → Small rs → P rs (pieces t n rs)
    unfolding pieces
    by-pieces zero rs h = none_kept rs
    by-pieces (suc n) [] h = end
    by-pieces (suc n) (r ∷ rs) h = go (startsHere t (r ∷ rs)) refl (by-pieces n)
      where
        go : (o : Option (Con ℕ × List Rec)) → startsHere t (r ∷ rs) ≡ o → ((qs : List Rec) → Small qs → P qs (pieces t n qs))
            → P (r ∷ rs) (pieces t (suc n) (r ∷ rs))
        go none e k = rw (e, pieces) (skip r rs (pieces t n rs) (k rs (rest-small r rs h)))
        go (some v) e k =
            let i = (con-read (r ∷ rs) h).holds v.0 v.1 (starts_is (r ∷ rs) v e).0 in
            rw (e, pieces) (subst (λ (x : List Rec). P x (sound v.0 ∷ pieces t n v.1)) (sym i.0) (keep v.0 v.1 (pieces t n v.1) (k v.1 i.1)))

  -- the pieces are the records of the file, one after another
  pub accounted : (n : ℕ) (rs : List Rec) → Small rs → collect recordsOf (pieces t n rs) ≡ rs
  unfolding collect
  accounted = by-pieces (λ rs ps. collect recordsOf ps ≡ rs) refl (λ r rs ps e. ap (r ∷◌) e) (λ c rs ps e. ap (writeCon c ++◌) e)

-- each lost record is named by how many records stand before it
pub named : (as' bs : List Piece) (at : ℕ) → skippedFrom at (as' ++ bs) ≡ skippedFrom at as' ++ skippedFrom (at + length (collect recordsOf as')) bs
unfolding skippedFrom collect
named [] bs at = ap (λ (k : ℕ). skippedFrom k bs) (sym (add-zero at))
named (sound c ∷ as') bs at =
    let n : at + sizeCon c + length (collect recordsOf as') ≡ at + length (writeCon c ++ collect recordsOf as') =
    omega (arith, size-con c, length-append (writeCon c) (collect recordsOf as')) in
    named as' bs (at + sizeCon c) ∙ ap (λ (k : ℕ). skippedFrom (at + sizeCon c) as' ++ skippedFrom k bs) n
named (lost r ∷ as') bs at =
    let n : at + 1 + length (collect recordsOf as') ≡ at + suc (length (collect recordsOf as')) = omega arith in
    ap (at ∷◌) (named as' bs (at + 1) ∙ ap (λ (k : ℕ). skippedFrom (at + 1) as' ++ skippedFrom k bs) n)

-- so kept and skipped are all
pub counted : (ps : List Piece) (at : ℕ) → length (keptIn ps) + length (skippedFrom at ps) ≡ length (collect recordsOf ps)
unfolding keptIn skippedFrom collect
counted [] at = refl
counted (sound c ∷ ps) at = omega (
  arith,
  counted ps (at + sizeCon c),
  length-append (writeCon c) (keptIn ps),
  length-append (writeCon c) (collect recordsOf ps),
)
counted (lost r ∷ ps) at = omega (arith, counted ps (at + 1))

kept_cons : (ps : List Piece) → keptIn ps ≡ collect writeCon (consIn ps)
unfolding keptIn collect
kept_cons [] = refl
kept_cons (sound c ∷ ps) = ap (writeCon c ++◌) (kept_cons ps)
kept_cons (lost r ∷ ps) = kept_cons ps

-- the words of what is kept are words of the file
pub kept-words : (t : Table) (n : ℕ) (rs : List Rec) → Small rs → Words (words rs) → Words (words (keptIn (pieces t n rs)))
unfolding keptIn words
kept-words t n rs h = by-pieces t (λ qs ps. Words (words qs) → Words (words (keptIn ps))) (λ w. tt) (λ r qs ps f w. f (rest-words r qs w)) (λ c qs ps f w.
    let v : Words (words (writeCon c) ++ words qs) = subst Words (words_append (writeCon c) qs) w in
    subst Words (sym (words_append (writeCon c) (keptIn ps)))
    (every_append _ (words (writeCon c)) (words (keptIn ps)) (every-left _ (words (writeCon c)) (words qs) v)
    (f (every-right _ (words (writeCon c)) (words qs) v)))) n rs h
  where
    rest-words : (r : Rec) (qs : List Rec) → Words (words (r ∷ qs)) → Words (words qs)
    rest-words (rec k a b c) qs w = w.1.1.1.1

-- ══ What is kept is a well formed set ══

-- well formed, and nested at most 64 deep
abbrev pub Well : Table → Con ℕ → Type 0
Well t c = (goodCon (numbersOf t) (is_held t) 0 c ≡ true) × (depthCon c ≤ 64)

-- such a constraint can be written and read back
con-fits : (t : Table) (c : Con ℕ) → goodCon (numbersOf t) (is_held t) 0 c ≡ true → FitsCon c
unfolding goodCon goodTy
con-fits t (equal l r) h = (
  good-fits (numbersOf t) (is_held t) 0 l (and_left (goodTy (numbersOf t) (is_held t) 0 l) _ h),
  good-fits (numbersOf t) (is_held t) 0 r (and_right (goodTy (numbersOf t) (is_held t) 0 l) _ h),
)
con-fits t (isDim u) h = good-fits (numbersOf t) (is_held t) 0 u h
con-fits t (is_scalar p) h = good-fits (numbersOf t) (is_held t) 0 (dim p) h
con-fits t (hasField n l r) h =
    let a = and_left (is_held t n && goodTy (numbersOf t) (is_held t) 0 l) _ h in (
      good-fits (numbersOf t) (is_held t) 0 l (and_right (is_held t n) _ a),
      good-fits (numbersOf t) (is_held t) 0 r (and_right (is_held t n && goodTy (numbersOf t) (is_held t) 0 l) _ h),
    )

wells-writable : (t : Table) (cs : List (Con ℕ)) → Every (Well t) cs → Every Writable cs
wells-writable t [] h = tt
wells-writable t (c ∷ cs) h = ((con-fits t c h.0.0, h.0.1), wells-writable t cs h.1)

wells-good : (t : Table) (cs : List (Con ℕ)) → Every (Well t) cs → all (goodCon (numbersOf t) (is_held t) 0) cs ≡ true
unfolding all
wells-good t [] h = refl
wells-good t (c ∷ cs) h = and_both h.0.0 (wells-good t cs h.1)

-- a list of such constraints is given as a set
pub wells-given : (t : Table) (cs : List (Con ℕ)) → Every (Well t) cs → setGiven t (words (collect writeCon cs)) ≡ got cs
unfolding setGiven listGiven
wells-given t cs h = rw (lists.words_back (collect writeCon cs), read_set cs (wells-writable t cs h), wells-good t cs h)

module _ (pool table s : List ℕ) (ww : Words s) where
  abbrev t : Table
  t = table_of pool table

  abbrev N : ℕ
  N = length s / 4

  no-cons : (rs : List Rec) → Every (Well t) (consIn (map lost rs))
  no-cons [] = tt
  no-cons (r ∷ rs) = no-cons rs

  pub well-cons : (n at : ℕ) → Every (Well t) (consIn (pieces t n (from s at)))
  unfolding pieces
  well-cons zero at = no-cons (from s at)
  well-cons (suc n) at = place (ltb at N) refl (well-cons n)
    where
      one : at < N → ((at' : ℕ) → Every (Well t) (consIn (pieces t n (from s at')))) → (o : Option (Con ℕ × List Rec)) → startsHere t (from s at) ≡ o
          → Every (Well t) (consIn (pieces t (suc n) (recAt s at ∷ from s (at + 1))))
      one lt k none e = rw (ap (startsHere t) (sym (from_some s at lt)) ∙ e, pieces) (k (at + 1))
      one lt k (some v) e =
          let i = starts_is t (from s at) v e in
          let (j, (g, q)) = (con-reader pool table s (words-32 s ww)).finds at v.0 v.1 i.0 i.1 in
          rw (ap (startsHere t) (sym (from_some s at lt)) ∙ e, pieces)
          ((i.1, g.deep), subst (λ (x : List Rec). Every (Well t) (consIn (pieces t n x))) (sym q) (k j))

      place : (b : Bool) → ltb at N ≡ b → ((at' : ℕ) → Every (Well t) (consIn (pieces t n (from s at'))))
          → Every (Well t) (consIn (pieces t (suc n) (from s at)))
      place true q k = let lt = ltb-true at N q in rw (from_some s at lt) (one lt k (startsHere t (from s at)) refl)
      place false q k = rw (from-none s at (ltb-false at N q)) tt

  -- the constraints of the pieces
  pub pieces-well : Every (Well t) (consIn (piecesIn t s))
  unfolding piecesIn from
  pieces-well = rw (records-are s) (well-cons (length (recs s)) 0)

  pub kept-given : setGiven t (words (keptIn (piecesIn t s))) ≡ got (consIn (piecesIn t s))
  kept-given = rw (kept_cons (piecesIn t s)) (wells-given t (consIn (piecesIn t s)) pieces-well)

  -- ══ A good set ══

  chain-pieces : (cs : List (Con ℕ)) (n at : ℕ) → Chain (GoodCon pool table 0 s) N cs at → N ≤ at + n → pieces t n (from s at) ≡ map sound cs
  chain-pieces [] n at c h = pieces_end pool table s (words-32 s ww) n at (omega arith)
  chain-pieces (x ∷ xs) zero at c h = let m = con-moves pool table 0 s at x c.0 c.1.0 in absurd (omega (arith, m.0, m.1))
  chain-pieces (x ∷ xs) (suc n) at c h =
      let m = con-moves pool table 0 s at x c.0 c.1.0 in
      pieces-sound pool table s (words-32 s ww) n at c.0 x (omega (arith, m.0, m.1)) c.1.0 ∙ ap (sound x ∷◌) (chain-pieces xs n c.0 c.1.1 (omega (arith, m.0)))

  pub good-pieces : (cs : List (Con ℕ)) → setGiven t s ≡ got cs → piecesIn t s ≡ map sound cs
  unfolding piecesIn from
  good-pieces cs e = rw (records-are s) (chain-pieces cs (length (recs s)) 0 (set_is pool table s (words-32 s ww) cs e) (omega (arith, recs-length s)))

sound-skips : (cs : List (Con ℕ)) (at : ℕ) → skippedFrom at (map sound cs) ≡ []
unfolding skippedFrom
sound-skips [] at = refl
sound-skips (c ∷ cs) at = sound-skips cs (at + sizeCon c)

sound-keeps : (cs : List (Con ℕ)) → keptIn (map sound cs) ≡ collect recordsOf (map sound cs)
unfolding keptIn collect
sound-keeps [] = refl
sound-keeps (c ∷ cs) = ap (writeCon c ++◌) (sound-keeps cs)

not-torn : (file : List ℕ) → length file % 16 ≡ 0 → tornIn file ≡ []
unfolding tornIn
not-torn file e = rw (eq-eqb (length file % 16) 0 e) refl

-- ══ The promises, on files ══

module _ (pool table file : List ℕ) (b : Bytes file) where
  abbrev s : List ℕ
  s = words_in file

  abbrev ps : List Piece
  ps = piecesIn (table_of pool table) s

  -- 'kept and skipped together account for every record, in order'
  pub every-record : collect recordsOf ps ≡ recordsIn s
  unfolding piecesIn
  every-record = accounted (table_of pool table) (length (recordsIn s)) (recordsIn s) (words-records s (bytes-words file b)).1

  pub all-counted : length (keptIn ps) + length (skippedFrom 0 ps) ≡ length file / 16
  all-counted =
      let n : length (recordsIn s) ≡ length s / 4 = ap length (records-are s) ∙ recs-length s in
      counted ps 0 ∙ ap length every-record ∙ n ∙ omega (arith, words-in-length file)

  -- what is kept is in bytes that are read as these records
  pub kept_read : words_in (keptBytes ps) ≡ words (keptIn ps)
  unfolding piecesIn
  kept_read =
      let (i, j) = words-records s (bytes-words file b) in
      words_back (words (keptIn ps)) (kept-words (table_of pool table) (length (recordsIn s)) (recordsIn s) j i)

  -- 'a well formed set', so no check of its records answers 1
  pub kept-well : setGiven (table_of pool table) (words_in (keptBytes ps)) ≡ got (consIn ps)
  kept-well = rw kept_read (kept-given pool table s (bytes-words file b))

-- 'a file that was good comes out the same, with an empty list'
pub good-same : (pool table file : List ℕ) → Bytes file → length file % 16 ≡ 0 → (cs : List (Con ℕ)) → setGiven (table_of pool table) (words_in file) ≡ got cs
    → (keptBytes (piecesIn (table_of pool table) (words_in file)) ≡ file) × (placesIn (piecesIn (table_of pool table) (words_in file)) file ≡ [])
unfolding placesIn
good-same pool table file b m cs e =
    let q = good-pieces pool table (words_in file) (bytes-words file b) cs e in
    let r : keptIn (map sound cs) ≡ recordsIn (words_in file) = sound-keeps cs ∙ ap (collect recordsOf) (sym q) ∙ every-record pool table file b in
    let w : words (recordsIn (words_in file)) ≡ words_in file = records-back (words_in file) (omega (arith, words-in-length file)) in
    rw q (ap (λ (x : List Rec). bytes_of (words x)) r ∙ ap bytes_of w ∙ bytes_back file b (omega arith), ap₂ ◌++◌ (sound-skips cs 0) (not-torn file m))

-- rescuing what was rescued changes nothing
pub rescue-again : (pool table file : List ℕ) → Bytes file → (kept : List ℕ) → kept ≡ keptBytes (piecesIn (table_of pool table) (words_in file))
    → (keptBytes (piecesIn (table_of pool table) (words_in kept)) ≡ kept) × (placesIn (piecesIn (table_of pool table) (words_in kept)) kept ≡ [])
rescue-again pool table file b kept e =
    let ps = piecesIn (table_of pool table) (words_in file) in
    good-same pool table kept (subst Bytes (sym e) (bytes-bytes (words (keptIn ps))))
    (omega (arith, ap length e, bytes-length (words (keptIn ps)), words-length (keptIn ps))) (consIn ps)
    (ap (λ (x : List ℕ). setGiven (table_of pool table) (words_in x)) e ∙ kept-well pool table file b)
