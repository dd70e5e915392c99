-- Rescue: files whose records read alike are taken apart alike.
use Rattle.std.specs.Prelude.{◌≡◌, Bool, ◌*◌, ◌/◌, ◌%◌, eqb, ltb, length}
use Rattle.std.proofs.Math.Path.{refl, ap, ap₂}
use Rattle.std.proofs.Common.{sym, ◌∙◌, arith, ltb-true}
use Rattle.std.proofs.Math.Bool.{true, false}
use Rattle.std.proofs.Math.Option.{Option, none, some}
use mathlib.Core.List.{List, [], ◌∷◌, ◌++◌, map, map-append}
use Prim.Native.Nat.{ℕ, zero, suc, ◌+◌}
use Rattle.std.proofs.Math.ListN.{take}
use Rattle.rules.specs.Base.{Got, got, refused, ◌>>=◌, and_then, only_if, all}
use Rattle.rules.specs.Trees.{Con, sizeCon}
use Rattle.rules.specs.Names.{Table, table_of, numbersOf, is_held}
use Rattle.rules.specs.Writing.{Rec, rec, words, writeCon}
use Rattle.rules.specs.Reading.{readCon}
use Rattle.rules.specs.WellFormed.{goodCon}
use Rattle.rules.specs.Calls.{over, resultAfter}
use Rattle.rules.specs.Rescue.{
  words_in,
  recordsIn,
  bytes_of,
  Piece,
  sound,
  lost,
  startsHere,
  pieces,
  piecesIn,
  keptIn,
  skippedFrom,
  unless,
  tornIn,
  placesIn,
  Rescued,
  rescueGiven,
  rescueCall,
}
use Rattle.rules.specs.Offices.{Word, Name, byBytes, nameNo, mapCon, readBack, FilesAlike, RescuedAlike}
use Rattle.laws.specs.Lists.{and_left, and_right}
use Rattle.laws.specs.NameTable.{Good}
use Rattle.laws.proofs.Size.{words-length}
use Rattle.rescue.specs.Told.{Bytes, keptBytes}
use Rattle.rescue.proofs.Steps.{bytes-length}
use Rattle.rescue.proofs.Promise.{kept_read}
use Rattle.theorems_offices.proofs.Sizes.{size-con}
use Rattle.theorems_offices.proofs.Naming.{isNamed, held-named, keeps}
use Rattle.theorems_offices.proofs.WellFormed.{good-con}
use Rattle.theorems_offices.proofs.Reading as reading
use Rattle.theorems_offices.proofs.Reading.{Seen, seen, unlike, head, tail, same_length, con-agree}
use Rattle.theorems_offices.proofs.Writing.{conSeen, con-seen, words-alike}
use Rattle.theorems_offices.proofs.Results.{front-over, nothing}
use Rattle.theorems_offices.proofs.Given.{Alike, kept-alike, lent-table}

-- ══ Records of words ══

whole : List Word → List Seen
whole [] = []
whole (k ∷ []) = []
whole (k ∷ a ∷ []) = []
whole (k ∷ a ∷ b ∷ []) = []
whole (k ∷ a ∷ b ∷ c ∷ ws) = (k, a, b, c) ∷ whole ws

records-seen : (t : Table) (ws : List ℕ) → map (seen t) (recordsIn ws) ≡ whole (readBack t ws)
unfolding recordsIn readBack whole
records-seen t [] = refl
records-seen t (k ∷ []) = refl
records-seen t (k ∷ a ∷ []) = refl
records-seen t (k ∷ a ∷ b ∷ []) = refl
records-seen t (k ∷ a ∷ b ∷ c ∷ ws) = ap (λ (ss : List Seen). seen t (rec k a b c) ∷ ss) (records-seen t ws)

-- ══ Pieces with names in them ══

data PieceSeen : Type 0 where
  whole_one : Con Name → PieceSeen
  left_out : Seen → PieceSeen

abbrev pieceSeen : Table → Piece → PieceSeen
pieceSeen t (sound c) = whole_one (mapCon (nameNo t) c)
pieceSeen t (lost r) = left_out (seen t r)

keptSeen : List PieceSeen → List Seen
keptSeen [] = []
keptSeen (whole_one c ∷ ps) = conSeen c ++ keptSeen ps
keptSeen (left_out r ∷ ps) = keptSeen ps

skippedSeen : ℕ → List PieceSeen → List ℕ
skippedSeen at [] = []
skippedSeen at (whole_one c ∷ ps) = skippedSeen (at + sizeCon c) ps
skippedSeen at (left_out r ∷ ps) = at ∷ skippedSeen (at + 1) ps

module _ (t : Table) where
  kept-seen : (ps : List Piece) → map (seen t) (keptIn ps) ≡ keptSeen (map (pieceSeen t) ps)
  unfolding keptIn keptSeen
  kept-seen [] = refl
  kept-seen (sound c ∷ ps) = map-append (seen t) (writeCon c) (keptIn ps) ∙ ap₂ (λ (a b : List Seen). a ++ b) (con-seen t c) (kept-seen ps)
  kept-seen (lost r ∷ ps) = kept-seen ps

  skipped-seen : (at : ℕ) (ps : List Piece) → skippedFrom at ps ≡ skippedSeen at (map (pieceSeen t) ps)
  unfolding skippedFrom skippedSeen
  skipped-seen at [] = refl
  skipped-seen at (sound c ∷ ps) = skipped-seen (at + sizeCon c) ps ∙ ap (λ (n : ℕ). skippedSeen (at + n) (map (pieceSeen t) ps)) (sym (size-con (nameNo t) c))
  skipped-seen at (lost r ∷ ps) = ap (at ∷◌) (skipped-seen (at + 1) ps)

  all-lost : (rs : List Rec) → map (pieceSeen t) (map lost rs) ≡ map left_out (map (seen t) rs)
  all-lost [] = refl
  all-lost (r ∷ rs) = ap (λ (ps : List PieceSeen). left_out (seen t r) ∷ ps) (all-lost rs)

-- what is kept stands in front, and is read back as these records
kept-front : (pool table file kept : List ℕ) → Bytes file
    → words_in (take (length (keptIn (piecesIn (table_of pool table) (words_in file))) * 16)
    (over (keptBytes (piecesIn (table_of pool table) (words_in file))) kept))
    ≡ words (keptIn (piecesIn (table_of pool table) (words_in file)))
kept-front pool table file kept b =
    let rs = keptIn (piecesIn (table_of pool table) (words_in file)) in
    let n : length rs * 16 ≡ length (bytes_of (words rs)) = omega (arith, bytes-length (words rs), words-length rs) in
    ap words_in (ap (λ (k : ℕ). take k (over (bytes_of (words rs)) kept)) n ∙ front-over (bytes_of (words rs)) kept) ∙ kept_read pool table file b

module _ {pool table pool' table' : List ℕ} (good : Good pool table) (good' : Good pool' table') where
  -- the two tables, and the names of their numbers
  abbrev T₁ : Table
  T₁ = table_of pool table

  abbrev T₂ : Table
  T₂ = table_of pool' table'

  abbrev ν₁ : ℕ → Name
  ν₁ = nameNo T₁

  abbrev ν₂ : ℕ → Name
  ν₂ = nameNo T₂

  abbrev Records : List Rec → List Rec → Type 0
  Records = reading.Alike T₁ T₂

  well-formed : (c c' : Con ℕ) → mapCon ν₁ c ≡ mapCon ν₂ c' → goodCon (numbersOf T₁) (is_held T₁) 0 c ≡ goodCon (numbersOf T₂) (is_held T₂) 0 c'
  well-formed c c' e =
      sym (good-con _ byBytes ν₁ (keeps good) _ isNamed (held-named T₁) 0 c) ∙ ap (goodCon byBytes isNamed 0) e
      ∙ good-con _ byBytes ν₂ (keeps good') _ isNamed (held-named T₂) 0 c'

  abbrev Starts : Option (Con ℕ × List Rec) → Option (Con ℕ × List Rec) → Type 0
  Starts = reading.Cases T₁ T₂ (mapCon ν₁) (mapCon ν₂)

  starts-alike : (rs rs' : List Rec) → Records rs rs' → Starts (startsHere T₁ rs) (startsHere T₂ rs')
  unfolding startsHere
  starts-alike rs rs' e = go (reading.cases T₁ T₂ (mapCon ν₁) (mapCon ν₂) (readCon rs) (readCon rs') ((con-agree T₁ T₂).agree rs rs' e).is)
    where
      by : (b : Bool) (v v' : Con ℕ × List Rec) → mapCon ν₁ v.0 ≡ mapCon ν₂ v'.0 → Records v.1 v'.1 → Starts (only_if b v) (only_if b v')
      by true v v' i f = reading.both v v' i f
      by false v v' i f = reading.neither

      go : {x x' : Option (Con ℕ × List Rec)} → Starts x x'
          → Starts (and_then x (λ v. only_if (goodCon (numbersOf T₁) (is_held T₁) 0 v.0) v))
          (and_then x' (λ v. only_if (goodCon (numbersOf T₂) (is_held T₂) 0 v.0) v))
      go reading.neither = reading.neither
      go (reading.both v v' i f) = rw (well-formed v.0 v'.0 i) (by (goodCon (numbersOf T₂) (is_held T₂) 0 v'.0) v v' i f)

  abbrev Pieces : List Piece → List Piece → Type 0
  Pieces ps ps' = map (pieceSeen T₁) ps ≡ map (pieceSeen T₂) ps'

  pieces-alike : (n : ℕ) (rs rs' : List Rec) → Records rs rs' → Pieces (pieces T₁ n rs) (pieces T₂ n rs')
  unfolding pieces
  pieces-alike zero rs rs' e = all-lost T₁ rs ∙ ap (map left_out) e ∙ sym (all-lost T₂ rs')
  pieces-alike (suc n) [] [] e = refl
  pieces-alike (suc n) [] (r ∷ rs) e = absurd (unlike e)
  pieces-alike (suc n) (r ∷ rs) [] e = absurd (unlike (sym e))
  pieces-alike (suc n) (r ∷ rs) (r' ∷ rs') e = go (startsHere T₁ (r ∷ rs)) refl (startsHere T₂ (r' ∷ rs')) refl (starts-alike (r ∷ rs) (r' ∷ rs') e)
      (pieces-alike n)
    where
      go : (x : Option (Con ℕ × List Rec)) → startsHere T₁ (r ∷ rs) ≡ x → (x' : Option (Con ℕ × List Rec)) → startsHere T₂ (r' ∷ rs') ≡ x' → Starts x x'
          → ((qs qs' : List Rec) → Records qs qs' → Pieces (pieces T₁ n qs) (pieces T₂ n qs'))
          → Pieces (pieces T₁ (suc n) (r ∷ rs)) (pieces T₂ (suc n) (r' ∷ rs'))
      go none i none i' reading.neither h = rw (pieces, i, i') (ap₂ (λ (s : Seen) (ps : List PieceSeen). left_out s ∷ ps) (head e) (h rs rs' (tail e)))
      go none i (some v') i' c h = elim c [ ]
      go (some v) i none i' c h = elim c [ ]
      go (some v) i (some v') i' (reading.both w w' j f) h = rw (pieces, i, i')
          (ap₂ (λ (c : Con Name) (ps : List PieceSeen). whole_one c ∷ ps) j (h w.1 w'.1 f))

  pieces-in : (ws ws' : List ℕ) → Alike good good' ws ws' → Pieces (piecesIn T₁ ws) (piecesIn T₂ ws')
  unfolding piecesIn
  pieces-in ws ws' e =
      let r : Records (recordsIn ws) (recordsIn ws') = records-seen T₁ ws ∙ ap whole e.words ∙ sym (records-seen T₂ ws') in
      rw (same_length T₁ T₂ (recordsIn ws) (recordsIn ws') r) (pieces-alike (length (recordsIn ws')) (recordsIn ws) (recordsIn ws') r)

  -- ══ The call ══

  given-alike : (file file' kept kept' skipped skipped' : List ℕ) → length file ≡ length file' → length kept ≡ length kept' → length skipped ≡ length skipped'
      → rescueGiven pool table file (length kept) (length skipped) ≡ rescueGiven pool' table' file' (length kept') (length skipped')
  unfolding rescueGiven
  given-alike file file' kept kept' skipped skipped' e f g = rw (lent-table good good', e, f, g, kept-alike good good')

  module _ (file file' : List ℕ) (e : FilesAlike T₁ T₂ file file') where
    abbrev ps : List Piece
    ps = piecesIn T₁ (words_in file)

    abbrev ps' : List Piece
    ps' = piecesIn T₂ (words_in file')

    same-pieces : Pieces ps ps'
    same-pieces = pieces-in (words_in file) (words_in file') e.records

    kept-records : Records (keptIn ps) (keptIn ps')
    kept-records = kept-seen T₁ ps ∙ ap keptSeen same-pieces ∙ sym (kept-seen T₂ ps')

    same-places : placesIn ps file ≡ placesIn ps' file'
    unfolding placesIn tornIn
    same-places = rw e.long (ap (λ (n : List ℕ). n ++ unless (eqb (length file' % 16) 0) (length file' / 16))
        (skipped-seen T₁ 0 ps ∙ ap (skippedSeen 0) same-pieces ∙ sym (skipped-seen T₂ 0 ps')))

  byte-file : (file : List ℕ) → all (λ b. ltb b 256) file ≡ true → Bytes file
  unfolding all
  byte-file [] h = tt
  byte-file (b ∷ bs) h = (ltb-true b 256 (and_left (ltb b 256) _ h), byte-file bs (and_right (ltb b 256) _ h))

  pub rescue-alike : (file file' kept kept' skipped skipped' : List ℕ) → FilesAlike T₁ T₂ file file' → length kept ≡ length kept'
      → length skipped ≡ length skipped'
      → RescuedAlike T₁ T₂ (rescueCall pool table file kept skipped) (rescueCall pool' table' file' kept' skipped')
  unfolding rescueCall resultAfter words_in
  rescue-alike file file' kept kept' skipped skipped' e f g =
      rw (given-alike file file' kept kept' skipped skipped' e.long f g) (go (rescueGiven pool' table' file' (length kept') (length skipped')))
    where
      rs : List Rec
      rs = keptIn (piecesIn T₁ (words_in file))

      rs' : List Rec
      rs' = keptIn (piecesIn T₂ (words_in file'))

      is : List ℕ
      is = placesIn (piecesIn T₁ (words_in file)) file

      is' : List ℕ
      is' = placesIn (piecesIn T₂ (words_in file')) file'

      outcome : Got (Unit {0}) → List Rec → List ℕ → List ℕ → List ℕ → Rescued
      outcome m qs js k l = record {
        answer = m >>= λ u. got (length qs, length js);
        kept = resultAfter (m >>= λ u. got (bytes_of (words qs))) k;
        skipped = resultAfter (m >>= λ u. got js) l;
      }

      go : (m : Got (Unit {0})) → RescuedAlike T₁ T₂ (outcome m rs is kept skipped) (outcome m rs' is' kept' skipped')
      go (refused n) = record { answer = refl; kept = nothing T₁ T₂; skipped = refl }
      go (got u) = record {
        answer = ap₂ (λ (a b : ℕ). got (a, b)) (same_length T₁ T₂ rs rs' (kept-records file file' e)) (ap length (same-places file file' e));
        kept = rw (kept-front pool table file kept (byte-file file e.bytes), kept-front pool' table' file' kept' (byte-file file' e.bytes'))
            (words-alike T₁ T₂ rs rs' (kept-records file file' e));
        skipped = front-over is skipped ∙ same-places file file' e ∙ sym (front-over is' skipped');
      }
