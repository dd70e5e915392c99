-- What the loops of the rescue leave to do.
use Rattle.std.specs.Prelude.{◌≡◌, Bool, eqb, get_or, drop, set}
use Rattle.std.proofs.Math.Path.{refl, sym, ap, ap₂}
use Rattle.std.proofs.Common.{◌∙◌, add-zero, zero-add, add-one, arith, eq-eqb, ne_eqb, drop-cons}
use Rattle.std.proofs.Math.Bool.{true, false}
use Rattle.std.proofs.Math.Option.{Option, none, some}
use mathlib.Core.List.{List, [], ◌∷◌, ◌++◌}
use Prim.Native.Nat.{ℕ, zero, suc, ◌+◌, ◌*◌, ◌-◌, ◌/◌, ◌%◌, ◌≤◌, ◌<◌}
use Rattle.std.proofs.Math.Numerals.{add-two, add-three}
use Rattle.std.proofs.Math.ListN.{length, length-append}
use Rattle.std.proofs.Math.Seq.{sets, slice, slice-cons}
use Rattle.rules.specs.Base.{and_then, only_if}
use Rattle.rules.specs.Trees.{Con, sizeCon}
use Rattle.rules.specs.Names.{table_of}
use Rattle.rules.specs.Writing.{Rec, rec, words, writeCon}
use Rattle.rules.specs.Reading.{readCon}
use Rattle.laws.proofs.Size.{size-con, words_append, words-length}
use Rattle.records.specs.Found.{Words32}
use Rattle.records.proofs.Given.{con-reader}
use Rattle.records.specs.Good.{goodCon, GoodCon}
use Rattle.records.proofs.Held.{con-written}
use Rattle.records.proofs.Moves.{con-moves}
use Rattle.records.specs.Places.{recs-length, recAt, from-none, from_some}
use Rattle.records.proofs.Places.{words-from}
use Rattle.records.proofs.Stores.{sets-append}
use Rattle.records.specs.Views.{recs, from}
use Rattle.rules.specs.Rescue.{
  wordFrom,
  words_in,
  recordsIn,
  bytes_of,
  Piece,
  sound,
  lost,
  startsHere,
  pieces,
  piecesIn,
  keptIn,
  skippedFrom,
  unless,
  tornIn,
  placesIn,
}
use Rattle.rescue.specs.Told.{keptBytes, Walked, Noted}
use Rattle.rescue.specs.declared.Counts.{Counts}

-- ══ Bytes and words ══

pub words-in-length : (bs : List ℕ) → length (words_in bs) ≡ length bs / 4
unfolding words_in
words-in-length [] = refl
words-in-length (a ∷ []) = omega arith
words-in-length (a ∷ b ∷ []) = omega arith
words-in-length (a ∷ b ∷ c ∷ []) = omega arith
words-in-length (a ∷ b ∷ c ∷ d ∷ bs) = omega (arith, words-in-length bs)

-- the word with the number i
word_in : (bs : List ℕ) (i : ℕ) → i < length bs / 4
    → wordFrom (get_or bs (i * 4) 0) (get_or bs (suc (i * 4)) 0) (get_or bs (suc (suc (i * 4))) 0) (get_or bs (suc (suc (suc (i * 4)))) 0)
    ≡ get_or (words_in bs) i 0
unfolding words_in
word_in [] i h = absurd (omega arith)
word_in (a ∷ []) i h = absurd (omega arith)
word_in (a ∷ b ∷ []) i h = absurd (omega arith)
word_in (a ∷ b ∷ c ∷ []) i h = absurd (omega arith)
word_in (a ∷ b ∷ c ∷ d ∷ bs) zero h = refl
word_in (a ∷ b ∷ c ∷ d ∷ bs) (suc i) h =
    let e : suc i * 4 ≡ suc (suc (suc (suc (i * 4)))) = omega arith in
    rw e (word_in bs i (omega arith))

pub word-is : (bs : List ℕ) (i : ℕ) → i < length bs / 4
    → wordFrom (get_or bs (i * 4) 0) (get_or bs (i * 4 + 1) 0) (get_or bs (i * 4 + 2) 0) (get_or bs (i * 4 + 3) 0) ≡ get_or (words_in bs) i 0
word-is bs i h = rw (add-one (i * 4), add-two (i * 4), add-three (i * 4)) (word_in bs i h)

pub no_bytes : bytes_of [] ≡ []
unfolding bytes_of
no_bytes = refl

pub bytes-length : (ws : List ℕ) → length (bytes_of ws) ≡ length ws * 4
unfolding bytes_of
bytes-length [] = refl
bytes-length (w ∷ ws) = omega (arith, bytes-length ws)

pub bytes-append : (ws vs : List ℕ) → bytes_of (ws ++ vs) ≡ bytes_of ws ++ bytes_of vs
unfolding bytes_of
bytes-append [] vs = refl
bytes-append (w ∷ ws) vs = rw (bytes-append ws vs)

pub records-are : (s : List ℕ) → recordsIn s ≡ recs s
unfolding recordsIn recs
records-are [] = refl
records-are (w ∷ []) = refl
records-are (w ∷ a ∷ []) = refl
records-are (w ∷ a ∷ b ∷ []) = refl
records-are (w ∷ a ∷ b ∷ c ∷ ws) = ap (rec w a b c ∷◌) (records-are ws)

-- ══ Stores ══

-- a turn of the filling loop
pub fill_step : (v d d' : List ℕ) (i : ℕ) {R : List ℕ} → i < length v → d' ≡ set d i (get_or v i 0) → sets d i (drop i v) ≡ R
    → sets d' (i + 1) (drop (i + 1) v) ≡ R
fill_step v d d' i lt e h = rw (add-one i, e) (sym (ap (sets d i) (drop-cons v i 0 lt)) ∙ h)

-- four stores in a row write a word
pub four_bytes : (d d₁ d₂ d₃ d₄ : List ℕ) (i w a b c e : ℕ) → a ≡ w % 256 → b ≡ w / 256 % 256 → c ≡ w / 65_536 % 256 → e ≡ w / 16_777_216 % 256
    → d₁ ≡ set d i a → d₂ ≡ set d₁ (i + 1) b → d₃ ≡ set d₂ (i + 2) c → d₄ ≡ set d₃ (i + 3) e → d₄ ≡ sets d i (bytes_of (w ∷ []))
unfolding bytes_of
four_bytes d d₁ d₂ d₃ d₄ i w a b c e ha hb hc he p q r t = cc (add-one i, add-two i, add-three i)

-- a turn of the loop that writes words
pub bytes-step : (v d d' : List ℕ) (i o t : ℕ) {R : List ℕ} → i < t → t ≤ length v → d' ≡ sets d o (bytes_of (get_or v i 0 ∷ []))
    → sets d o (bytes_of (slice i t v)) ≡ R → sets d' (o + 4) (bytes_of (slice (i + 1) t v)) ≡ R
bytes-step v d d' i o t lt le e h =
    let w : List ℕ = get_or v i 0 ∷ [] in
    let q : bytes_of (slice i t v) ≡ bytes_of w ++ bytes_of (slice (suc i) t v) = ap bytes_of (slice-cons i t v 0 lt le) ∙ bytes-append w (slice (suc i) t v) in
    let n : length (bytes_of w) ≡ 4 = bytes-length w in
    rw (add-one i, e) (ap (λ (k : ℕ). sets (sets d o (bytes_of w)) (o + k) (bytes_of (slice (suc i) t v))) (sym n)
    ∙ sym (sets-append (bytes_of w) (bytes_of (slice (suc i) t v)) d o) ∙ ap (sets d o) (sym q) ∙ h)

-- ══ The torn record ══

module _ (file skipped : List ℕ) (m : ℕ) where
  pub torn-none : length file % 16 ≡ 0 → Noted file m skipped skipped m
  unfolding tornIn
  torn-none e = record { place = rw (eq-eqb (length file % 16) 0 e) refl; few = rw (eq-eqb (length file % 16) 0 e) (sym (add-zero m)) }

  pub torn-one : ((length file % 16 ≡ 0) → ⊥) → (skipped' : List ℕ) → skipped' ≡ set skipped m (length file / 16) → Noted file m skipped skipped' (m + 1)
  unfolding tornIn
  torn-one f skipped' e = record { place = rw (ne_eqb (length file % 16) 0 f) e; few = rw (ne_eqb (length file % 16) 0 f) refl }

  -- behind the places of the walk
  pub torn-behind : (ps : List Piece) (first skipped' : List ℕ) (r : ℕ) → m ≡ length (skippedFrom 0 ps) → first ≡ sets skipped 0 (skippedFrom 0 ps)
      → Noted file m first skipped' r
      → (skipped' ≡ sets skipped 0 (placesIn ps file)) × (r ≡ length (placesIn ps file))
  unfolding placesIn
  torn-behind ps first skipped' r n e t =
      let places = skippedFrom 0 ps in
      let j : m ≡ 0 + length places = n ∙ sym (zero-add (length places)) in (
        t.place ∙ ap₂ (λ (d : List ℕ) (i : ℕ). sets d i (tornIn file)) e j ∙ sym (sets-append places (tornIn file) skipped 0),
        t.few ∙ ap (◌+ length (tornIn file)) n ∙ sym (length-append places (tornIn file)),
      )

pub torn-few : (file : List ℕ) → length (tornIn file) ≤ 1
unfolding tornIn
torn-few file = go (eqb (length file % 16) 0)
  where
    go : (b : Bool) → length (unless b (length file / 16)) ≤ 1
    go true = omega arith
    go false = omega arith

-- ══ A turn of the walk ══

module _ (pool table s : List ℕ) where
  -- what is still to be written from the place `at` on, k records and m places behind the front
  pub record Left (kept₀ skipped₀ kept skipped : List ℕ) (at k m : ℕ) : Type 0 where
    pub fuel : ℕ
    pub enough : length s / 4 ≤ at + fuel
    pub bytes : sets kept (k * 16) (keptBytes (pieces (table_of pool table) fuel (from s at))) ≡ sets kept₀ 0 (keptBytes (piecesIn (table_of pool table) s))
    pub places : sets skipped m (skippedFrom at (pieces (table_of pool table) fuel (from s at)))
        ≡ sets skipped₀ 0 (skippedFrom 0 (piecesIn (table_of pool table) s))
    pub many : k + length (keptIn (pieces (table_of pool table) fuel (from s at))) ≡ length (keptIn (piecesIn (table_of pool table) s))
    pub few : m + length (skippedFrom at (pieces (table_of pool table) fuel (from s at))) ≡ length (skippedFrom 0 (piecesIn (table_of pool table) s))

module _ (pool table s : List ℕ) (w : Words32 s) where
  abbrev N : ℕ
  N = length s / 4

  abbrev some-pieces : ℕ → List Rec → List Piece
  some-pieces = pieces (table_of pool table)

  here-sound : (at e : ℕ) (c : Con ℕ) → GoodCon pool table 0 s at c e → startsHere (table_of pool table) (from s at) ≡ some (c, from s e)
  unfolding startsHere
  here-sound at e c g = rw ((con-reader pool table s w).reads at c e g, g.good)

  here-lost : (at : ℕ) → ((c : Con ℕ) (e : ℕ) → GoodCon pool table 0 s at c e → ⊥) → startsHere (table_of pool table) (from s at) ≡ none
  unfolding startsHere
  here-lost at f = go (readCon (from s at)) refl
    where
      test : (v : Con ℕ × List Rec) → readCon (from s at) ≡ some v → (b : Bool) → goodCon pool table 0 v.0 ≡ b → only_if b v ≡ none
      test v e true g = let (i, (p, _)) = (con-reader pool table s w).finds at v.0 v.1 e g in absurd (f v.0 i p)
      test v e false g = refl

      go : (o : Option (Con ℕ × List Rec)) → readCon (from s at) ≡ o → and_then o (λ v. only_if (goodCon pool table 0 v.0) v) ≡ none
      go none e = refl
      go (some v) e = test v e (goodCon pool table 0 v.0) refl

  one-sound : (n : ℕ) (r : Rec) (rs : List Rec) (v : Con ℕ × List Rec) → startsHere (table_of pool table) (r ∷ rs) ≡ some v
      → some-pieces (suc n) (r ∷ rs) ≡ sound v.0 ∷ some-pieces n v.1
  unfolding pieces
  one-sound n r rs v e = rw (e, pieces)

  one-lost : (n : ℕ) (r : Rec) (rs : List Rec) → startsHere (table_of pool table) (r ∷ rs) ≡ none → some-pieces (suc n) (r ∷ rs) ≡ lost r ∷ some-pieces n rs
  unfolding pieces
  one-lost n r rs e = rw (e, pieces)

  pub pieces-sound : (n at e : ℕ) (c : Con ℕ) → at < N → GoodCon pool table 0 s at c e → some-pieces (suc n) (from s at) ≡ sound c ∷ some-pieces n (from s e)
  pieces-sound n at e c lt g =
      let q = from_some s at lt in
      rw q (one-sound n (recAt s at) (from s (at + 1)) (c, from s e) (ap (startsHere (table_of pool table)) (sym q) ∙ here-sound at e c g))

  pub pieces-lost : (n at : ℕ) → at < N → ((c : Con ℕ) (e : ℕ) → GoodCon pool table 0 s at c e → ⊥)
      → some-pieces (suc n) (from s at) ≡ lost (recAt s at) ∷ some-pieces n (from s (at + 1))
  pieces-lost n at lt f =
      let q = from_some s at lt in
      rw q (one-lost n (recAt s at) (from s (at + 1)) (ap (startsHere (table_of pool table)) (sym q) ∙ here-lost at f))

  no_pieces : (n : ℕ) → some-pieces n [] ≡ []
  unfolding pieces
  no_pieces zero = refl
  no_pieces (suc n) = refl

  pub pieces_end : (n at : ℕ) → N ≤ at → some-pieces n (from s at) ≡ []
  pieces_end n at h = ap (some-pieces n) (from-none s at h) ∙ no_pieces n

  module _ (kept₀ skipped₀ : List ℕ) where
    abbrev pub LeftAt : List ℕ → List ℕ → ℕ → ℕ → ℕ → Type 0
    LeftAt = Left pool table s kept₀ skipped₀

    pub left-start : LeftAt kept₀ skipped₀ 0 0 0
    unfolding piecesIn from
    left-start =
        let e : recordsIn s ≡ recs s = records-are s in
        record {
          fuel = length (recordsIn s);
          enough = omega (arith, recs-length s, ap length e);
          bytes = rw e refl;
          places = rw e refl;
          many = rw e (zero-add _);
          few = rw e (zero-add _);
        }

    -- before the end there is a piece more
    fuel-left : {kept skipped : List ℕ} {at k m : ℕ} → at < N → (l : LeftAt kept skipped at k m) → l.fuel ≡ suc (l.fuel - 1)
    fuel-left lt l = omega (arith, l.enough, lt)

    module _ (kept skipped : List ℕ) (at k m : ℕ) (lt : at < N) where
      -- a constraint was written
      module _ (e : ℕ) (c : Con ℕ) (g : GoodCon pool table 0 s at c e) (kept' : List ℕ)
          (wrote : kept' ≡ sets kept (k * 16) (bytes_of (slice (at * 4) (e * 4) s))) where
        its-words : slice (at * 4) (e * 4) s ≡ words (writeCon c)
        its-words =
            let stands : from s at ≡ writeCon c ++ from s (at + sizeCon c) = con-written s c at g.held in
            let x : slice (at * 4) ((at + length (writeCon c)) * 4) s ≡ words (writeCon c) =
            words-from s (writeCon c) (from s (at + sizeCon c)) at (omega arith) stands in
            let y : (at + length (writeCon c)) * 4 ≡ e * 4 = omega (arith, g.past, size-con c) in
            ap (λ (j : ℕ). slice (at * 4) j s) (sym y) ∙ x

        its-size : k + (e - at) ≡ k + length (writeCon c)
        its-size = omega (arith, g.past, size-con c)

        wrote_then : (ps : List Piece) → sets kept' ((k + (e - at)) * 16) (keptBytes ps) ≡ sets kept (k * 16) (keptBytes (sound c ∷ ps))
        unfolding keptIn
        wrote_then ps =
            let b : List ℕ = bytes_of (words (writeCon c)) in
            let n : (k + (e - at)) * 16 ≡ k * 16 + length b = omega (arith, its-size, bytes-length (words (writeCon c)), words-length (writeCon c)) in
            let q : keptBytes (sound c ∷ ps) ≡ b ++ keptBytes ps = ap bytes_of (words_append (writeCon c) (keptIn ps))
            ∙ bytes-append (words (writeCon c)) (words (keptIn ps)) in
            let z : kept' ≡ sets kept (k * 16) b = wrote ∙ ap (λ (v : List ℕ). sets kept (k * 16) (bytes_of v)) its-words in
            ap₂ (λ (d : List ℕ) (j : ℕ). sets d j (keptBytes ps)) z n ∙ sym (sets-append b (keptBytes ps) kept (k * 16)) ∙ ap (sets kept (k * 16)) (sym q)

        more : (n : ℕ) → k + (e - at) + length (keptIn (some-pieces n (from s e))) ≡ k + length (keptIn (sound c ∷ some-pieces n (from s e)))
        unfolding keptIn
        more n = omega (arith, its-size, length-append (writeCon c) (keptIn (some-pieces n (from s e))))

        same-places : (ps : List Piece) → skippedFrom e ps ≡ skippedFrom at (sound c ∷ ps)
        unfolding skippedFrom
        same-places ps = ap (λ (j : ℕ). skippedFrom j ps) g.past

        pub left-sound : LeftAt kept skipped at k m → LeftAt kept' skipped e (k + (e - at)) m
        left-sound l =
            let n = l.fuel - 1 in
            let f : l.fuel ≡ suc n = fuel-left lt l in
            let q = pieces-sound n at e c lt g in
            let u = same-places (some-pieces n (from s e)) ∙ ap (skippedFrom at) (sym q) in
            record {
              fuel = n;
              enough = omega (arith, (con-moves pool table 0 s at c e g).0, l.enough, f);
              bytes = wrote_then (some-pieces n (from s e)) ∙ ap (λ (v : List Piece). sets kept (k * 16) (keptBytes v)) (sym q) ∙ (rw f at l.bytes);
              places = ap (sets skipped m) u ∙ (rw f at l.places);
              many = more n ∙ ap (λ (v : List Piece). k + length (keptIn v)) (sym q) ∙ (rw f at l.many);
              few = ap (λ (v : List ℕ). m + length v) u ∙ (rw f at l.few);
            }

      -- a place was noted
      module _ (none_here : (c : Con ℕ) (e : ℕ) → GoodCon pool table 0 s at c e → ⊥) (skipped' : List ℕ) (noted : skipped' ≡ set skipped m at) where
        kept_same : (r : Rec) (ps : List Piece) → keptIn (lost r ∷ ps) ≡ keptIn ps
        unfolding keptIn
        kept_same r ps = refl

        place-more : (r : Rec) (ps : List Piece) → skippedFrom at (lost r ∷ ps) ≡ at ∷ skippedFrom (at + 1) ps
        unfolding skippedFrom
        place-more r ps = refl

        pub left-lost : LeftAt kept skipped at k m → LeftAt kept skipped' (at + 1) k (m + 1)
        left-lost l =
            let n = l.fuel - 1 in
            let f : l.fuel ≡ suc n = fuel-left lt l in
            let rest = some-pieces n (from s (at + 1)) in
            let q = pieces-lost n at lt none_here in
            let u : keptIn rest ≡ keptIn (some-pieces (suc n) (from s at)) = sym (ap keptIn q ∙ kept_same (recAt s at) rest) in
            let v : at ∷ skippedFrom (at + 1) rest ≡ skippedFrom at (some-pieces (suc n) (from s at)) =
            sym (ap (skippedFrom at) q ∙ place-more (recAt s at) rest) in
            record {
              fuel = n;
              enough = omega (arith, l.enough, f);
              bytes = ap (λ (r : List Rec). sets kept (k * 16) (bytes_of (words r))) u ∙ (rw f at l.bytes);
              places = ap₂ (λ (d : List ℕ) (j : ℕ). sets d j (skippedFrom (at + 1) rest)) noted (add-one m) ∙ ap (sets skipped m) v ∙ (rw f at l.places);
              many = ap (λ (r : List Rec). k + length r) u ∙ (rw f at l.many);
              few = omega (arith, ap length v, rw f at l.few);
            }

    -- nothing is left
    pub left-done : (kept skipped : List ℕ) (at k m : ℕ) → N ≤ at → LeftAt kept skipped at k m → (r : Counts) → r.kept ≡ k → r.skipped ≡ m → k + m ≤ 2048
        → Walked (piecesIn (table_of pool table) s) kept₀ kept skipped₀ skipped r
    unfolding keptIn skippedFrom words bytes_of
    left-done kept skipped at k m h l r p q i =
        let e = pieces_end l.fuel at h in
        record {
          bytes = rw e at l.bytes;
          places = rw e at l.places;
          many = p ∙ sym (add-zero k) ∙ (rw e at l.many);
          few = q ∙ sym (add-zero m) ∙ (rw e at l.few);
          within = omega arith;
        }
