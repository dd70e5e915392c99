-- Bytes and words, both ways.
use Rattle.std.specs.Prelude.{◌≡◌, refl, List, [], ◌∷◌, ℕ, zero, suc, ◌/◌, ◌%◌, ◌<◌, length, get_or}
use Rattle.std.proofs.Common.{ap, ap₂, arith}
use Rattle.rules.specs.Writing.{words}
use Rattle.laws.specs.Lists.{Every}
use Rattle.laws.specs.Written.{Small}
use Rattle.records.specs.Found.{Words32}
use Rattle.rescue.specs.Told.{Bytes}
use Rattle.rules.specs.Rescue.{wordFrom, words_in, recordsIn, bytes_of}

abbrev pub Words : List ℕ → Type 0
Words ws = Every (λ w. w < 4_294_967_296) ws

pub words-32 : (ws : List ℕ) → Words ws → Words32 ws
words-32 ws h = record { word = go ws h }
  where
    go : (vs : List ℕ) → Words vs → (i : ℕ) → get_or vs i 0 < 4_294_967_296
    go [] h i = omega arith
    go (v ∷ vs) h zero = h.0
    go (v ∷ vs) h (suc i) = go vs h.1 i

pub bytes-words : (bs : List ℕ) → Bytes bs → Words (words_in bs)
unfolding words_in
bytes-words [] h = tt
bytes-words (a ∷ []) h = tt
bytes-words (a ∷ b ∷ []) h = tt
bytes-words (a ∷ b ∷ c ∷ []) h = tt
bytes-words (a ∷ b ∷ c ∷ d ∷ bs) h = (omega (arith, h.0, h.1.0, h.1.1.0, h.1.1.1.0), bytes-words bs h.1.1.1.1)

pub bytes-bytes : (ws : List ℕ) → Bytes (bytes_of ws)
unfolding bytes_of
bytes-bytes [] = tt
bytes-bytes (w ∷ ws) = (omega arith, (omega arith, (omega arith, (omega arith, bytes-bytes ws))))

-- the records of words, and the words of records
pub words-records : (ws : List ℕ) → Words ws → Words (words (recordsIn ws)) × Small (recordsIn ws)
unfolding recordsIn words
words-records [] h = (tt, tt)
words-records (w ∷ []) h = (tt, tt)
words-records (w ∷ a ∷ []) h = (tt, tt)
words-records (w ∷ a ∷ b ∷ []) h = (tt, tt)
words-records (w ∷ a ∷ b ∷ c ∷ ws) h =
    let (i, j) = words-records ws h.1.1.1.1 in
    ((h.0, (h.1.0, (h.1.1.0, (h.1.1.1.0, i)))), (h.1.1.0, j))

pub records-back : (ws : List ℕ) → length ws % 4 ≡ 0 → words (recordsIn ws) ≡ ws
unfolding recordsIn words
records-back [] h = refl
records-back (w ∷ []) h = absurd (omega arith)
records-back (w ∷ a ∷ []) h = absurd (omega arith)
records-back (w ∷ a ∷ b ∷ []) h = absurd (omega arith)
records-back (w ∷ a ∷ b ∷ c ∷ ws) h = ap (λ (v : List ℕ). w ∷ a ∷ b ∷ c ∷ v) (records-back ws (omega arith))

-- a word of its bytes, and the bytes of a word
word_back : (w : ℕ) → w < 4_294_967_296 → wordFrom (w % 256) (w / 256 % 256) (w / 65_536 % 256) (w / 16_777_216 % 256) ≡ w
word_back w h =
    let x : w / 65_536 ≡ w / 256 / 256 = omega arith in
    let y : w / 16_777_216 ≡ w / 65_536 / 256 = omega arith in
    let z : w / 16_777_216 % 256 ≡ w / 16_777_216 = omega arith in
    omega (arith, x, y, z)

pub words_back : (ws : List ℕ) → Words ws → words_in (bytes_of ws) ≡ ws
unfolding words_in bytes_of
words_back [] h = refl
words_back (w ∷ ws) h = ap₂ ◌∷◌ (word_back w h.0) (words_back ws h.1)

module _ (a b c d : ℕ) (ha : a < 256) (hb : b < 256) (hc : c < 256) (hd : d < 256) where
  first_back : wordFrom a b c d % 256 ≡ a
  first_back = omega arith

  second_back : wordFrom a b c d / 256 % 256 ≡ b
  second_back = omega arith

  third_back : wordFrom a b c d / 65_536 % 256 ≡ c
  third_back = omega arith

  fourth-back : wordFrom a b c d / 16_777_216 % 256 ≡ d
  fourth-back = omega arith

pub bytes_back : (bs : List ℕ) → Bytes bs → length bs % 4 ≡ 0 → bytes_of (words_in bs) ≡ bs
unfolding words_in bytes_of
bytes_back [] h e = refl
bytes_back (a ∷ []) h e = absurd (omega arith)
bytes_back (a ∷ b ∷ []) h e = absurd (omega arith)
bytes_back (a ∷ b ∷ c ∷ []) h e = absurd (omega arith)
bytes_back (a ∷ b ∷ c ∷ d ∷ bs) h e =
    let w = h.1.0 in
    let x = h.1.1.0 in
    let y = h.1.1.1.0 in
    ap₂ ◌∷◌ (first_back a b c d h.0 w x y)
    (ap₂ ◌∷◌ (second_back a b c d h.0 w x y)
    (ap₂ ◌∷◌ (third_back a b c d h.0 w x y) (ap₂ ◌∷◌ (fourth-back a b c d h.0 w x y) (bytes_back bs h.1.1.1.1 (omega arith)))))
