-- What follows from the definitions of specs/Scanned: what scanning a line says, by places that count from 0.
use Rattle.std.specs.Prelude.{◌≡◌, refl, Bool, true, false, [], leb, length, drop, get_or}
use Rattle.std.proofs.Common.{sym, ap, ◌∙◌, arith, leb-true, leb-false, eq-eqb, ne_eqb, drop_of_length-le, drop-cons}
use Rattle.std.proofs.Math.Option.{none, some}
use Prim.Native.Nat.{ℕ, suc, ◌+◌, ◌-◌, ◌*◌, ◌≤◌, ◌<◌}
use Rattle.std.proofs.Math.Numerals.{add-one, add-two, add-three}
use Rattle.laws.specs.Lists.{and_right}
use Rattle.laws.proofs.Lists.{some≢none}
use Rattle.rules.specs.Names.{Bytes}
use Rattle.rules.specs.Grammar.{read, bad, isBlank, is_plain, between, isDigit, hexIn, hexOf, slashed, half}
use Rattle.rules.specs.Grammar.{nameFrom, skipFrom, spellFrom}
use Rattle.text_scan.specs.Scanned.{place_in, nameIn, ByteThen}

-- ══ Blanks ══

pub blank_step : (line : Bytes) (i : ℕ) → i < length line → isBlank (get_or line i 0) ≡ true
    → skipFrom (suc i) (drop i line) ≡ skipFrom (suc (i + 1)) (drop (i + 1) line)
unfolding skipFrom
blank_step line i h e = rw (drop-cons line i 0 h, add-one i) (rw (e, skipFrom))

pub sign-step : (line : Bytes) (i : ℕ) → i < length line → isBlank (get_or line i 0) ≡ false → skipFrom (suc i) (drop i line) ≡ place_in line i
unfolding skipFrom
sign-step line i h e = rw (drop-cons line i 0 h) (rw (e, skipFrom))

pub end_step : (line : Bytes) (i : ℕ) → length line ≤ i → skipFrom (suc i) (drop i line) ≡ place_in line i
unfolding skipFrom
end_step line i h = rw (drop_of_length-le line {i = i} h)

-- ══ Signs ══

pub spelt-whole : (line sign : Bytes) (i j : ℕ) → length sign ≤ j → spellFrom (drop j sign) (suc i) (drop i line) ≡ read tt (place_in line i)
unfolding spellFrom
spelt-whole line sign i j h = rw (drop_of_length-le sign {i = j} h)

pub spelt-end : (line sign : Bytes) (i j : ℕ) → j < length sign → length line ≤ i → spellFrom (drop j sign) (suc i) (drop i line) ≡ bad (suc i)
unfolding spellFrom
spelt-end line sign i j h k = rw (drop-cons sign j 0 h, drop_of_length-le line {i = i} k)

pub spelt-other : (line sign : Bytes) (i j : ℕ) → j < length sign → i < length line → (get_or line i 0 ≡ get_or sign j 0 → ⊥)
    → spellFrom (drop j sign) (suc i) (drop i line) ≡ bad (suc i)
unfolding spellFrom
spelt-other line sign i j h k e = rw (drop-cons sign j 0 h, drop-cons line i 0 k) (rw (ne_eqb (get_or line i 0) (get_or sign j 0) e, spellFrom))

pub spelt-step : (line sign : Bytes) (i j : ℕ) → j < length sign → i < length line → get_or line i 0 ≡ get_or sign j 0
    → spellFrom (drop j sign) (suc i) (drop i line) ≡ spellFrom (drop (j + 1) sign) (suc (i + 1)) (drop (i + 1) line)
unfolding spellFrom
spelt-step line sign i j h k e = rw (drop-cons sign j 0 h, drop-cons line i 0 k, add-one i, add-one j)
    (rw (eq-eqb (get_or line i 0) (get_or sign j 0) e, spellFrom))

-- ══ Names ══

-- a hex digit's value is below 16
below : (b g : ℕ) (x y z : Bool) → between "0" b "9" ≡ x → between "A" b "F" ≡ y → between "a" b "f" ≡ z → hexIn x y z b ≡ some g → g < 16
below b g true y z i j k e = let w : b - 48 ≡ g = cc in omega (arith, leb-true b 57 (and_right (leb 48 b) _ i))
below b g false true z i j k e = let w : b - 55 ≡ g = cc in omega (arith, leb-true b 70 (and_right (leb 65 b) _ j))
below b g false false true i j k e = let w : b - 87 ≡ g = cc in omega (arith, leb-true b 102 (and_right (leb 97 b) _ k))
below b g false false false i j k e = absurd (some≢none (sym e))

pub hex-below : (b g : ℕ) → hexOf b ≡ some g → g < 16
unfolding hexOf isDigit
hex-below b g e = below b g (between "0" b "9") (between "A" b "F") (between "a" b "f") refl refl refl e

-- at the end of the line a name ends
pub end-name : (line : Bytes) (at : ℕ) → length line ≤ at → nameIn line at ≡ read [] (place_in line at)
unfolding nameFrom
end-name line at h = rw (drop_of_length-le line {i = at} h)

module _ (line : Bytes) (at : ℕ) (h : at < length line) where
  pub plain-letter : is_plain (get_or line at 0) ≡ true → ByteThen line at (get_or line at 0) (at + 1)
  unfolding nameFrom
  plain-letter e = record { within = omega arith; further = omega arith; is = rw (drop-cons line at 0 h, add-one at) (rw (e, nameFrom)) }

  pub no-letter : is_plain (get_or line at 0) ≡ false → (get_or line at 0 ≡ 92 → ⊥) → nameIn line at ≡ read [] (place_in line at)
  unfolding nameFrom
  no-letter e k = rw (drop-cons line at 0 h) (rw (e, nameFrom) (rw (ne_eqb (get_or line at 0) 92 k)))

  slash : get_or line at 0 ≡ 92 → nameIn line at ≡ nameFrom slashed (suc (suc at)) (drop (suc at) line)
  unfolding nameFrom is_plain isDigit
  slash e = rw (drop-cons line at 0 h, e)

  slash-end : get_or line at 0 ≡ 92 → length line ≤ at + 1 → nameIn line at ≡ bad (suc (at + 1))
  unfolding nameFrom
  slash-end e k = slash e ∙ rw (drop_of_length-le line {i = suc at} (omega arith)) (ap (λ (n : ℕ). bad (suc n)) (omega arith))

  slash-bad : get_or line at 0 ≡ 92 → at + 1 < length line → hexOf (get_or line (at + 1) 0) ≡ none → nameIn line at ≡ bad (suc (at + 1))
  unfolding nameFrom
  slash-bad e k x =
      let y : hexOf (get_or line (suc at) 0) ≡ none = rw (add-one at) at x in
      slash e ∙ rw (drop-cons line (suc at) 0 (omega arith)) (rw (y, nameFrom) (ap (λ (n : ℕ). bad (suc n)) (sym (add-one at))))

  -- no hex digit behind the backslash
  pub first-bad : get_or line at 0 ≡ 92 → (at + 1 < length line → hexOf (get_or line (at + 1) 0) ≡ none) → nameIn line at ≡ bad (suc (at + 1))
  first-bad e f = go (leb (length line) (at + 1)) refl
    where
      go : (t : Bool) → leb (length line) (at + 1) ≡ t → nameIn line at ≡ bad (suc (at + 1))
      go true q = slash-end e (leb-true (length line) (at + 1) q)
      go false q = let k : at + 1 < length line = omega (arith, leb-false (length line) (at + 1) q) in slash-bad e k (f k)

  digit : (g : ℕ) → get_or line at 0 ≡ 92 → at + 1 < length line → hexOf (get_or line (at + 1) 0) ≡ some g
      → nameIn line at ≡ nameFrom (half g) (suc (suc (suc at))) (drop (suc (suc at)) line)
  unfolding nameFrom
  digit g e k x =
      let y : hexOf (get_or line (suc at) 0) ≡ some g = rw (add-one at) at x in
      slash e ∙ rw (drop-cons line (suc at) 0 (omega arith)) (rw (y, nameFrom))

  digit-end : (g : ℕ) → get_or line at 0 ≡ 92 → at + 1 < length line → hexOf (get_or line (at + 1) 0) ≡ some g → length line ≤ at + 2
      → nameIn line at ≡ bad (suc (at + 2))
  unfolding nameFrom
  digit-end g e k x l = digit g e k x ∙ rw (drop_of_length-le line {i = suc (suc at)} (omega arith)) (ap (λ (n : ℕ). bad (suc n)) (omega arith))

  digit-bad : (g : ℕ) → get_or line at 0 ≡ 92 → at + 2 < length line → hexOf (get_or line (at + 1) 0) ≡ some g → hexOf (get_or line (at + 2) 0) ≡ none
      → nameIn line at ≡ bad (suc (at + 2))
  unfolding nameFrom
  digit-bad g e k x z =
      let y : hexOf (get_or line (suc (suc at)) 0) ≡ none = rw (add-two at) at z in
      digit g e (omega arith) x ∙ rw (drop-cons line (suc (suc at)) 0 (omega arith)) (rw (y, nameFrom) (ap (λ (n : ℕ). bad (suc n)) (sym (add-two at))))

  -- no hex digit behind the first
  pub second-bad : (g : ℕ) → get_or line at 0 ≡ 92 → at + 1 < length line → hexOf (get_or line (at + 1) 0) ≡ some g
      → (at + 2 < length line → hexOf (get_or line (at + 2) 0) ≡ none)
      → nameIn line at ≡ bad (suc (at + 2))
  second-bad g e k x f = go (leb (length line) (at + 2)) refl
    where
      go : (t : Bool) → leb (length line) (at + 2) ≡ t → nameIn line at ≡ bad (suc (at + 2))
      go true q = digit-end g e k x (leb-true (length line) (at + 2) q)
      go false q = let l : at + 2 < length line = omega (arith, leb-false (length line) (at + 2) q) in digit-bad g e l x (f l)

  pub both-digits : (g f : ℕ) → get_or line at 0 ≡ 92 → at + 2 < length line → hexOf (get_or line (at + 1) 0) ≡ some g
      → hexOf (get_or line (at + 2) 0) ≡ some f → ByteThen line at (g * 16 + f) (at + 3)
  unfolding nameFrom
  both-digits g f e k x z =
      let y : hexOf (get_or line (suc (suc at)) 0) ≡ some f = rw (add-two at) at z in
      record {
        within = omega arith;
        further = omega arith;
        is = digit g e (omega arith) x ∙ rw (drop-cons line (suc (suc at)) 0 (omega arith), add-three at) (rw (y, nameFrom));
      }
