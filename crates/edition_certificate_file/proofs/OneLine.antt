-- What stands on one line: digits, numbers, and names as they are written.
use Rattle.std.proofs.Common.{◌≡◌, refl, ap, ◌∙◌, ◌++◌, ◌+◌, ◌/◌, ◌%◌, Bool, true, false, not, ℕ, List, [], ◌∷◌, zero, suc, ltb, slice_index, arith, ne_eqb}
use Rattle.std.specs.List.{list_any}
use Rattle.std.specs.Char.{is_ascii_uppercase}
use Rattle.std.proofs.lemmas.List.Folds.{list_any-append}
use Rattle.std.proofs.lemmas.Bool.{or_parts}
use Rattle.hex.specs.Hex.{encode_lower, encode_with, lower_digits}
use Rattle.rules.specs.Base.{collect}
use Rattle.rules.specs.Names.{Bytes}
use Rattle.rules.specs.TextWriting.{decimal}
use Rattle.edition_certificate_file.specs.Files.{isEscaped, writtenWhere, writtenByte, writtenName}
use Rattle.edition_certificate_file.specs.Reading.{lineFeed}
use Rattle.edition_certificate_file.specs.Writable.{onOneLine}
use Rattle.edition_certificate_file.proofs.Splitting.{Flat}

module _ {X : Type 0} (p : X → Bool) where
  -- of two lists that each have none that passes
  pub none-in-both : (xs ys : List X) → list_any p xs ≡ false → list_any p ys ≡ false → list_any p (xs ++ ys) ≡ false
  none-in-both xs ys h k = list_any-append p xs ys ∙ rw (h, k)

module _ (p : ℕ → Bool) (past : p 0 ≡ false) (digits : List ℕ) (none : list_any p digits ≡ false) where
  in-table : (ds : List ℕ) (i : ℕ) → list_any p ds ≡ false → p (slice_index ds i) ≡ false
  in-table [] i h = past
  in-table (d ∷ ds) zero h = (or_parts (p d) (list_any p ds) h).0
  in-table (d ∷ ds) (suc i) h = in-table ds i (or_parts (p d) (list_any p ds) h).1

  -- what is written with digits of a table has nothing that the table hasn't
  in-digits : (bs : List ℕ) → list_any p (encode_with digits bs) ≡ false
  unfolding encode_with
  in-digits [] = refl
  in-digits (b ∷ bs) = rw (in-table digits (b / 16) none, in-table digits (b % 16) none, in-digits bs)

pub digits-on-line : (bs : List ℕ) → Flat (encode_lower bs)
digits-on-line = in-digits lineFeed refl lower_digits refl

pub no-capital : (bs : List ℕ) → list_any is_ascii_uppercase (encode_lower bs) ≡ false
no-capital = in-digits is_ascii_uppercase refl lower_digits refl

pub number-on-line : (k n : ℕ) → Flat (decimal k n)
unfolding decimal
number-on-line zero n = refl
number-on-line (suc k) n = go (ltb n 10) refl (number-on-line k (n / 10))
  where
    go : (b : Bool) → ltb n 10 ≡ b → Flat (decimal k (n / 10)) → Flat (decimal (suc k) n)
    go true e h = rw (e, decimal) (rw (ne_eqb (n + 48) 10 (omega arith)) refl)
    go false e h = rw (e, decimal) (none-in-both lineFeed (decimal k (n / 10)) ((n % 10 + 48) ∷ []) h (rw (ne_eqb (n % 10 + 48) 10 (omega arith)) refl))

byte-on-line : (b : ℕ) → Flat (writtenByte b)
byte-on-line b = go (isEscaped b) refl
  where
    go : (t : Bool) → isEscaped b ≡ t → Flat (writtenWhere t b)
    go true e = digits-on-line (b ∷ [])
    go false e = rw (ne_eqb b 10 (λ q. let z : isEscaped 10 ≡ false = rw q at e in cc z)) refl

name-on-line : (name : Bytes) → Flat (collect writtenByte name)
unfolding collect
name-on-line [] = refl
name-on-line (b ∷ name) = none-in-both lineFeed (writtenByte b) (collect writtenByte name) (byte-on-line b) (name-on-line name)

pub written-on-line : (name : Bytes) → onOneLine (writtenName name) ≡ true
unfolding writtenName
written-on-line name = ap not (name-on-line name)
