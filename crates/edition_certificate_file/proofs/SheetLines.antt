-- The lines of a sheet as it is written: what they are, and that the text is cut into them.
use Rattle.std.proofs.Common.{
  ◌≡◌,
  refl,
  sym,
  ap,
  ◌∙◌,
  ◌++◌,
  true,
  ℕ,
  zero,
  suc,
  ltb,
  eqb,
  List,
  [],
  ◌∷◌,
  length,
  arith,
  append_assoc,
  eqb-true,
  ltb-true,
  eq-eqb,
  lt-ltb,
}
use Rattle.std.specs.List.{list_all, slice_split}
use Rattle.std.proofs.lemmas.Bool.{and_parts, not-true}
use Rattle.hex.specs.Hex.{encode_lower, IsBytes}
use Rattle.rules.specs.Base.{collect}
use Rattle.rules.specs.Grammar.{ascii}
use Rattle.rules.specs.Names.{Bytes}
use Rattle.laws.specs.Lists.{Every}
use Rattle.edition_certificate_file.specs.Files.{Kept, keptText}
use Rattle.edition_certificate_file.specs.Reading.{lineFeed}
use Rattle.edition_certificate_file.specs.Writable.{onOneLine, isDigest, isIndented, writable}
use Rattle.edition_certificate_file.proofs.Splitting.{Flat, first-line}
use Rattle.edition_certificate_file.proofs.Indented.{Indented, ownLines, indented}
use Rattle.edition_certificate_file.proofs.OneLine.{digits-on-line}

all-bytes : (digest : List ℕ) → list_all (λ b. ltb b 256) digest ≡ true → IsBytes digest
all-bytes [] h i = omega arith
all-bytes (b ∷ digest) h zero = ltb-true b 256 (and_parts (ltb b 256) _ h).0
all-bytes (b ∷ digest) h (suc i) = all-bytes digest (and_parts (ltb b 256) _ h).1 i

byte-tests : (digest : List ℕ) → IsBytes digest → list_all (λ b. ltb b 256) digest ≡ true
byte-tests [] h = refl
byte-tests (b ∷ digest) h = rw (lt-ltb b 256 (h 0), byte-tests digest (λ i. h (suc i))) refl

pub is-digest : (digest : List ℕ) → length digest ≡ 32 → IsBytes digest → isDigest digest ≡ true
is-digest digest many bytes = rw (eq-eqb (length digest) 32 many, byte-tests digest bytes) refl

pub kept-writable : (k : Kept) → length k.digest ≡ 32 → IsBytes k.digest → onOneLine k.name ≡ true → isIndented k.lines ≡ true → writable k ≡ true
unfolding writable
kept-writable k many bytes name lines = rw (name, is-digest k.digest many bytes, lines) refl

-- what can be written of a sheet
pub record Sheet (k : Kept) : Type 0 where
  pub name : Flat k.name
  pub many : length k.digest ≡ 32
  pub bytes : IsBytes k.digest
  pub lines : Indented k.lines

pub sheet : (k : Kept) → writable k ≡ true → Sheet k
unfolding writable
sheet k h =
    let name = and_parts (onOneLine k.name) _ h in
    let rest = and_parts (isDigest k.digest) _ name.1 in
    let digest = and_parts (eqb (length k.digest) 32) _ rest.0 in
    record { name = not-true _ name.0; many = eqb-true (length k.digest) 32 digest.0; bytes = all-bytes k.digest digest.1; lines = indented k.lines rest.1 }

pub sheets : (ks : List Kept) → list_all writable ks ≡ true → Every Sheet ks
sheets [] h = tt
sheets (k ∷ ks) h = let both = and_parts (writable k) _ h in (sheet k both.0, sheets ks both.1)

-- the lines that are written of it
abbrev pub sheetLines : Kept → List Bytes
sheetLines k = (ascii "sheet " ++ k.name) ∷ (ascii "sha256 " ++ encode_lower k.digest) ∷ (ownLines k.lines ++ ascii "end" ∷ [])

module _ (k : Kept) (rest : Bytes) where
  abbrev digits : Bytes
  digits = encode_lower k.digest

  -- what stands behind the line of its name
  abbrev pub belowName : Bytes
  belowName = (ascii "sha256 " ++ digits) ++ 10 ∷ (k.lines ++ (ascii "end" ++ 10 ∷ rest))

  to-the-right : keptText k ++ rest ≡ (ascii "sheet " ++ k.name) ++ 10 ∷ belowName
  unfolding keptText
  to-the-right =
      ap (λ (t : Bytes). ascii "sheet " ++ t) (append_assoc k.name (ascii "\nsha256 " ++ (digits ++ (ascii "\n" ++ (k.lines ++ ascii "end\n")))) rest
      ∙ ap (λ (t : Bytes). k.name ++ (ascii "\nsha256 " ++ t)) (append_assoc digits (ascii "\n" ++ (k.lines ++ ascii "end\n")) rest
      ∙ ap (λ (t : Bytes). digits ++ (ascii "\n" ++ t)) (append_assoc k.lines (ascii "end\n") rest)))

  pub name-split : Flat k.name
      → slice_split lineFeed (keptText k ++ rest) ≡ (ascii "sheet " ++ k.name) ∷ slice_split lineFeed belowName
  name-split h = ap (slice_split lineFeed) to-the-right ∙ first-line (ascii "sheet " ++ k.name) belowName h

  pub sheet-split : Sheet k → slice_split lineFeed (keptText k ++ rest) ≡ sheetLines k ++ slice_split lineFeed rest
  sheet-split s =
      name-split s.name ∙ ap (λ (ls : List Bytes). (ascii "sheet " ++ k.name) ∷ ls) (first-line (ascii "sha256 " ++ digits) _ (digits-on-line k.digest)
      ∙ ap (λ (ls : List Bytes). (ascii "sha256 " ++ digits) ∷ ls) (s.lines.split (ascii "end" ++ 10 ∷ rest)
      ∙ ap (ownLines k.lines ++◌) (first-line (ascii "end") rest refl)
      ∙ sym (append_assoc (ownLines k.lines) (ascii "end" ∷ []) (slice_split lineFeed rest))))

pub sheets-split : (ks : List Kept) (rest : Bytes) → Every Sheet ks
    → slice_split lineFeed (collect keptText ks ++ rest) ≡ collect sheetLines ks ++ slice_split lineFeed rest
unfolding collect
sheets-split [] rest s = refl
sheets-split (k ∷ ks) rest s =
    ap (slice_split lineFeed) (append_assoc (keptText k) (collect keptText ks) rest) ∙ sheet-split k (collect keptText ks ++ rest) s.0
    ∙ ap (sheetLines k ++◌) (sheets-split ks rest s.1) ∙ sym (append_assoc (sheetLines k) (collect sheetLines ks) (slice_split lineFeed rest))
