-- Lines that begin with two blanks and end with a line feed: how a text is cut into them, and that a line more is one more of them.
use Rattle.std.proofs.Common.{
  ◌≡◌,
  refl,
  sym,
  ap,
  ◌∙◌,
  ◌++◌,
  ◌-◌,
  true,
  List,
  [],
  ◌∷◌,
  length,
  take,
  drop,
  eqb,
  arith,
  append-nil,
  append_assoc,
  length-append,
  take-append-drop,
}
use Rattle.std.specs.List.{list_all, slice_split}
use Rattle.std.specs.Cmp.Lexicographic.{same_text}
use Rattle.std.proofs.Math.Bool.{or-true}
use Rattle.std.proofs.lemmas.Bool.{and_parts, not-true}
use Rattle.std.proofs.lemmas.List.{take_at, drop_at}
use Rattle.std.proofs.lemmas.List.Folds.{list_all-append}
use lib.Pointwise.{pointwise}
use Rattle.rules.specs.Base.{collect, isNil}
use Rattle.rules.specs.Grammar.{ascii}
use Rattle.rules.specs.Names.{Bytes}
use Rattle.laws.specs.Lists.{Every}
use Rattle.edition_certificate_file.specs.Reading.{lineFeed, endsLine}
use Rattle.edition_certificate_file.specs.Writable.{onOneLine, linesIn, beginsBlank, isIndented, indentedLine}
use Rattle.edition_certificate_file.proofs.Splitting.{Flat, asLine, one-part, split-both, whole-lines}

-- the lines that a sheet has, without their line feeds
abbrev pub ownLines : Bytes → List Bytes
ownLines [] = []
ownLines (b ∷ text) = linesIn (b ∷ text)

-- a text that ends with a line feed
pub ends-so : (text : Bytes) → endsLine text ≡ true → text ≡ take (length text - 1) text ++ 10 ∷ []
ends-so text h =
    sym (take-append-drop (length text - 1) text) ∙ ap (take (length text - 1) text ++◌) (sym (same_text (10 ∷ []) (drop (length text - 1) text) (sym h)))

pub record Indented (text : Bytes) : Type 0 where
  pub blank : list_all beginsBlank (ownLines text) ≡ true
  pub whole : collect asLine (ownLines text) ≡ text
  pub split : (rest : Bytes) → slice_split lineFeed (text ++ rest) ≡ ownLines text ++ slice_split lineFeed rest

pub indented : (text : Bytes) → isIndented text ≡ true → Indented text
unfolding collect
indented [] h = record { blank = refl; whole = refl; split = λ rest. refl }
indented (b ∷ text) h =
    let both = and_parts (endsLine (b ∷ text)) _ h in
    let front = take (length (b ∷ text) - 1) (b ∷ text) in
    let is = ends-so (b ∷ text) both.0 in
    record {
      blank = both.1;
      whole = whole-lines front ∙ sym is;
      split = λ rest.
          ap (slice_split lineFeed) (ap (λ (t : Bytes). t ++ rest) is ∙ append_assoc front (10 ∷ []) rest) ∙ split-both lineFeed front rest 10 refl;
    }

-- a text that was given its line feed
module _ (front : Bytes) where
  pub at-end : length front ≡ length (front ++ 10 ∷ []) - 1
  at-end = simp length-append (omega arith)

  pub ends-line : endsLine (front ++ 10 ∷ []) ≡ true
  ends-line = ap (pointwise eqb (10 ∷ [])) (drop_at front (10 ∷ []) (length (front ++ 10 ∷ []) - 1) at-end)

cut-indented : (front : Bytes) → list_all beginsBlank (slice_split lineFeed front) ≡ true → isIndented (front ++ 10 ∷ []) ≡ true
cut-indented front h =
    let lines : list_all beginsBlank (linesIn (front ++ 10 ∷ [])) ≡ true =
    ap (λ (t : Bytes). list_all beginsBlank (slice_split lineFeed t)) (take_at front (10 ∷ []) _ (at-end front)) ∙ h in
    rw (ends-line front, lines) (or-true (isNil (front ++ 10 ∷ [])))

-- a line that begins with two blanks, behind such lines
pub more-indented : (text line : Bytes) → isIndented text ≡ true → Flat line → beginsBlank line ≡ true → isIndented (text ++ asLine line) ≡ true
more-indented text line h flat blank =
    let before = indented text h in
    let cut = before.split line ∙ ap (ownLines text ++◌) (one-part lineFeed line flat) in
    let lines : list_all beginsBlank (slice_split lineFeed (text ++ line)) ≡ true =
    ap (list_all beginsBlank) cut ∙ list_all-append beginsBlank (ownLines text) (line ∷ []) ∙ rw (before.blank, blank) refl in
    rw (← append_assoc text line (10 ∷ [])) (cut-indented (text ++ line) lines)

behind-indented : (text : Bytes) (ls : List Bytes) → isIndented text ≡ true → Every (λ line. onOneLine line ≡ true) ls
    → isIndented (text ++ collect indentedLine ls) ≡ true
unfolding collect
behind-indented text [] h flat = ap isIndented (append-nil text) ∙ h
behind-indented text (line ∷ ls) h flat =
    let more = more-indented text (ascii "  " ++ line) h (not-true _ flat.0) refl in
    ap isIndented (sym (append_assoc text (indentedLine line) (collect indentedLine ls))) ∙ behind-indented (text ++ indentedLine line) ls more flat.1

pub lines-indented : (ls : List Bytes) → Every (λ line. onOneLine line ≡ true) ls → isIndented (collect indentedLine ls) ≡ true
lines-indented ls flat = behind-indented [] ls refl flat
