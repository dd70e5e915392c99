-- Lines made from a page are such as a certificate may have, and what is kept of sheets stays such that it is read back.
use Rattle.std.proofs.Common.{◌≡◌, refl, sym, ap, ◌∙◌, ◌++◌, Bool, true, false, List, [], ◌∷◌, ℕ, take, drop, length, arith, eqb, append-nil, append_assoc}
use Rattle.std.specs.Prelude.{if◌then◌else◌, map, Result, Ok, Err, IfOk, Vec}
use Rattle.std.specs.declared.alloc.Global.{Global}
use Rattle.std.proofs.lemmas.List.{map-append, take_all}
use Rattle.std.specs.List.{starts_with, slice_split}
use Rattle.rules.specs.Base.{collect}
use Rattle.rules.specs.Grammar.{ascii}
use Rattle.rules.specs.Names.{Bytes}
use Rattle.laws.specs.Lists.{Every}
use Rattle.edition_certificate_file.specs.declared.Entry.{Entry}
use Rattle.edition_certificate_file.specs.Files.{keptOf, certificateText}
use Rattle.edition_certificate_file.specs.Reading.{isKept, lineFeed, certificateRead}
use Rattle.edition_certificate_file.specs.Writable.{beginsBlank, isIndented, indentedLine, writable, allWritable}
use Rattle.edition_certificate_file.proofs.Splitting.{Flat}
use Rattle.edition_certificate_file.proofs.Indented.{more-indented}
use Rattle.edition_certificate_file.proofs.ReadBack.{read-back}
use Rattle.edition_certificate_file.proofs.ReadWritable.{later, cut-flat, more-writable}
use Rattle.edition_checks.specs.Keeping.{marked, certifiedLine, certifiedLines, withEntry}

flat-marked : (row : Bytes) → Flat row → Flat (ascii "  " ++ marked row)
flat-marked row h = go (starts_with eqb row (ascii "?"))
  where
    go : (b : Bool) → Flat (ascii "  " ++ (if b then row else ascii "?" ++ row))
    go true = h
    go false = h

one-indented : (text line : Bytes) → isIndented text ≡ true → Flat line → isIndented (text ++ certifiedLine line) ≡ true
one-indented text line h flat = go (beginsBlank line)
  where
    go : (b : Bool) → isIndented (text ++ (if b then indentedLine (marked (drop 2 line)) else [])) ≡ true
    go true = more-indented text (ascii "  " ++ marked (drop 2 line)) h (flat-marked (drop 2 line) (later lineFeed 2 line flat)) refl
    go false = ap isIndented (append-nil text) ∙ h

all-indented : (text : Bytes) (lines : List Bytes) → isIndented text ≡ true → Every Flat lines → isIndented (text ++ collect certifiedLine lines) ≡ true
unfolding collect
all-indented text [] h flat = ap isIndented (append-nil text) ∙ h
all-indented text (line ∷ lines) h flat =
    ap isIndented (sym (append_assoc text (certifiedLine line) (collect certifiedLine lines)))
    ∙ all-indented (text ++ certifiedLine line) lines (one-indented text line h flat.0) flat.1

below-flat : (lines : List Bytes) → Every Flat lines → Every Flat (drop 1 lines)
below-flat [] h = tt
below-flat (line ∷ lines) h = h.1

pub certified-indented : (page : Bytes) → isIndented (certifiedLines page) ≡ true
unfolding certifiedLines
certified-indented page = all-indented [] (drop 1 (slice_split lineFeed page)) refl (below-flat (slice_split lineFeed page) (cut-flat page))

-- the lines of all parts are made
pub all-made : (page : Bytes) (i : ℕ) {made : Bytes} → i ≡ length (drop 1 (slice_split lineFeed page))
    → made ≡ collect certifiedLine (take i (drop 1 (slice_split lineFeed page))) → made ≡ certifiedLines page
unfolding certifiedLines
all-made page i e h = h ∙ ap (collect certifiedLine) (take_all i (drop 1 (slice_split lineFeed page)) (omega (arith, e)))

-- ══ A sheet more ══

module _ {es given : List Entry} (e : Entry) {name : Bytes} {found : Bool}
    (same : given ≡ es) (named : name ≡ e.name.items) (is : found ≡ isKept name (map keptOf given)) where
  kept-is : found ≡ isKept e.name.items (map keptOf es)
  kept-is = rw (same, named) at is

  pub there : found ≡ true → es ≡ withEntry es e
  there h = rw (sym kept-is ∙ h) refl

  pub behind : found ≡ false → {new : List Entry} → new ≡ es ++ e ∷ [] → new ≡ withEntry es e
  behind h n = rw (sym kept-is ∙ h) n

  pub still-writable : found ≡ false → allWritable (map keptOf es) ≡ true → writable (keptOf e) ≡ true → (ok : Bool) {new : List Entry}
      → new ≡ (if ok then es ++ e ∷ [] else es) → allWritable (map keptOf new) ≡ true
  still-writable h all one true n =
      ap (λ (xs : List Entry). allWritable (map keptOf xs)) n ∙ ap allWritable (map-append keptOf es (e ∷ []))
      ∙ more-writable (map keptOf es) (keptOf e) all (sym kept-is ∙ h) one
  still-writable h all one false n = ap (λ (xs : List Entry). allWritable (map keptOf xs)) n ∙ all

-- ══ The certificate ══

pub text-read : {E : Type 0} (es given : List Entry) (r : Result (Vec ℕ Global) E) → given ≡ es → allWritable (map keptOf es) ≡ true
    → IfOk r (λ v. v.items ≡ certificateText given) → IfOk r (λ v. certificateRead v.items ≡ Ok (map keptOf es))
text-read es given (Ok v) same all h = ap certificateRead (h ∙ ap certificateText same) ∙ read-back (map keptOf es) all
text-read es given (Err e) same all h = tt
