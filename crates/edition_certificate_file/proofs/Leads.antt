-- Where lines lead: through the lines of a sheet to one sheet more, and behind the last line to all of them.
use Rattle.std.proofs.Common.{
  ◌≡◌,
  refl,
  sym,
  ap,
  ◌∙◌,
  ◌++◌,
  ◌+◌,
  Bool,
  true,
  false,
  not,
  ℕ,
  List,
  [],
  ◌∷◌,
  length,
  map,
  eqb,
  arith,
  append-nil,
  append_assoc,
  eqb-true,
  Ok,
  Err,
  None,
  Some,
}
use Rattle.std.specs.List.{list_all}
use Rattle.std.proofs.lemmas.Bool.{and_parts, not-true, or_parts}
use Rattle.std.specs.Cmp.Lexicographic.{same_text}
use Rattle.std.proofs.lemmas.Cmp.{nat_list_eq_equiv}
use lib.Pointwise.{pointwise}
use Rattle.hex.specs.Hex.{encode_lower, IsBytes}
use Rattle.hex.proofs.HexLemmas.{decode_sized-encode_lower}
use Rattle.rules.specs.Base.{any, collect}
use Rattle.rules.specs.Grammar.{ascii}
use Rattle.rules.specs.Names.{Bytes, sameBytes, distinct}
use Rattle.laws.specs.Lists.{Every}
use Rattle.laws.proofs.Lists.{true≢false}
use Rattle.laws.proofs.NameTable.{same-yes}
use Rattle.edition_certificate_file.specs.declared.Fault.TheVariants.{Line}
use Rattle.edition_certificate_file.specs.Files.{Kept, lastLine}
use Rattle.edition_certificate_file.specs.Reading.{
  between,
  ended,
  named,
  inside,
  Reached,
  allRead,
  betweenRead,
  digestIn,
  insideRead,
  lineRead,
  linesRead,
  isKept,
}
use Rattle.edition_certificate_file.specs.Writable.{beginsBlank, nameOf}
use Rattle.edition_certificate_file.proofs.Splitting.{asLine}
use Rattle.edition_certificate_file.proofs.Indented.{ownLines}
use Rattle.edition_certificate_file.proofs.OneLine.{none-in-both, no-capital}
use Rattle.edition_certificate_file.proofs.SheetLines.{Sheet, sheetLines}

-- lines lead from one place to another
abbrev pub Leads : Reached → List Bytes → Reached → Type 0
Leads r [] end = r ≡ end
Leads r (line ∷ lines) end = (next : Reached) × (lineRead r line ≡ Some next) × Leads next lines end

pub leads-on : (r : Reached) (lines more : List Bytes) (mid end : Reached) → Leads r lines mid → Leads mid more end → Leads r (lines ++ more) end
leads-on r [] more mid end h k = rw h k
leads-on r (line ∷ lines) more mid end h k = (h.0, h.1, leads-on h.0 lines more mid end h.2 k)

-- lines that lead behind the last are read
pub leads-all : (n : ℕ) (r : Reached) (lines : List Bytes) (ks : List Kept) → Leads r lines (ks, ended) → linesRead n r lines ≡ Ok ks
unfolding linesRead
leads-all n r [] ks h = ap allRead h
leads-all n r (line ∷ lines) ks h = rw (h.1, linesRead) (leads-all (n + 1) h.0 lines ks h.2)

-- lines that lead to one that may not stand there
pub leads-to-none : (n : ℕ) (r : Reached) (lines : List Bytes) (mid : Reached) (line : Bytes) (more : List Bytes) → Leads r lines mid → lineRead mid line ≡ None
    → linesRead n r (lines ++ line ∷ more) ≡ Err (Line (n + length lines))
unfolding linesRead
leads-to-none n r [] mid line more h e = rw (h, e, linesRead) (ap (λ (m : ℕ). Err (Line m)) (omega arith))
leads-to-none n r (first ∷ lines) mid line more h e =
    rw (h.1, linesRead) (leads-to-none (n + 1) h.0 lines mid line more h.2 e ∙ ap (λ (m : ℕ). Err (Line m)) (omega arith))

-- ══ The lines of a sheet ══

module _ (before : List Kept) (name digest : Bytes) where
  abbrev at : Bytes → Reached
  at lines = (before, inside (record { name = name; digest = digest; lines = lines }))

  -- a line that begins with a blank isn't the sheet's end
  no-end : (line : Bytes) → beginsBlank line ≡ true → pointwise eqb line (ascii "end") ≡ false
  no-end [] h = refl
  no-end (b ∷ line) h =
      let blank : 32 ≡ b = eqb-true 32 b (and_parts (eqb 32 b) _ h).0 in
      rw (← blank) refl

  indented : (so-far line : Bytes) → beginsBlank line ≡ true → lineRead (at so-far) line ≡ Some (at (so-far ++ asLine line))
  unfolding lineRead insideRead
  indented so-far line h = rw (no-end line h, h) refl

  body : (so-far : Bytes) (lines : List Bytes) → list_all beginsBlank lines ≡ true → Leads (at so-far) lines (at (so-far ++ collect asLine lines))
  unfolding collect
  body so-far [] h = ap at (sym (append-nil so-far))
  body so-far (line ∷ lines) h =
      let each = and_parts (beginsBlank line) (list_all beginsBlank lines) h in
      let more = body (so-far ++ asLine line) lines each.1 in
      (at (so-far ++ asLine line), indented so-far line each.0, rw (sym (append_assoc so-far (asLine line) (collect asLine lines))) more)

  -- the line with its digest
  digested : length digest ≡ 32 → IsBytes digest → digestIn (ascii "sha256 " ++ encode_lower digest) ≡ Some digest
  unfolding digestIn
  digested many bytes = rw (no-capital digest, decode_sized-encode_lower digest 32 many bytes) refl

-- a sheet whose name is new leads to one more
sheet-leads : (before : List Kept) (k : Kept) → Sheet k → isKept k.name before ≡ false
    → Leads (before, between) (sheetLines k) (before ++ k ∷ [], between)
unfolding lineRead betweenRead insideRead
sheet-leads before k s new =
    let first = at before k.name k.digest [] in
    let last = at before k.name k.digest k.lines in
    let after : Reached = (before ++ k ∷ [], between) in
    let lines : Leads first (ownLines k.lines) last = rw (s.lines.whole) at (body before k.name k.digest [] (ownLines k.lines) s.lines.blank) in
    let rest = leads-on first (ownLines k.lines) (ascii "end" ∷ []) last after lines (after, refl, refl) in
    ((before, named k.name), rw new refl, (first, rw (digested before k.name k.digest s.many s.bytes) refl, rest))

-- ══ Sheets ══

-- no name is that of a sheet before
abbrev Fresh : List Kept → List Kept → Type 0
Fresh before [] = Unit {0}
Fresh before (k ∷ ks) = (isKept k.name before ≡ false) × Fresh (before ++ k ∷ []) ks

pub sheets-lead : (before ks : List Kept) → Every Sheet ks → Fresh before ks → Leads (before, between) (collect sheetLines ks) (before ++ ks, between)
unfolding collect
sheets-lead before [] s new = ap (λ (l : List Kept). (l, between)) (sym (append-nil before))
sheets-lead before (k ∷ ks) s new =
    let more = sheets-lead (before ++ k ∷ []) ks s.1 new.1 in
    leads-on (before, between) (sheetLines k) (collect sheetLines ks) (before ++ k ∷ [], between) (before ++ k ∷ ks, between)
    (sheet-leads before k s.0 new.0) (rw (append_assoc before (k ∷ []) ks) at more)

pub same-refl : (a : Bytes) → pointwise eqb a a ≡ true
same-refl = nat_list_eq_equiv.refl

-- two names that are told apart
apart : (a b : Bytes) → sameBytes a b ≡ false → pointwise eqb a b ≡ false
apart a b h = go (pointwise eqb a b) refl
  where
    go : (t : Bool) → pointwise eqb a b ≡ t → t ≡ false
    go true e = absurd (true≢false (sym (same-yes a b (same_text a b (sym e))) ∙ h))
    go false e = refl

none-of : (k : Kept) (before ks : List Kept) → Every (λ j. isKept j.name before ≡ false) ks → any (sameBytes k.name) (map nameOf ks) ≡ false
    → Every (λ j. isKept j.name (before ++ k ∷ []) ≡ false) ks
unfolding any
none-of k before [] h e = tt
none-of k before (j ∷ ks) h e =
    let both = or_parts (sameBytes k.name j.name) _ e in
    (none-in-both (λ i. pointwise eqb i.name j.name) before (k ∷ []) h.0 (rw (apart k.name j.name both.0) refl), none-of k before ks h.1 both.1)

pub fresh : (before ks : List Kept) → Every (λ j. isKept j.name before ≡ false) ks → distinct (map nameOf ks) ≡ true → Fresh before ks
unfolding distinct
fresh before [] h d = tt
fresh before (k ∷ ks) h d =
    let both = and_parts (not (any (sameBytes k.name) (map nameOf ks))) _ d in
    (h.0, fresh (before ++ k ∷ []) ks (none-of k before ks h.1 (not-true _ both.0)) both.1)

pub nothing-kept : (ks : List Kept) → Every (λ j. isKept j.name [] ≡ false) ks
nothing-kept [] = tt
nothing-kept (k ∷ ks) = (refl, nothing-kept ks)

-- ══ The last line ══

pub last-leads : (ks : List Kept) → Leads (ks, between) (lastLine (length ks) ∷ []) (ks, ended)
unfolding lineRead betweenRead
last-leads ks = ((ks, ended), rw (same-refl (lastLine (length ks))) refl, refl)
