-- What is written is read back: the whole text.
use Rattle.std.proofs.Common.{
  ◌≡◌,
  refl,
  sym,
  ap,
  ◌∙◌,
  ◌++◌,
  ◌+◌,
  true,
  ℕ,
  List,
  [],
  ◌∷◌,
  length,
  map,
  arith,
  append-nil,
  append_assoc,
  length-append,
  Ok,
  Err,
  None,
}
use Rattle.std.specs.List.{list_all, slice_split, count_by}
use Rattle.std.proofs.lemmas.List.Splits.{length-slice_split}
use Rattle.std.proofs.lemmas.Bool.{and_parts, not-true}
use Rattle.std.proofs.lemmas.List.{take_at}
use Rattle.rules.specs.Base.{collect}
use Rattle.rules.specs.Grammar.{ascii}
use Rattle.rules.specs.Names.{Bytes, distinct}
use Rattle.laws.specs.Lists.{Every}
use Rattle.laws.proofs.Contents.{collect-append}
use Rattle.edition_certificate_file.specs.declared.Fault.TheVariants.{Line}
use Rattle.edition_certificate_file.specs.Files.{Kept, lastLine, keptText, keptsText}
use Rattle.edition_certificate_file.specs.Reading.{
  between,
  ended,
  betweenRead,
  lineRead,
  linesRead,
  restRead,
  textRead,
  asWritten,
  certificateRead,
  isKept,
  lineFeed,
}
use Rattle.edition_certificate_file.specs.Writable.{onOneLine, nameOf, writable, allWritable}
use Rattle.edition_certificate_file.proofs.Splitting.{one-part}
use Rattle.edition_certificate_file.proofs.Indented.{at-end, ends-line}
use Rattle.edition_certificate_file.proofs.OneLine.{number-on-line}
use Rattle.edition_certificate_file.proofs.SheetLines.{Sheet, sheetLines, sheets, belowName, name-split, sheets-split}
use Rattle.edition_certificate_file.proofs.Leads.{Leads, leads-on, leads-all, leads-to-none, sheets-lead, same-refl, fresh, nothing-kept, last-leads}

rest-read : (front : Bytes) → restRead (front ++ 10 ∷ []) ≡ linesRead 2 ([], between) (slice_split lineFeed front)
unfolding restRead
rest-read front =
    rw (ends-line front) (ap (λ (t : Bytes). linesRead 2 ([], between) (slice_split lineFeed t)) (take_at front (10 ∷ []) _ (at-end front)))

-- a certificate without its last line feed
abbrev front : List Kept → Bytes
front ks = collect keptText ks ++ lastLine (length ks)

text-read : (ks : List Kept) → textRead (keptsText ks) ≡ linesRead 2 ([], between) (slice_split lineFeed (front ks))
unfolding textRead keptsText
text-read ks = ap restRead (sym (append_assoc (collect keptText ks) (lastLine (length ks)) (ascii "\n"))) ∙ rest-read (front ks)

module _ (ks : List Kept) (h : allWritable ks ≡ true) where
  parts : (list_all writable ks ≡ true) × (distinct (map nameOf ks) ≡ true)
  unfolding allWritable
  parts = and_parts (list_all writable ks) _ h

  written : Every Sheet ks
  written = sheets ks parts.0

  lead : Leads ([], between) (collect sheetLines ks) (ks, between)
  lead = sheets-lead [] ks written (fresh [] ks (nothing-kept ks) parts.1)

  lines : slice_split lineFeed (front ks) ≡ collect sheetLines ks ++ lastLine (length ks) ∷ []
  lines =
      sheets-split ks (lastLine (length ks)) written
      ∙ ap (collect sheetLines ks ++◌) (one-part lineFeed (lastLine (length ks)) (number-on-line 10 (length ks)))

  all-lead : Leads ([], between) (collect sheetLines ks ++ lastLine (length ks) ∷ []) (ks, ended)
  all-lead = leads-on ([], between) (collect sheetLines ks) (lastLine (length ks) ∷ []) (ks, between) (ks, ended) lead (last-leads ks)

  pub read-back : certificateRead (keptsText ks) ≡ Ok ks
  unfolding certificateRead
  read-back =
      ap (asWritten (keptsText ks)) (text-read ks ∙ ap (linesRead 2 ([], between)) lines ∙ leads-all 2 ([], between) _ ks all-lead)
      ∙ rw (same-refl (keptsText ks)) refl

pub one-list : (ks js : List Kept) → allWritable ks ≡ true → allWritable js ≡ true → keptsText ks ≡ keptsText js → ks ≡ js
one-list ks js h k e = let same : Ok ks ≡ Ok js = sym (read-back ks h) ∙ ap certificateRead e ∙ read-back js k in cc same

-- ══ A name once more ══

-- as many lines as line feeds
lines-counted : (ks : List Kept) → Every Sheet ks → length (collect sheetLines ks) ≡ count_by lineFeed (collect keptText ks)
lines-counted ks s =
    let cut = ap length (ap (slice_split lineFeed) (sym (append-nil (collect keptText ks))) ∙ sheets-split ks [] s) in
    let many = length-slice_split lineFeed (collect keptText ks) in
    let parts = length-append (collect sheetLines ks) ([] ∷ []) in
    omega (arith, cut, many, parts)

module _ (ks : List Kept) (k : Kept) (js : List Kept) (h : allWritable ks ≡ true) (line : onOneLine k.name ≡ true) (kept : isKept k.name ks ≡ true) where
  abbrev all : List Kept
  all = ks ++ k ∷ js

  -- what stands behind the sheet that is named once more
  abbrev rest : Bytes
  rest = collect keptText js ++ lastLine (length all)

  cut : slice_split lineFeed (front all) ≡ collect sheetLines ks ++ (ascii "sheet " ++ k.name) ∷ slice_split lineFeed (belowName k rest)
  unfolding collect
  cut =
      ap (slice_split lineFeed) (ap (λ (t : Bytes). t ++ lastLine (length all)) (collect-append keptText ks (k ∷ js))
      ∙ append_assoc (collect keptText ks) (keptText k ++ collect keptText js) (lastLine (length all))
      ∙ ap (collect keptText ks ++◌) (append_assoc (keptText k) (collect keptText js) (lastLine (length all))))
      ∙ sheets-split ks (keptText k ++ rest) (written ks h)
      ∙ ap (collect sheetLines ks ++◌) (name-split k rest (not-true _ line))

  refused : lineRead (ks, between) (ascii "sheet " ++ k.name) ≡ None
  unfolding lineRead betweenRead
  refused = rw kept refl

  pub named-twice : certificateRead (keptsText all) ≡ Err (Line (2 + count_by lineFeed (collect keptText ks)))
  unfolding certificateRead
  named-twice =
      ap (asWritten (keptsText all)) (text-read all ∙ ap (linesRead 2 ([], between)) cut
      ∙ leads-to-none 2 ([], between) (collect sheetLines ks) (ks, between) (ascii "sheet " ++ k.name) _ (lead ks h) refused)
      ∙ ap (λ (n : ℕ). Err (Line (2 + n))) (lines-counted ks (written ks h))
