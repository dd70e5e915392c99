-- Lines that are read in a loop: what is read from here on is what is read of all.
use Rattle.std.proofs.Common.{◌≡◌, sym, ap, ◌∙◌, ◌+◌, ◌<◌, ◌≤◌, ℕ, List, length, get_or, drop, arith, Result, Err, Option, None, Some}
use Rattle.std.specs.List.{enumerate_from}
use Rattle.std.proofs.lemmas.List.{at_drop_more, at_drop_all}
use Rattle.std.proofs.lemmas.List.FromFn.{length-enumerate_from, get_or-enumerate_from}
use Rattle.rules.specs.Names.{Bytes}
use Rattle.edition_certificate_file.specs.declared.Fault.{Fault}
use Rattle.edition_certificate_file.specs.declared.Fault.TheVariants.{Line}
use Rattle.edition_certificate_file.specs.Files.{Kept}
use Rattle.edition_certificate_file.specs.Reading.{Reached, orLine, allRead, lineRead, linesRead}

-- a numbered line is the next one
pub record Turn (lines : List Bytes) (i k : ℕ) (line : Bytes) : Type 0 where
  pub within : i < length lines
  pub number : k ≡ i
  pub is : line ≡ get_or lines i line

pub turn : {lines : List Bytes} {i : ℕ} {p : ℕ × Bytes}
    → (i < length (enumerate_from 0 lines)) × (p ≡ get_or (enumerate_from 0 lines) i p) → Turn lines i p.0 p.1
turn {lines} {i} {p} h =
    let within : i < length lines = rw (sym (length-enumerate_from 0 lines)) h.0 in
    let is : p ≡ (0 + i, get_or lines i p.1) = h.1 ∙ get_or-enumerate_from 0 lines i p within in
    record { within = within; number = ap (λ (q : ℕ × Bytes). q.0) is ∙ omega arith; is = ap (λ (q : ℕ × Bytes). q.1) is }

module _ {all : Result (List Kept) Fault} {lines : List Bytes} {i k : ℕ} {line : Bytes}
    (t : Turn lines i k line) (r : Reached) (so-far : linesRead (i + 2) r (drop i lines) ≡ all) where
  abbrev onward : Option Reached → Result (List Kept) Fault
  onward o = orLine (i + 2) o (λ next. linesRead (i + 2 + 1) next (drop (i + 1) lines))

  this : all ≡ onward (lineRead r line)
  unfolding linesRead
  this = sym so-far ∙ at_drop_more (linesRead (i + 2) r) lines i line t.within ∙ ap (λ (l : Bytes). onward (lineRead r l)) (sym t.is)

  pub stops : None ≡ lineRead r line → Err (Line (k + 2)) ≡ all
  stops e = sym (this ∙ ap onward (sym e) ∙ ap (λ (n : ℕ). Err (Line (n + 2))) (sym t.number))

  pub goes : {next : Reached} → Some next ≡ lineRead r line → linesRead (i + 1 + 2) next (drop (i + 1) lines) ≡ all
  goes {next} e =
      let number : i + 1 + 2 ≡ i + 2 + 1 = omega arith in
      ap (λ (n : ℕ). linesRead n next (drop (i + 1) lines)) number ∙ sym (this ∙ ap onward (sym e))

pub ends : {all : Result (List Kept) Fault} (lines : List Bytes) (i : ℕ) (r : Reached) → length lines ≤ i
    → linesRead (i + 2) r (drop i lines) ≡ all → allRead r ≡ all
unfolding linesRead
ends lines i r h so-far = sym (at_drop_all (linesRead (i + 2) r) lines i h) ∙ so-far
