-- What is proved of the calls by themselves. The functions of src/theorems.rt promise these statements; the proofs stand in proofs/Determined.
use Rattle.std.specs.Prelude.{◌≡◌, List, ℕ, Result, Ok, Err}
use Rattle.rules.specs.Numbers.{listed, number, textRead}
use Rattle.rules.specs.Refusals.{number_of, numberAnswer}
use Rattle.rules.specs.TextReading.{readTextCall}
use Rattle.rules.specs.TextWriting.{writeTextCall}
use Rattle.rules.specs.declared.Refusal.{Refusal}
use Rattle.text_sheet.specs.Loop.{Sheet}
use Rattle.text_sheet.specs.Given.{readAs}
use Rattle.text.specs.Told.{listedAs}

-- ══ The contracts leave no choice ══

-- two answers that the contract of `write_text` allows for the same input are one answer, and so are the text buffers
abbrev pub WritingIsDetermined : Type 0
WritingIsDetermined = (pool table set text : List ℕ) (p q : Result ℕ Refusal) (a b : List ℕ)
    → listedAs p a ≡ writeTextCall pool table set text → listedAs q b ≡ writeTextCall pool table set text → (p ≡ q) × (a ≡ b)

pub record OneReading (r s : Sheet) (p p' t t' e e' w w' : List ℕ) : Type 0 where
  pub answers : r ≡ s
  pub pools : p ≡ p'
  pub tables : t ≡ t'
  pub results : e ≡ e'
  pub works : w ≡ w'

-- two answers that the contract of `read_text` allows for the same input are one answer, and so are the buffers
abbrev pub ReadingIsDetermined : Type 0
ReadingIsDetermined = (pool table text result work : List ℕ) (r s : Sheet) (p p' t t' e e' w w' : List ℕ)
    → readAs r p t e w ≡ readTextCall pool table text result work → readAs s p' t' e' w' ≡ readTextCall pool table text result work
    → OneReading r s p p' t t' e e' w w'

-- ══ The number of an answer: 0, or that of the refusal ══

abbrev pub WritingIsNumbered : Type 0
WritingIsNumbered = (pool table set text : List ℕ) (p : Result ℕ Refusal) (a : List ℕ) → listedAs p a ≡ writeTextCall pool table set text
    → numberAnswer p ≡ number (listed (writeTextCall pool table set text))

abbrev pub numberSheet : Sheet → ℕ
numberSheet (Ok r) = 0
numberSheet (Err e) = number_of e.why

abbrev pub ReadingIsNumbered : Type 0
ReadingIsNumbered = (pool table text result work : List ℕ) (r : Sheet) (p t e w : List ℕ) → readAs r p t e w ≡ readTextCall pool table text result work
    → numberSheet r ≡ number (textRead (readTextCall pool table text result work))
