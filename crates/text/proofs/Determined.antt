-- The contracts leave no choice: two results that one of them allows coincide; and each answer has the number of its outcome.
use Rattle.std.specs.Prelude.{◌≡◌, refl, ℕ, Ok, Err}
use Rattle.std.proofs.Common.{sym, ◌∙◌}
use Rattle.std.proofs.Math.Path.{ap}
use Rattle.rules.specs.Calls.{Listed}
use Rattle.rules.specs.Numbers.{refusalIn, number, refusalRead}
use Rattle.laws.proofs.Numbers.{answer-in, number-injective, told-injective}
use Rattle.rules.specs.TextReading.{TextRead}
use Rattle.text_sheet.specs.Given.{toldSheet, readAs}
use Rattle.text_sheet.specs.declared.Read.{Read}
use Rattle.text_sheet.specs.declared.NotRead.{NotRead}
use Rattle.rules.specs.declared.Refusal.{Refusal}
use Rattle.text_sheet.specs.Loop.{Sheet}
use Rattle.text.specs.Theorems.{ReadingIsDetermined, ReadingIsNumbered, WritingIsDetermined, WritingIsNumbered, numberSheet}
use Rattle.text.specs.Told.{listedAs}

-- ══ Writing ══

pub write-text-determined : WritingIsDetermined
write-text-determined pool table set text p q a b h k =
    let e : listedAs p a ≡ listedAs q b = h ∙ sym k in
    (told-injective p q (ap (λ (l : Listed). l.answer) e), ap (λ (l : Listed). l.result) e)

pub write-text-numbered : WritingIsNumbered
unfolding number
write-text-numbered pool table set text p a h = answer-in p ∙ ap (λ (l : Listed). refusalIn l.answer) h

-- ══ Reading ══

one-read : (r s : Read) → r.records ≡ s.records → r.constraints ≡ s.constraints → r.names ≡ s.names → ◌≡◌ {A = Sheet} (Ok r) (Ok s)
one-read r s x y z =
    let made : ℕ → ℕ → ℕ → Sheet = λ n c k. Ok (record { records = n; constraints = c; names = k }) in
    ap (λ n. made n r.constraints r.names) x ∙ ap (λ c. made s.records c r.names) y ∙ ap (made s.records s.constraints) z

one-refusal : (r s : NotRead) → r.why ≡ s.why → r.line ≡ s.line → r.column ≡ s.column → ◌≡◌ {A = Sheet} (Err r) (Err s)
one-refusal r s x y z =
    let made : Refusal → ℕ → ℕ → Sheet = λ w l q. Err (record { why = w; line = l; column = q }) in
    ap (λ w. made w r.line r.column) x ∙ ap (λ l. made s.why l r.column) y ∙ ap (made s.why s.line) z

sheet-injective : (p q : Sheet) → toldSheet p ≡ toldSheet q → p ≡ q
sheet-injective (Ok r) (Ok s) e =
    let x : r.records ≡ s.records = cc in
    let y : r.constraints ≡ s.constraints = cc in
    let z : r.names ≡ s.names = cc in
    one-read r s x y z
sheet-injective (Ok r) (Err s) e = absurd (cc)
sheet-injective (Err r) (Ok s) e = absurd (cc)
sheet-injective (Err r) (Err s) e =
    let x : r.why ≡ s.why = number-injective r.why s.why (cc) in
    let y : r.line ≡ s.line = cc in
    let z : r.column ≡ s.column = cc in
    one-refusal r s x y z

pub read-text-determined : ReadingIsDetermined
read-text-determined pool table text result work r s p p' t t' e e' w w' h k =
    let i : readAs r p t e w ≡ readAs s p' t' e' w' = h ∙ sym k in
    record {
      answers = sheet-injective r s (ap (λ (x : TextRead). x.answer) i);
      pools = ap (λ (x : TextRead). x.pool) i;
      tables = ap (λ (x : TextRead). x.table) i;
      results = ap (λ (x : TextRead). x.result) i;
      works = ap (λ (x : TextRead). x.work) i;
    }

sheet-in : (r : Sheet) → numberSheet r ≡ refusalRead (toldSheet r)
unfolding refusalRead
sheet-in (Ok r) = refl
sheet-in (Err e) = refl

pub read-text-numbered : ReadingIsNumbered
unfolding number
read-text-numbered pool table text result work r p t e w h = sheet-in r ∙ ap (λ (x : TextRead). refusalRead x.answer) h
