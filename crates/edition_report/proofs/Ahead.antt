-- What follows from the definitions of specs/Ahead: the line with a number, and the line of a constraint: lines are left behind one after another.
use Rattle.std.specs.Prelude.{◌≡◌, refl, Bool, true, false, not, eqb, List, [], ◌∷◌, ℕ, ◌+◌, ◌-◌, ◌≤◌, ◌<◌, zero, suc, length, drop, get_or}
use Rattle.std.proofs.Common.{sym, ap, ◌∙◌, arith, drop_of_length-le, drop-cons}
use Rattle.rules.specs.Names.{Bytes}
use Rattle.rules.specs.Grammar.{here, lines_of}
use Rattle.rules.specs.Reports.{lineIn, someAt, holdsSome, lineBy, lineHolding, constraintLine}
use Rattle.laws.proofs.Lists.{true≢false}
use Rattle.text_scan.specs.Scanned.{Skipped}
use Rattle.text_columns.specs.Cut.{Cut, line_at}
use Rattle.edition_report.specs.Ahead.{leftBehind}

-- so many lines behind a place is the line with the number
pub record Ahead (text : Bytes) (number at left : ℕ) : Type 0 where
  pub within : at ≤ length text
  pub is : get_or (lines_of (drop at text)) left [] ≡ lineIn number text

pub at-first : (text : Bytes) (number left : ℕ) → left ≡ number - 1 → Ahead text number 0 left
unfolding lineIn
at-first text number left e = record { within = omega arith; is = ap (λ (k : ℕ). get_or (lines_of text) k []) e }

next-line : (l : Bytes) (ls : List Bytes) (left : ℕ) → 0 < left → get_or (l ∷ ls) left [] ≡ get_or ls (left - 1) []
next-line l ls left h = go left h
  where
    go : (n : ℕ) → 0 < n → get_or (l ∷ ls) n [] ≡ get_or ls (n - 1) []
    go zero h = absurd (omega (arith, h))
    go (suc n) h = let e : n ≡ suc n - 1 = omega arith in ap (λ (k : ℕ). get_or ls k []) e

none-there : (k : ℕ) → get_or {A = Bytes} [] k [] ≡ []
none-there zero = refl
none-there (suc k) = refl

module _ (text : Bytes) (number at left : ℕ) (a : Ahead text number at left) {r : ℕ} (w : Cut text at r) where
  pub next : 0 < left → r < length text → Ahead text number (r + 1) (left - 1)
  next h k = record {
    within = omega (arith, k);
    is = sym (ap (λ (ls : List Bytes). get_or ls left []) w.is ∙ next-line (line_at text at r) w.rest left h
        ∙ ap (λ (ls : List Bytes). get_or ls (left - 1) []) (w.more k)) ∙ a.is;
  }

  pub no-line : 0 < left → r ≡ length text → [] ≡ lineIn number text
  no-line h k =
      sym (ap (λ (ls : List Bytes). get_or ls left []) w.is ∙ next-line (line_at text at r) w.rest left h
      ∙ ap (λ (ls : List Bytes). get_or ls (left - 1) []) (w.last k) ∙ none-there (left - 1)) ∙ a.is

-- ══ The line of a constraint ══

-- so many constraints left, from the line that begins at a place on: it is this many lines behind
pub record Holding (text : Bytes) (k lines at left : ℕ) : Type 0 where
  pub within : at ≤ length text
  pub few : lines ≤ at
  pub is : lineHolding left (lines + 1) (lines_of (drop at text)) ≡ constraintLine k text

pub from-first : (text : Bytes) (k : ℕ) → Holding text k 0 0 k
unfolding constraintLine
from-first text k = record { within = omega arith; few = omega arith; is = refl }

module _ (text : Bytes) (k lines at left : ℕ) (h : Holding text k lines at left) {r : ℕ} (w : Cut text at r) where
  here-is : {b : Bool} → b ≡ holdsSome (line_at text at r) → lineBy b left (lines + 1) (λ j. lineHolding j (suc (lines + 1)) w.rest) ≡ constraintLine k text
  unfolding lineHolding
  here-is e = rw e (sym (ap (lineHolding left (lines + 1)) w.is) ∙ h.is)

  behind-it : {b : Bool} → b ≡ holdsSome (line_at text at r) → (b ≡ true → left ≡ 0 → ⊥)
      → lineHolding (leftBehind b left) (suc (lines + 1)) w.rest ≡ constraintLine k text
  behind-it {b} e n = go b left n (here-is e)
    where
      go : (b : Bool) (i : ℕ) → (b ≡ true → i ≡ 0 → ⊥) → lineBy b i (lines + 1) (λ j. lineHolding j (suc (lines + 1)) w.rest) ≡ constraintLine k text
          → lineHolding (leftBehind b i) (suc (lines + 1)) w.rest ≡ constraintLine k text
      go false i n q = q
      go true zero n q = absurd (n refl refl)
      go true (suc i) n q = let z : suc i - 1 ≡ i = omega arith in rw z q

  pub this-holds : {b : Bool} → b ≡ holdsSome (line_at text at r) → b ≡ true → left ≡ 0 → lines + 1 ≡ constraintLine k text
  this-holds {b} e t z = go b left t z (here-is e)
    where
      go : (b : Bool) (i : ℕ) → b ≡ true → i ≡ 0 → lineBy b i (lines + 1) (λ j. lineHolding j (suc (lines + 1)) w.rest) ≡ constraintLine k text
          → lines + 1 ≡ constraintLine k text
      go false i t z q = absurd (true≢false (sym t))
      go true zero t z q = q
      go true (suc i) t z q = absurd (omega (arith, z))

  pub none-holds : {b : Bool} → b ≡ holdsSome (line_at text at r) → (b ≡ true → left ≡ 0 → ⊥) → r ≡ length text → 0 ≡ constraintLine k text
  unfolding lineHolding
  none-holds {b} e n i = ap (lineHolding (leftBehind b left) (suc (lines + 1))) (sym (w.last i)) ∙ behind-it e n

  pub holds-on : {b : Bool} → b ≡ holdsSome (line_at text at r) → (b ≡ true → left ≡ 0 → ⊥) → r < length text → {j : ℕ} → j ≡ leftBehind b left
      → Holding text k (lines + 1) (r + 1) j
  holds-on {b} e n l {j} i = record {
    within = omega (arith, l);
    few = omega (arith, h.few, w.behind);
    is = let z : lines + 1 + 1 ≡ suc (lines + 1) = omega arith in
        rw (z, i) (ap (lineHolding (leftBehind b left) (suc (lines + 1))) (sym (w.more l)) ∙ behind-it e n);
  }

-- ══ Does a line hold one? ══

pub nothing-there : {line : Bytes} {r : ℕ} → Skipped line 0 r → length line ≤ r → false ≡ holdsSome line
unfolding holdsSome
nothing-there {line} {r} s h = sym (ap someAt (s.is ∙ ap (here (suc r)) (drop_of_length-le line {i = r} h)))

pub sign-there : {line : Bytes} {r : ℕ} → Skipped line 0 r → r < length line → not (eqb (get_or line r 0) 45) ≡ holdsSome line
unfolding holdsSome
sign-there {line} {r} s h = sym (ap someAt (s.is ∙ ap (here (suc r)) (drop-cons line r 0 h)))
