-- The loop over a sheet's lines, and what is put back where a line is refused.
use Rattle.std.specs.Prelude.{◌≡◌, refl, List, ℕ, Result, Ok, Err, ◌≤◌, drop}
use Rattle.rules.specs.Refusals.{number_of}
use Rattle.rules.specs.TextReading.{refusedIn, sheetRead}
use Rattle.rules.specs.declared.Refusal.{Refusal}
use Rattle.text_names.specs.Effects.{Lent, lent, sofar, Kept, kept_then}
use Rattle.text_names.specs.Stands as stand
use Rattle.text_columns.specs.Cut.{Cut, line_at}
use Rattle.text_columns.specs.Upto.{Upto, Whole}
use Rattle.text_lines.specs.Statements.{LineDone}
use Rattle.text_sheet.specs.declared.Read.{Read}
use Rattle.text_sheet.specs.declared.NotRead.{NotRead}

-- what reading a sheet answers
abbrev pub Sheet : Type 0
Sheet = Result Read NotRead

abbrev pub start : List ℕ → List ℕ → List ℕ → Lent
start pool table dst = lent pool table dst (stand.Going 0 0)

-- ══ What is said of a sheet ══

module _ (text pool table dst : List ℕ) (pool' table' dst' : List ℕ) where
  -- every line is read
  pub record IsRead (n c k : ℕ) : Type 0 where
    pub whole : Whole pool table text dst c (sofar (start pool' table' dst') k n) dst'
    pub few : n ≤ 2048

  -- the first line that is refused decides; what lies behind pool and table is as before
  pub record IsRefused (r : Refusal) (l q : ℕ) : Type 0 where
    pub is : sheetRead pool table text ≡ refusedIn (number_of r) l q
    pub pool-behind : drop 8192 pool' ≡ drop 8192 pool
    pub table-behind : drop 257 table' ≡ drop 257 table

  abbrev pub Reads : Sheet → Type 0
  Reads (Ok r) = IsRead r.records r.constraints r.names
  Reads (Err e) = IsRefused e.why e.line e.column

  -- nothing has changed but the buffer
  pub record IsUndone (r : Refusal) (l q : ℕ) : Type 0 where
    pub is : sheetRead pool table text ≡ refusedIn (number_of r) l q
    pub pools : pool' ≡ pool
    pub tables : table' ≡ table

  abbrev pub AllOrNothing : Sheet → Type 0
  AllOrNothing (Ok r) = IsRead r.records r.constraints r.names
  AllOrNothing (Err e) = IsUndone e.why e.line e.column

-- ══ The loop ══

-- how far it is: m lines, up to the place at, with k new names, n records and c constraints
pub record Along (text pool table dst : List ℕ) (at m k n c : ℕ) (pool' table' dst' : List ℕ) : Type 0 where
  pub upto : Upto pool table text dst at m c (sofar (start pool' table' dst') k n) dst'
  pub kept : Kept (start pool table dst) (lent pool' table' dst' (stand.Going k n))

module _ {text pool table dst : List ℕ} {at m k n c : ℕ} {p₁ t₁ d₁ : List ℕ} (a : Along text pool table dst at m k n c p₁ t₁ d₁) {r : ℕ}
    (w : Cut text at r) where
  module _ {p₂ t₂ d₂ : List ℕ} {i j b : ℕ} (x : LineDone (line_at text at r) (lent p₁ t₁ d₁ (stand.Going k n)) (lent p₂ t₂ d₂ (stand.Going i j)) b) where
    pub kept_on : Kept (start pool table dst) (lent p₂ t₂ d₂ (stand.Going i j))
    kept_on = kept_then a.kept x.kept

    pub few : j ≤ 2048
    few = (kept_on.room i j refl).records
