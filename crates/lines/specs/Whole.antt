-- The whole call past the check of 10: from the steps in words to the type of the last one.
use Rattle.std.specs.Prelude.{Result, Ok, Err, ◌≡◌, Bool, List, ℕ, ◌≤◌, length}
use Rattle.std.proofs.Math.Bool.{true}
use Rattle.rules.specs.Base.{Got, got, refused, ◌>>=◌, ◌>>◌, all}
use Rattle.rules.specs.Trees.{Names}
use Rattle.rules.specs.Names.{table_of, numbersOf, is_held}
use Rattle.rules.specs.Refusals.{number_of}
use Rattle.rules.specs.Writing.{Rec, writeTy}
use Rattle.rules.specs.Calls.{differ}
use Rattle.rules.specs.Steps.{LineStep, whole}
use Rattle.rules.specs.Lines.{lineType, lineShort, checkedLine}
use Rattle.rules.specs.declared.Refusal.{Refusal}
use Rattle.laws.specs.Lists.{Every}
use Rattle.theorems_lines.specs.FormedSteps.{FormedStep}
use Rattle.names.specs.declared.tables.NameTable.{NameTable}
use Rattle.lines.specs.Nested.{Flat}

-- ══ A line that passed the checks at entry ══

-- the type of its last step, as records
abbrev pub type_of : List ℕ → List ℕ → List ℕ → List (LineStep ℕ) → Got (List Rec)
type_of pool table names ss = lineType (numbersOf (table_of pool table)) ss names >>= λ ty. got (writeTy ty)

-- what the call makes over a table that was tested before; and where it was refused, 8 and then its refusal
abbrev pub line_over : Result NameTable Refusal → List ℕ → List ℕ → List ℕ → List ℕ → Got (List Rec)
line_over (Ok n) steps types lines names = checkedLine (table_of n.pool.now n.table.now) steps types lines names
line_over (Err why) steps types lines names = lineShort steps types lines names >> refused (number_of why)

module _ (pool table names : List ℕ) where
  abbrev pub ν : Names ℕ
  ν = numbersOf (table_of pool table)

  abbrev pub held : ℕ → Bool
  held = is_held (table_of pool table)

  pub record LineHeld (ss : List (LineStep ℕ)) : Type 0 where
    pub formed : Every (FormedStep ν held) ss
    pub complete : whole 0 ss ≡ true
    pub flat : Every Flat ss
    pub differing : differ names ≡ true
    pub held : all held names ≡ true
    pub enough : length ss ≤ length names
