-- What quantifying is given, and what it makes.
use Rattle.std.specs.Prelude.{Bool, ℕ, ◌≤◌, length}
use mathlib.Core.List.{List}
use Rattle.std.proofs.Math.Option.{Option}
use Rattle.rules.specs.Base.{Got, bounded}
use Rattle.rules.specs.Names.{table_of, numbersOf}
use Rattle.rules.specs.Replacing.{replaceTy}
use Rattle.rules.specs.Schemes.{renamed}
use Rattle.rules.specs.Trees.{Ty, Open, depth}
use Rattle.rules.specs.Writing.{Rec}
use Rattle.schemes_renaming.specs.Places.{all_of}
use Rattle.replace.specs.Well.{GoodTy}
use Rattle.schemes_handed.specs.Bounds.{allBounds}
use Rattle.schemes_handed.specs.declared.Handed.{Handed}
use Rattle.schemes_quantify.specs.Core.{limitedScheme}

-- by the words of a table and of handed numbers
module _ (pool table numbers : List ℕ) where
  abbrev pub renamingBy : Open ℕ → Option (Open ℕ)
  renamingBy = all_of (numbersOf (table_of pool table)) 0 numbers

  abbrev pub quantifiedBy : Bool → Ty ℕ → List (Open ℕ) → Got (List Rec)
  quantifiedBy all t bs = limitedScheme (length numbers) (allBounds all renamingBy bs)
      (replaceTy (numbersOf (table_of pool table)) bounded (renamed renamingBy) t)

abbrev pub quantifiedAs : Handed → Bool → Ty ℕ → List (Open ℕ) → Got (List Rec)
quantifiedAs h all t bs = quantifiedBy h.names.pool.now h.names.table.now h.numbers.now all t bs

-- a type that passed its test
pub record Sound (pool table : List ℕ) (t : Ty ℕ) : Type 0 where
  pub good : GoodTy pool table t
  pub flat : depth t ≤ 64
