-- The invariants of the loops over constraints and over marks.
use Rattle.std.specs.Prelude.{◌≡◌, Bool, false, List, ◌++◌, ◌⊎◌, map, ℕ, ◌+◌, ◌≤◌, ◌<◌, length, get_or}
use Rattle.rules.specs.Base.{collect}
use Rattle.rules.specs.Calls.{over}
use Rattle.rules.specs.Conflicts.{wideOf}
use Rattle.rules.specs.Trees.{Con}
use Rattle.rules.specs.Writing.{writeCon}
use Rattle.types.specs.declared.writer.Writer.{Writer}
use Rattle.types.specs.Written.{Writes}
use Rattle.solve_conflict.specs.Standing.{line_place, standing}

-- what is still to be written behind w makes all that was asked from w₀ on
pub record Putting (m : List Bool) (w₀ w : Writer) (place : ℕ) (left cs : List (Con ℕ)) : Type 0 where
  pub places : place + length left ≡ length cs
  pub rest : (w' : Writer) → Writes w w' (collect writeCon (wideOf (standing m place left))) → Writes w₀ w' (collect writeCon (wideOf (standing m 0 cs)))

-- the places that were written, and those that are still to be
pub record Placing (m : List Bool) (before now : List ℕ) (many place : ℕ) (left cs : List (Con ℕ)) : Type 0 where
  pub places : place + length left ≡ length cs
  pub written : List ℕ
  pub rest : written ++ map line_place (standing m place left) ≡ map line_place (standing m 0 cs)
  pub few : length written ≤ place
  pub counted : many ≡ length written
  pub buffer : now ≡ over written before
  pub same : length now ≡ length before

-- marks that were set up to i
pub record Switching (from i : ℕ) (on : Bool) (m m' : List Bool) : Type 0 where
  pub inside : (j : ℕ) → from ≤ j → j < i → get_or m' j false ≡ on
  pub outside : (j : ℕ) → (j < from) ⊎ (i ≤ j) → get_or m' j false ≡ get_or m j false
  pub long : length m' ≡ length m
