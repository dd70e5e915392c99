-- Names that are marked are counted once each, so the count is that of the distinct names.
use Rattle.std.specs.Prelude.{◌≡◌, Bool, length}
use mathlib.Core.List.{List}
use Prim.Native.Nat.{ℕ}
use Rattle.queries.specs.Marks.{Marks, picked}

-- the marks are at these names, and v counts the marks
pub record Counted (m : List Bool) (v : ℕ) (xs : List ℕ) : Type 0 where
  pub marks : Marks m xs
  pub many : v ≡ length (picked 0 m)

-- how many distinct names there are among these
pub record Distinct (xs : List ℕ) (v : ℕ) : Type 0 where
  pub marked : List Bool
  pub counted : Counted marked v xs
