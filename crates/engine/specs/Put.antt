-- The factors of a row, written.
use Rattle.std.specs.Prelude.{◌≡◌, map, ℕ, length}
use Rattle.rules.specs.Trees.{Product}
use Rattle.rules.specs.Writing.{writeFactor}
use Rattle.types.specs.declared.writer.Writer.{Writer}
use Rattle.types.specs.Written.{Writes}

-- these factors were written, and n is how many
pub record Factored (w w' : Writer) (n : ℕ) (p : Product ℕ) : Type 0 where
  pub many : n ≡ length p
  pub written : Writes w w' (map writeFactor p)
