-- A number that equal names share, so that most pairs of names are told apart without comparing their bytes.
use Rattle.std.specs.Prelude.{◌≡◌, ℕ, ◌+◌, ◌*◌, ◌%◌, ◌≤◌, ◌<◌, length, get_or}
use mathlib.Core.List.{List, [], ◌∷◌}
use Rattle.rules.specs.Names.{Bytes, table_of, names_of}

abbrev pub withByte : ℕ → ℕ → ℕ
withByte d b = (d * 257 + b) % 4294967296

unfoldable pub digestFrom : ℕ → Bytes → ℕ
digestFrom d [] = d
digestFrom d (b ∷ bs) = digestFrom (withByte d b) bs

abbrev pub digestOf : Bytes → ℕ
digestOf bs = digestFrom 0 bs

-- the name with the number i
abbrev pub nameIn : List ℕ → List ℕ → ℕ → Bytes
nameIn pool table i = get_or (names_of (table_of pool table)) i []

-- the digests of the first n names
pub record Digests (pool table digests : List ℕ) (n : ℕ) : Type 0 where
  pub long : 256 ≤ length digests
  pub each : (j : ℕ) → j < n → get_or digests j 0 ≡ digestOf (nameIn pool table j)
