-- What is written of a set has at most 173 bytes a record, and no line feed but those that end its lines.
use Rattle.std.specs.Prelude.{◌≡◌, false, ℕ, eqb}

-- no line feed
abbrev pub NotFeed : ℕ → Type 0
NotFeed b = eqb b 10 ≡ false
