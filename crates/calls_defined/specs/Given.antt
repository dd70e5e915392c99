-- The words of a request as names' bytes, and a limit on what is looked at.
use Rattle.std.specs.Prelude.{ℕ, List, map, take}
use Rattle.rules.specs.Names.{Bytes}
use Rattle.calls_defined.specs.Fills.{low_byte}

-- a name with a word for each byte; 512 words are looked at
abbrev pub nameIn : List ℕ → Bytes
nameIn a = map low_byte (take 512 a)
