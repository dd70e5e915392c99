-- From what the three calls of an exported function promise to what it promises: the call itself, its answer told in words, the words handed over.
use Rattle.std.specs.Prelude.{◌≡◌, refl}
use Rattle.rules.specs.Base.{Got, got, refused}
use Rattle.rules.specs.Names.{Bytes}
use Rattle.rules.specs.Numbers.{refusalIn}
use Rattle.names.specs.Told.{refusalOf}

-- a check's number is that of what it checks
pub same_number : (g : Got Bytes) → refusalIn (refusalOf g) ≡ refusalIn g
unfolding refusalIn
same_number (got n) = refl
same_number (refused n) = refl
