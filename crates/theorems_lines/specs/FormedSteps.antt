-- The steps of a line that was read are well formed.
use Rattle.std.specs.Prelude.{◌≡◌, Bool, true}
use Rattle.rules.specs.Contents.{closed}
use Rattle.rules.specs.Exponents.{goodExp}
use Rattle.rules.specs.Steps.{LineStep, constant, reference, raises, joins, chooses}
use Rattle.rules.specs.Trees.{Names}
use Rattle.rules.specs.WellFormed.{goodTy}

module _ {N : Type 0} (ν : Names N) (held : N → Bool) where
  -- a step that was read: its type is well formed, a constant's is closed, a power is an exponent of the rules
  abbrev pub FormedStep : LineStep N → Type 0
  FormedStep (constant t) = (goodTy ν held 0 t ≡ true) × (closed t ≡ true)
  FormedStep (reference t) = goodTy ν held 0 t ≡ true
  FormedStep (raises e) = goodExp e ≡ true
  FormedStep (joins o) = Unit {0}
  FormedStep chooses = Unit {0}
