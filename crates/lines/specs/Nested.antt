-- The constraints of a line are nested at most 64 deep, as the types are that its steps point to.
use Rattle.std.specs.Prelude.{◌≤◌}
use Rattle.rules.specs.Trees.{depth}
use Rattle.rules.specs.Steps.{LineStep, constant, reference, raises, joins, chooses}

-- ══ What steps issue ══

module _ {N : Type 0} where
  -- a step, and what it does with its operands, whose type is nested at most 64 deep
  abbrev pub Flat : LineStep N → Type 0
  Flat (constant t) = depth t ≤ 64
  Flat (reference t) = depth t ≤ 64
  Flat (raises e) = Unit {0}
  Flat (joins o) = Unit {0}
  Flat chooses = Unit {0}
