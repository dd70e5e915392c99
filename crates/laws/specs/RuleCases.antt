-- Which rule a step comes from: the cases of a step, each with what its rule knows.
use mathlib.Core.List.{List, map}
use Rattle.rules.specs.Base.{collect}
use Rattle.rules.specs.Trees.{var, Product, Ty, opened, Con, isDim, openOfFactor}
use Rattle.rules.specs.Contents.{namesIn}
use Rattle.rules.specs.Rounds.{Step, bind, split, done, stuck}

module _ {N : Type 0} where
  -- is-dimension of each name of a product
  abbrev pub parts : Product N → List (Con N)
  parts p = map (λ x. isDim (opened (var x))) (namesIn (collect openOfFactor p))

  -- what holds of a step: of the constraints that it puts in, or of the variable that it binds and its type
  abbrev pub After : (List (Con N) → Type 0) → (N → Ty N → Type 0) → Step N → Type 0
  After P Q (bind x t) = Q x t
  After P Q (split new) = P new
  After P Q done = Unit {0}
  After P Q stuck = Unit {0}
