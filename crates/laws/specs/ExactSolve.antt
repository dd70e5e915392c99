-- Where the bounded solver answers without 7 and 8, the exact solver answers the same.
use Rattle.rules.specs.Trees.{Names}
use Rattle.rules.specs.Solving.{Answer, accepted, remaining, stopped}

module _ {N : Type 0} (ν : Names N) where
  -- an answer other than a refusal in a round
  abbrev pub Settled : Answer N → Type 0
  Settled (accepted bs ns k) = Unit {0}
  Settled (remaining cs k) = Unit {0}
  Settled (stopped n k) = ⊥
