-- Products that are lent as words, four for each factor, and what is told of one.
use Rattle.std.specs.Prelude.{List, ℕ, ◌+◌, ◌/◌, length}
use Rattle.std.proofs.lemmas.List.Edits.{sets}
use Rattle.rules.specs.Base.{Got, got, refused, collect}
use Rattle.rules.specs.Values.{ProductValue}
use Rattle.calls_defined.specs.Factors.{productAt, factorWords}
use Rattle.calls_defined.specs.Saying.{word, saidAs, refusedAs}
use Rattle.calls_defined.specs.declared.told.Told.{Told}

-- as many factors as words were begun: a torn last one has a denominator of 0, so such a product is malformed, like one of over 64
abbrev pub productIn : List ℕ → ProductValue
productIn ws = productAt ws ((length ws + 3) / 4)

-- what is said: the count; what is written: all 64 places, as far as there is room. A refusal writes nothing
abbrev pub toldOf : Got ProductValue → Told
toldOf (got p) = saidAs (word p.len) 0 0
toldOf (refused n) = refusedAs n 0 0

abbrev pub written_of : Got ProductValue → List ℕ → List ℕ
written_of (got p) result = sets result 0 (collect factorWords p.factors)
written_of (refused n) result = result
