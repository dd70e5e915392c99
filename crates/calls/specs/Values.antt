-- What is told of a product, by its value.
use Rattle.std.specs.Prelude.{List, [], ℕ}
use Rattle.std.proofs.lemmas.List.Edits.{sets}
use Rattle.rules.specs.Base.{Got, got, refused, collect}
use Rattle.rules.specs.Values.{ProductValue, productValue}
use Rattle.calls_defined.specs.Saying.{word, saidAs, refusedAs}
use Rattle.calls_defined.specs.Dispatch.{Shown, shown}
use Rattle.calls_defined.specs.Factors.{factorWords}
use Rattle.calls_defined.specs.declared.told.Told.{Told}

abbrev pub valueAs : Got ProductValue → Told
valueAs (got v) = saidAs (word v.len) 0 256
valueAs (refused n) = refusedAs n 0 256

-- a product that was made, or the scalar beside a refusal
abbrev pub valueOr : Got ProductValue → ProductValue
valueOr (got v) = v
valueOr (refused n) = productValue []

unfoldable pub valueShown : Got ProductValue → List ℕ → Shown
valueShown m result = shown (valueAs m) (sets result 0 (collect factorWords (valueOr m).factors))
