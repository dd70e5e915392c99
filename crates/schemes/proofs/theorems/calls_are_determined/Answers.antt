use Rattle.rules.specs.Calls.{quantifyCall, generaliseCall, instantiateCall}
use Rattle.records_buffers.proofs.Determined.{written-determined}
use Rattle.schemes.proofs.theorems.calls_are_determined.Goals as goal

pub returns : goal.returns
returns c = record {
  quantifying = λ pool table type bounds names result work. written-determined (quantifyCall pool table type bounds names result work);
  generalising = λ pool table given bounds result work. written-determined (generaliseCall pool table given bounds result work);
  instantiating = λ pool table given names result work. written-determined (instantiateCall pool table given names result work);
}
