use Rattle.rules.specs.Calls.{quantifyCall, generaliseCall, instantiateCall}
use Rattle.records_buffers.proofs.Determined.{written-numbered}
use Rattle.schemes.proofs.theorems.calls_are_numbered.Goals as goal

pub returns : goal.returns
returns c = record {
  quantifying = λ pool table type bounds names result work. written-numbered (quantifyCall pool table type bounds names result work);
  generalising = λ pool table given bounds result work. written-numbered (generaliseCall pool table given bounds result work);
  instantiating = λ pool table given names result work. written-numbered (instantiateCall pool table given names result work);
}
