use Rattle.rules.specs.Calls.{replaceTypeCall, replaceSetCall}
use Rattle.records_buffers.proofs.Determined.{lent-determined, written-determined}
use Rattle.records_buffers.proofs.theorems.calls_are_determined.Goals as goal

pub returns : goal.returns
returns c = record {
  lending = lent-determined;
  writing = written-determined;
  replacingInTypes = λ p t ws bs result work. written-determined (replaceTypeCall p t ws bs result work);
  replacingInSets = λ p t ws bs result work. written-determined (replaceSetCall p t ws bs result work);
}
