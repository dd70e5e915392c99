use Rattle.rules.specs.Calls.{replaceTypeCall, replaceSetCall}
use Rattle.records_buffers.proofs.Determined.{lent-numbered, written-numbered}
use Rattle.records_buffers.proofs.theorems.calls_are_numbered.Goals as goal

pub returns : goal.returns
returns c = record {
  lending = lent-numbered;
  writing = written-numbered;
  replacingInTypes = λ p t ws bs result work. written-numbered (replaceTypeCall p t ws bs result work);
  replacingInSets = λ p t ws bs result work. written-numbered (replaceSetCall p t ws bs result work);
}
