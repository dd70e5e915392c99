use Rattle.rules.specs.Calls.{containsCall, closedCall, variablesCall}
use Rattle.queries.proofs.Determined.{answer-numbered, listed-numbered}
use Rattle.queries.proofs.theorems.calls_are_numbered.Goals as goal

pub returns : goal.returns
returns c = record {
  containing = λ p t ws x parameters. answer-numbered (containsCall p t ws x parameters);
  closed = λ p t ws. answer-numbered (closedCall p t ws);
  listing = λ p t ws parameters result. listed-numbered (variablesCall p t ws parameters result);
}
