use Rattle.rules.specs.Calls.{containsCall, closedCall, variablesCall}
use Rattle.queries.proofs.Determined.{answer-determined, listed-determined}
use Rattle.queries.proofs.theorems.calls_are_determined.Goals as goal

pub returns : goal.returns
returns c = record {
  containing = λ p t ws x parameters. answer-determined (containsCall p t ws x parameters);
  closed = λ p t ws. answer-determined (closedCall p t ws);
  listing = λ p t ws parameters result. listed-determined (variablesCall p t ws parameters result);
}
