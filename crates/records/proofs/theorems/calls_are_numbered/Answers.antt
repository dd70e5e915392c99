use Rattle.rules.specs.Calls.{aloneGiven, setCall, typeCall, schemeCall, bindingsCall}
use Rattle.records.proofs.Determined.{answer-numbered}
use Rattle.records.proofs.theorems.calls_are_numbered.Goals as goal

pub returns : goal.returns
returns c = record {
  entering = λ p t ws. answer-numbered (aloneGiven p t ws);
  sets = λ p t ws. answer-numbered (setCall p t ws);
  types = λ p t ws. answer-numbered (typeCall p t ws);
  schemes = λ p t ws. answer-numbered (schemeCall p t ws);
  bindings = λ p t ws. answer-numbered (bindingsCall p t ws);
}
