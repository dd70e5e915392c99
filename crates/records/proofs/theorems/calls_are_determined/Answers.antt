use Rattle.rules.specs.Calls.{aloneGiven, setCall, typeCall, schemeCall, bindingsCall}
use Rattle.records.specs.Cut.{fit}
use Rattle.records.specs.Views.{bareOf, recOf}
use Rattle.records.proofs.Determined.{answer-determined, record-determined}
use Rattle.records.proofs.theorems.calls_are_determined.Goals as goal

pub returns : goal.returns
returns c = record {
  entering = λ p t ws. answer-determined (aloneGiven p t ws);
  sets = λ p t ws. answer-determined (setCall p t ws);
  types = λ p t ws. answer-determined (typeCall p t ws);
  schemes = λ p t ws. answer-determined (schemeCall p t ws);
  bindings = λ p t ws. answer-determined (bindingsCall p t ws);
  bare = λ v. record-determined (bareOf v);
  whole = λ v n. record-determined (recOf v (fit n));
}
