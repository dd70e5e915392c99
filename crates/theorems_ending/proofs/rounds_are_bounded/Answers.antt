use Rattle.theorems_ending.proofs.Ending.{ceiling, ceiling-sharper, ceiling-of-all, bindings-at-most, bindings-counted}
use Rattle.theorems_ending.proofs.rounds_are_bounded.Goals as goal

pub returns : goal.returns
returns c = λ pool table good cs admitted. record {
  ceiling = ceiling good admitted;
  ceiling-sharper = ceiling-sharper good admitted;
  ceiling-of-all = ceiling-of-all good admitted;
  bindings-at-most = bindings-at-most good admitted;
  bindings-counted = bindings-counted good admitted;
}
