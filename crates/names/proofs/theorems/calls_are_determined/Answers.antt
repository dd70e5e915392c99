use Rattle.names.proofs.Determined.{compare-determined, check-table-determined, check-number-determined, enter-determined, name-of-determined}
use Rattle.names.proofs.theorems.calls_are_determined.Goals as goal

pub returns : goal.returns
returns c = record {
  comparing = compare-determined;
  checking = check-table-determined;
  asking = check-number-determined;
  entering = enter-determined;
  naming = name-of-determined;
}
