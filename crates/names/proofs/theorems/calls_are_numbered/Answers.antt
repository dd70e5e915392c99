use Rattle.names.proofs.Determined.{check-table-numbered, check-number-numbered, enter-numbered}
use Rattle.names.proofs.theorems.calls_are_numbered.Goals as goal

pub returns : goal.returns
returns c = record { checking = check-table-numbered; asking = check-number-numbered; entering = enter-numbered }
