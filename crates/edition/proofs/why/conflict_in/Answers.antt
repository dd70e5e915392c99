-- `conflict_in` meets its contract: nothing is looked for but where constraints remain.
use Rattle.std.proofs.Common.{arith}
use Rattle.edition.proofs.Asked.{none-found}
use Rattle.edition.proofs.why.conflict_in.Goals as goal

pub returns-in-Unseen : goal.returns-in-Unseen
returns-in-Unseen c = grind (arith, none-found)
