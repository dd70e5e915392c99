use Rattle.solve_conflict.proofs.Worth.{conflicts-told}
use Rattle.solve_conflict.proofs.theorems.conflicts_are_told.Goals as goal

pub returns : goal.returns
returns c = conflicts-told
