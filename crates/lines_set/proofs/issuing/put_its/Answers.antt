use Rattle.rules.specs.Writing.{writeTy}
use Rattle.records.specs.Cut.{fit}
use Rattle.lines_set.proofs.issuing.put_its.Goals as goal

pub returns : goal.returns
unfolding writeTy fit
returns c = c.put.ensures
