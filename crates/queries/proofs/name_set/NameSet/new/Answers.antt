use Rattle.queries.proofs.MarkLaws.{marks-none}
use Rattle.queries.proofs.name_set.NameSet.new.Goals as goal

pub returns : goal.returns
returns c = marks-none
