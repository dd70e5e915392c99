use Rattle.edition_report.proofs.Placed.{lines-theirs}
use Rattle.edition_report.proofs.theorems.lines_are_theirs.Goals as goal

pub returns : goal.returns
returns c = λ pool table text cs s e i d q. lines-theirs pool table text cs s e i d q
