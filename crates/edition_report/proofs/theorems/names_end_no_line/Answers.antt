use Rattle.edition_report.proofs.Promise.{name-flat}
use Rattle.edition_report.proofs.theorems.names_end_no_line.Goals as goal

pub returns : goal.returns
returns c = λ name. name-flat name
