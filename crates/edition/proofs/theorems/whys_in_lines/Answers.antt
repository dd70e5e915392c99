use Rattle.edition.proofs.Lines.{whys-in-lines}
use Rattle.edition.proofs.theorems.whys_in_lines.Goals as goal

pub returns : goal.returns
returns c = λ pool table files. whys-in-lines pool table files
