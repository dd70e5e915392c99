use Rattle.edition.proofs.Lines.{pages-in-lines}
use Rattle.edition.proofs.theorems.pages_in_lines.Goals as goal

pub returns : goal.returns
returns c = λ pool table files. pages-in-lines pool table files
