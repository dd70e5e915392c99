use Rattle.edition.proofs.Conflicting.{told-conflict}
use Rattle.edition.proofs.theorems.told_lines_conflict.Goals as goal

pub returns : goal.returns
returns c = λ pool table h files. told-conflict pool table h files
