use Rattle.edition.proofs.Truth.{edition-true}
use Rattle.edition.proofs.theorems.accepted_sheets_are_true.Goals as goal

pub returns : goal.returns
returns c = λ pool table files. edition-true pool table files
