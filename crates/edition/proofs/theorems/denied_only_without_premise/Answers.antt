use Rattle.edition.proofs.Denied.{edition-denied}
use Rattle.edition.proofs.theorems.denied_only_without_premise.Goals as goal

pub returns : goal.returns
returns c = λ pool table h files. edition-denied pool table h files
