use Rattle.edition_checks.proofs.Passing.{certified-pass}
use Rattle.edition_checks.proofs.theorems.certified_counts_that_agree_pass.Goals as goal

pub returns : goal.returns
returns c = λ files sheets accepted counts all. certified-pass files sheets accepted counts all
