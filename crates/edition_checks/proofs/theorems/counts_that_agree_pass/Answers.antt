use Rattle.edition_checks.proofs.Passing.{counts-pass}
use Rattle.edition_checks.proofs.theorems.counts_that_agree_pass.Goals as goal

pub returns : goal.returns
returns c = λ separate files sheets accepted counts all. counts-pass separate files sheets accepted counts all
