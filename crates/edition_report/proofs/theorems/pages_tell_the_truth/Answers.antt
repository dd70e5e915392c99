use Rattle.edition_report.proofs.Promise.{page-only, page-there}
use Rattle.edition_report.proofs.theorems.pages_tell_the_truth.Goals as goal

pub returns : goal.returns
returns c = record { only = λ t p. page-only t p; there = λ t p. page-there t p }
