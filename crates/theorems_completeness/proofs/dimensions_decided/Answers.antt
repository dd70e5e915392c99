use Rattle.theorems_completeness.proofs.Completeness.{only-7-and-8, five-exactly, all-choices}
use Rattle.theorems_completeness.proofs.dimensions_decided.Goals as goal

pub returns : goal.returns
returns g c = λ ν held lawful tells cs given. record {
  only-7-and-8 = only-7-and-8 ν held lawful tells cs given;
  five-exactly = five-exactly ν held lawful tells cs given;
  all-choices = all-choices ν held lawful tells cs given;
}
