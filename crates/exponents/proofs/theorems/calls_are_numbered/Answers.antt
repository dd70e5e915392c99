use Rattle.exponents.proofs.Determined.{numbered}
use Rattle.exponents.proofs.theorems.calls_are_numbered.Goals as goal

pub returns : goal.returns
returns c = record {
  adding = λ a b p h. numbered _ p h;
  multiplying = λ a b p h. numbered _ p h;
  dividing = λ a b p h. numbered _ p h;
  negating = λ a p h. numbered _ p h;
}
