use Rattle.products.proofs.Determined.{numbered}
use Rattle.products.proofs.theorems.calls_are_numbered.Goals as goal

pub returns : goal.returns
returns c = record {
  multiplying = λ pool table v w p h. numbered p _ h;
  dividing = λ pool table v w p h. numbered p _ h;
  inverting = λ pool table v p h. numbered p _ h;
  raising = λ pool table v e p h. numbered p _ h;
}
