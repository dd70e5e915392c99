use mathlib.Core.Path.{sym, ◌∙◌}
use Rattle.products.proofs.Determined.{given-injective, determined}
use Rattle.products.proofs.theorems.calls_are_determined.Goals as goal

pub returns : goal.returns
returns c = record {
  multiplying = λ pool table v w p q h k. determined p _ h q k;
  dividing = λ pool table v w p q h k. determined p _ h q k;
  inverting = λ pool table v p q h k. determined p _ h q k;
  raising = λ pool table v e p q h k. determined p _ h q k;
  scalars = λ p q h k. given-injective p q (h ∙ sym k);
}
