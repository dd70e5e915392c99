use mathlib.Core.Path.{sym, ◌∙◌}
use Rattle.exponents.proofs.Determined.{exp-injective, determined}
use Rattle.exponents.proofs.theorems.calls_are_determined.Goals as goal

pub returns : goal.returns
returns c = record {
  adding = λ a b p q h k. determined _ p h q k;
  multiplying = λ a b p q h k. determined _ p h q k;
  dividing = λ a b p q h k. determined _ p h q k;
  negating = λ a p q h k. determined _ p h q k;
  reading = λ b d p q h k. exp-injective p q (h ∙ sym k);
}
