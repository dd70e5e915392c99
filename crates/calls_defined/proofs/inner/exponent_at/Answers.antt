-- `inner::exponent_at` meets its contract.
use mathlib.Core.Path.{ap₂, ◌∙◌}
use Prim.Native.Nat.{ℕ}
use Rattle.rules.specs.Exponents.{frac}
use Rattle.rules.specs.Writing.{signed}
use Rattle.calls_defined.proofs.inner.exponent_at.Goals as goal

pub returns : goal.returns
returns c = c.from_words.ensures ∙ ap₂ (λ (x y : ℕ). frac (signed x) y) c.word_at.ensures c.word_at-2.ensures
