-- `inner::factor_at` meets its contract.
use Rattle.calls_defined.proofs.inner.factor_at.Goals as goal

pub returns : goal.returns
returns c = λ j. record { kind = c.word_at.ensures j; name = c.word_at-2.ensures j; exp = c.exponent_at.ensures j }
