use Rattle.std.specs.Prelude.{refl}
use Rattle.rules.specs.Examples.{examples, K1-to-K13}
use Rattle.rules.proofs.examples.k1_to_k13.Goals as goal

pub returns-clause-thirteen : goal.returns-clause-thirteen
unfolding examples
returns-clause-thirteen c = refl

pub returns-clause-come_out : goal.returns-clause-come_out
returns-clause-come_out c = K1-to-K13
