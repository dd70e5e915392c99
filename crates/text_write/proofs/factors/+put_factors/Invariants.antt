use Rattle.std.specs.Prelude.{length}
use Rattle.text_write.proofs.factors.+put_factors.Given as goal

abbrev pub decreases-put_factors : goal.decreases-put_factors
decreases-put_factors g l = length l.factors.factors.0
