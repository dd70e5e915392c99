-- What is left decides.
use mathlib.Core.Path.{◌≡◌}
use lib.ListN.{length}
use Rattle.judge_pairs.proofs.Turns.{repeated}
use Rattle.judge_pairs.proofs.inner.repeats.Given as goal

abbrev pub invariant-loop-rest : goal.invariant-loop-rest
invariant-loop-rest l = repeated l.rest ≡ repeated l.pairs

abbrev pub decreases-loop-rest : goal.decreases-loop-rest
decreases-loop-rest l = length l.rest
