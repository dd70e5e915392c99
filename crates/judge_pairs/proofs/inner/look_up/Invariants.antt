-- What is left decides.
use mathlib.Core.Path.{◌≡◌}
use lib.ListN.{length}
use Rattle.judge_entries.specs.Entries.{place_of}
use Rattle.judge_pairs.specs.Pairs.{entriesIn}
use Rattle.judge_pairs.proofs.inner.look_up.Given as goal

abbrev pub invariant-loop-rest : goal.invariant-loop-rest
invariant-loop-rest l = place_of (entriesIn l.rest) l.v ≡ place_of (entriesIn l.pairs) l.v

abbrev pub decreases-loop-rest : goal.decreases-loop-rest
decreases-loop-rest l = length l.rest
