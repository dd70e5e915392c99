-- The names below v are noted.
use mathlib.Core.Path.{◌≡◌}
use Rattle.judge_entries.specs.Entries.{notedBelow}
use Rattle.judge_pairs.specs.Pairs.{entriesIn}
use Rattle.judge_pairs.proofs.inner.slots_of.Given as goal

abbrev pub invariant-loop-v : goal.invariant-loop-v
invariant-loop-v l = l.places ≡ notedBelow (entriesIn l.pairs) l.v
