-- The names below v are noted.
use Rattle.std.proofs.Common.{◌≡◌}
use Rattle.judge_entries.specs.Entries.{told, notedBelow}
use Rattle.judge_entries.proofs.inner.slots_of.Given as goal

abbrev pub invariant-loop-v : goal.invariant-loop-v
invariant-loop-v l = l.places ≡ notedBelow (told l.entries) l.v
