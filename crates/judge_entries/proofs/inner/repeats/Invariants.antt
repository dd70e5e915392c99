-- What is left from i on decides.
use Rattle.std.proofs.Common.{◌≡◌, drop}
use Rattle.judge_entries.proofs.Turns.{repeated}
use Rattle.judge_entries.proofs.inner.repeats.Given as goal

abbrev pub invariant-loop-i : goal.invariant-loop-i
invariant-loop-i l = repeated (drop l.i l.entries) ≡ repeated l.entries
