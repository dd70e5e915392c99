use mathlib.Core.Path.{◌≡◌}
use lib.ListN.{length, drop}
use lib.Seq.{sets}
use Rattle.rules.specs.Rescue.{words_in}
use Rattle.rescue.proofs.inner.fill.Given as goal

abbrev pub invariant-loop-i : goal.invariant-loop-i
invariant-loop-i l = (length l.dst ≡ length l.initial.dst) × (sets l.dst l.i (drop l.i (words_in l.file)) ≡ sets l.initial.dst 0 (words_in l.file))
