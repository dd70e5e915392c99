use mathlib.Core.Path.{◌≡◌}
use mathlib.Core.Bool.{◌||◌}
use Prim.Native.Nat.{ℕ, ◌*◌}
use lib.ListN.{length, drop}
use Rattle.rules.specs.Compaction.{keeps}
use Rattle.compaction.specs.Told.{marks}
use Rattle.compaction.proofs.inner.mark.Given as goal

abbrev pub invariant-loop-i : goal.invariant-loop-i
invariant-loop-i l =
    (length l.m ≡ length l.initial.m) × ((x : ℕ) → (marks l.m x || keeps l.n (drop (l.i * 4) l.s) x) ≡ (marks l.initial.m x || keeps l.n l.s x))
