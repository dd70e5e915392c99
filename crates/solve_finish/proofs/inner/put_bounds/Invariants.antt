use mathlib.Core.Path.{◌≡◌}
use mathlib.Core.List.{map}
use Prim.Native.Nat.{◌+◌, ◌-◌, ◌*◌, ◌≤◌}
use lib.ListN.{length, take}
use lib.Seq.{sets, slice}
use Rattle.rules.specs.Writing.{words}
use Rattle.solve_finish.specs.Told.{boundRec}
use Rattle.solve_finish.proofs.inner.put_bounds.Given as goal

abbrev pub invariant-loop-i : goal.invariant-loop-i
invariant-loop-i l =
    (length l.dst ≡ length l.initial.dst)
    × ((l.i ≤ l.k) × (sets l.dst ((l.out + l.i) * 4) (words (map boundRec (slice l.i l.k l.names)))
    ≡ sets l.initial.dst (l.out * 4) (words (map boundRec (take l.k l.names)))))

abbrev pub decreases-loop-i : goal.decreases-loop-i
decreases-loop-i l = l.k - l.i
