use Prim.Native.Nat.{◌+◌, ◌*◌, ◌-◌}
use mathlib.Core.Path.{◌≡◌}
use lib.ListN.{length}
use lib.Seq.{sets, slice}
use Rattle.rules.specs.Rescue.{bytes_of}
use Rattle.rescue.proofs.inner.put_words.Given as goal

abbrev pub invariant-loop-i : goal.invariant-loop-i
invariant-loop-i l =
    (length l.dst ≡ length l.initial.dst)
    × (sets l.dst (l.out + (l.i - l.b) * 4) (bytes_of (slice l.i l.e l.s)) ≡ sets l.initial.dst l.out (bytes_of (slice l.b l.e l.s)))
