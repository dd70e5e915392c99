use Prim.Native.Nat.{◌-◌}
use lib.ListN.{length}
use Rattle.text_scan.proofs.Numbers.{Counting}
use Rattle.text_scan.proofs.inner.scan_digits.Given as goal

abbrev pub invariant-loop-d : goal.invariant-loop-d
invariant-loop-d l = Counting l.line l.at l.end l.value

abbrev pub decreases-loop-d : goal.decreases-loop-d
decreases-loop-d l = length l.line - l.end
