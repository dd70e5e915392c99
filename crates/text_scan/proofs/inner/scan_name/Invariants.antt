use mathlib.Core.Path.{◌≡◌}
use Prim.Native.Nat.{◌-◌}
use lib.ListN.{length}
use Rattle.text_scan.proofs.Names.{Reading}
use Rattle.text_scan.proofs.inner.scan_name.Given as goal

abbrev pub invariant-loop-letter : goal.invariant-loop-letter
invariant-loop-letter l = record {
  long : length l.dst ≡ length l.initial.dst;
  read : Reading l.line l.at l.end l.size l.initial.dst l.dst;
}

abbrev pub decreases-loop-letter : goal.decreases-loop-letter
decreases-loop-letter l = length l.line - l.end
