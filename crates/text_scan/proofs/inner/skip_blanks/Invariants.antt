use mathlib.Core.Path.{◌≡◌}
use Prim.Native.Nat.{suc}
use lib.ListN.{drop}
use Rattle.rules.specs.Grammar.{skipFrom}
use Rattle.text_scan.proofs.inner.skip_blanks.Given as goal

abbrev pub invariant-loop-i : goal.invariant-loop-i
invariant-loop-i l = skipFrom (suc l.at) (drop l.at l.line) ≡ skipFrom (suc l.i) (drop l.i l.line)
