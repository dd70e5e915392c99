use mathlib.Core.Path.{◌≡◌}
use Prim.Native.Nat.{suc, ◌≤◌}
use lib.ListN.{length, drop}
use Rattle.rules.specs.Grammar.{spellFrom}
use Rattle.text_scan.proofs.inner.spell.Given as goal

abbrev pub invariant-loop-b : goal.invariant-loop-b
invariant-loop-b l = record {
  within : l.i ≤ length l.line;
  is : spellFrom (drop l.b-index l.sign) (suc l.i) (drop l.i l.line) ≡ spellFrom l.sign (suc l.at) (drop l.at l.line);
}
