use mathlib.Core.Path.{◌≡◌}
use lib.Dec.{ltb}
use lib.ListN.{get_or, drop}
use Rattle.rules.specs.Base.{all}
use Rattle.lines_entry.proofs.inner.fresh.all_held.Given as goal

abbrev pub invariant-loop-i : goal.invariant-loop-i
invariant-loop-i l = all (λ x. ltb x (get_or l.names.table.now 0 0)) (drop l.i l.lent) ≡ all (λ x. ltb x (get_or l.names.table.now 0 0)) l.lent
