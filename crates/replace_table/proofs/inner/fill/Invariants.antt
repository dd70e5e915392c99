use mathlib.Core.Path.{◌≡◌}
use mathlib.Core.List.{List}
use Prim.Native.Nat.{ℕ, ◌-◌}
use lib.ListN.{length}
use Rattle.rules.specs.Trees.{Binding}
use Rattle.types.specs.Binds.{IsBinds}
use Rattle.replace_table.proofs.Filling.{Going}
use Rattle.replace_table.proofs.inner.fill.Given as goal

abbrev pub invariant-loop-i : goal.invariant-loop-i
invariant-loop-i l = (length l.places ≡ length l.initial.places)
    × ((length l.places ≡ 256) × ((bs : List (Binding ℕ)) → IsBinds l.v l.b l.e bs → Going l.v bs l.places l.i l.e))

abbrev pub decreases-loop-i : goal.decreases-loop-i
decreases-loop-i l = l.e - l.i
