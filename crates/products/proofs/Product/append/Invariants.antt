use mathlib.Core.Path.{◌≡◌}
use mathlib.Core.List.{◌++◌}
use Prim.Native.Nat.{◌+◌, ◌≤◌}
use lib.ListN.{drop, length}
use Rattle.rules.specs.Base.{got}
use Rattle.rules.specs.Values.{productValue}
use Rattle.products.specs.Told.{Tree, given, productOf}
use Rattle.products.proofs.Steps.{Doing}
use Rattle.products.proofs.Product.append.Given as goal

abbrev pub invariant-loop-i : goal.invariant-loop-i
invariant-loop-i l = (l.from ≤ l.i) × (l.i ≤ l.p.len) × (l.self.len + l.from ≡ l.initial.self.len + l.i)
    × ((acc : Tree) → given l.initial.self ≡ productValue acc → Doing (got (drop l.i (productOf l.p))) (got (acc ++ drop l.from (productOf l.p)))
    (length acc + l.i) l.self)
