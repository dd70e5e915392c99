-- What a type is read as, plainly: structs by their names and arguments only.
use Rattle.std.specs.Prelude.{◌≡◌, false, ℕ}
use Rattle.rules.specs.Plain.{plain, plainTys}
use Rattle.rules.specs.Trees.{Ty, Tys, opened, basic, dim, fn, struct, list, noFields}
use Rattle.records.specs.Holds.{openOf, basicOf}
use Rattle.types.specs.Shapes.{row}
use Rattle.types.specs.declared.Head.{Head}
use Rattle.types.specs.declared.Head.TheVariants as head

abbrev pub ReadAs : Head → Ty ℕ → Type 0
ReadAs (head.Open o) t = opened (openOf o) ≡ t
ReadAs (head.Basic b) t = basic (basicOf b) ≡ t
ReadAs (head.Dimension p) t = dim p.factors.0 ≡ t
ReadAs (head.Function ts) t = (ps : Tys ℕ) × (r : Ty ℕ) × (row ps r ≡ plainTys ts.trees.0 false) × (fn ps r ≡ t)
ReadAs (head.Struct x ts) t = struct x (plainTys ts.trees.0 false) noFields ≡ t
ReadAs (head.List t) u = list (plain t.tree.0 false) ≡ u
