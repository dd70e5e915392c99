-- What follows from the definitions of specs/Binds: bindings one after another from a place up to another: the words alone say which they are.
use Rattle.std.specs.Prelude.{◌≡◌, List, ℕ}
use Rattle.rules.specs.Trees.{Binding, sizeBinding}
use Rattle.records.specs.Holds.{HoldsBinding}
use Rattle.records.specs.Parsed.{only-binding}
use Rattle.types.specs.Runs.{HoldsEach, only-run}
use Rattle.types.specs.Binds.{binding-some, IsBinds, binding-once}

abbrev pub HoldsBinds : List ℕ → List (Binding ℕ) → ℕ → Type 0
HoldsBinds = HoldsEach HoldsBinding sizeBinding

module _ (s : List ℕ) where
  pub only-binds : (bs ds : List (Binding ℕ)) (at end : ℕ) → IsBinds s at end bs → IsBinds s at end ds → bs ≡ ds
  only-binds = only-run HoldsBinding sizeBinding s binding-some (only-binding s) (binding-once s)
