-- The names that a line uses, found in its records one by one.
use mathlib.Core.List.{List, [], ◌∷◌, ◌++◌}
use Prim.Native.Nat.{ℕ, zero, suc, ◌+◌, ◌-◌}
use Rattle.rules.specs.Base.{to_list}
use Rattle.rules.specs.Trees as tree
use Rattle.rules.specs.Views.{name_of}
use Rattle.records.specs.Views.{viewAt}
use Rattle.records.specs.Holds.{openOf, atomOf}
use Rattle.records.specs.declared.View.{View}
use Rattle.records.specs.declared.View.TheVariants as view

-- ══ Records one by one ══

abbrev pub namesAtom : tree.Atom ℕ → List ℕ
namesAtom (tree.free o) = to_list (name_of o)
namesAtom (tree.base x) = x ∷ []

-- the name that a record of a type has
abbrev pub namesView : View → List ℕ
namesView (view.Opened o) = to_list (name_of (openOf o))
namesView (view.Basic b) = []
namesView (view.Dim n) = []
namesView (view.Function n) = []
namesView (view.Struct x n m) = x ∷ []
namesView view.List = []
namesView (view.Field x) = x ∷ []
namesView (view.Factor a n d) = namesAtom (atomOf a)
namesView view.Equal = []
namesView view.IsDim = []
namesView view.IsScalar = []
namesView (view.HasField x) = []
namesView (view.Binding x) = []
namesView (view.Bound o) = []
namesView (view.Scheme n) = []
namesView view.Concrete = []
namesView view.Bad = []

module _ (s : List ℕ) where
  unfoldable pub namesFrom : ℕ → ℕ → List ℕ
  namesFrom zero at = []
  namesFrom (suc n) at = namesView (viewAt s at) ++ namesFrom n (at + 1)

  -- those of the records from b up to e
  abbrev pub namesIn : ℕ → ℕ → List ℕ
  namesIn b e = namesFrom (e - b) b
