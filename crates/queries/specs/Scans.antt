-- The open names of the records from a place on: one record after another.
use Rattle.std.specs.Prelude.{None, Option, Some, List, [], ◌∷◌, ◌++◌, ℕ, zero, suc, ◌+◌, ◌-◌}
use Rattle.rules.specs.Trees as tree
use Rattle.rules.specs.Contents.{variablesIn, parametersIn, namesIn}
use Rattle.records.specs.Views.{viewAt}
use Rattle.records.specs.Holds.{openOf, atomOf}
use Rattle.records.specs.declared.View.{View}
use Rattle.records.specs.declared.View.TheVariants as view
use Rattle.queries.specs.declared.Kind.{Kind}
use Rattle.queries.specs.declared.Kind.TheVariants.{Variables, Parameters, Both}
use Rattle.records.specs.declared.Open as code

-- an open name of the code, if there is one, as a list
abbrev pub toldOpens : Option code.Open → List (tree.Open ℕ)
toldOpens (Some o) = openOf o ∷ []
toldOpens None = []

-- the names of a kind among open names
abbrev pub choose : Kind → List (tree.Open ℕ) → List ℕ
choose Variables os = variablesIn os
choose Parameters os = parametersIn os
choose Both os = namesIn os

abbrev pub opensAtom : tree.Atom ℕ → List (tree.Open ℕ)
opensAtom (tree.free o) = o ∷ []
opensAtom (tree.base x) = []

-- the open name that a record stands for; a binding's variable counts as a variable
abbrev pub opensView : View → List (tree.Open ℕ)
opensView (view.Opened o) = openOf o ∷ []
opensView (view.Basic b) = []
opensView (view.Dim n) = []
opensView (view.Function n) = []
opensView (view.Struct x n m) = []
opensView view.List = []
opensView (view.Field x) = []
opensView (view.Factor a n d) = opensAtom (atomOf a)
opensView view.Equal = []
opensView view.IsDim = []
opensView view.IsScalar = []
opensView (view.HasField x) = []
opensView (view.Binding x) = tree.var x ∷ []
opensView (view.Bound o) = []
opensView (view.Scheme n) = []
opensView view.Concrete = []
opensView view.Bad = []

module _ (s : List ℕ) where
  -- those of n records from a place on
  unfoldable pub opensFrom : ℕ → ℕ → List (tree.Open ℕ)
  opensFrom zero at = []
  opensFrom (suc n) at = opensView (viewAt s at) ++ opensFrom n (at + 1)

  -- those of the records from b up to e
  abbrev pub opensIn : ℕ → ℕ → List (tree.Open ℕ)
  opensIn b e = opensFrom (e - b) b
