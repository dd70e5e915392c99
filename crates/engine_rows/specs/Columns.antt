-- The columns of a set: its variables, parameters and base dimensions, each sorted.
use Rattle.std.specs.Prelude.{List, [], ◌∷◌, ◌++◌, length}
use Prim.Native.Nat.{ℕ, zero, suc, ◌+◌, ◌-◌, ◌<◌}
use Rattle.rules.specs.Trees.{Names}
use Rattle.rules.specs.Contents.{sort, variablesIn, parametersIn}
use Rattle.laws.specs.Lists.{Every}
use Rattle.records.specs.Views.{viewAt}
use Rattle.records.specs.declared.Atom.{Atom}
use Rattle.records.specs.declared.Atom.TheVariants.{Free, Base}
use Rattle.records.specs.declared.View.{View}
use Rattle.records.specs.declared.View.TheVariants as view
use Rattle.queries.specs.Scans.{opensIn}
use Rattle.engine_matrix.specs.declared.inner.parts.Columns.{Columns}
use Rattle.engine_matrix.specs.Machine.{namesIn}
use Rattle.rules.specs.Base.{Got, got, ◌>>◌, need}
use Rattle.std.proofs.Math.Dec.{leb}

abbrev pub basesAtom : Atom → List ℕ
basesAtom (Free o) = []
basesAtom (Base x) = x ∷ []

abbrev pub basesView : View → List ℕ
basesView (view.Opened o) = []
basesView (view.Basic b) = []
basesView (view.Dim n) = []
basesView (view.Function n) = []
basesView (view.Struct x n m) = []
basesView view.List = []
basesView (view.Field x) = []
basesView (view.Factor a n d) = basesAtom a
basesView view.Equal = []
basesView view.IsDim = []
basesView view.IsScalar = []
basesView (view.HasField x) = []
basesView (view.Binding x) = []
basesView (view.Bound o) = []
basesView (view.Scheme n) = []
basesView view.Concrete = []
basesView view.Bad = []

module _ (s : List ℕ) where
  -- those of n records from a place on
  unfoldable pub basesFrom : ℕ → ℕ → List ℕ
  basesFrom zero at = []
  basesFrom (suc n) at = basesView (viewAt s at) ++ basesFrom n (at + 1)

  abbrev pub basesIn : ℕ → ℕ → List ℕ
  basesIn b e = basesFrom (e - b) b

-- all names of a set are held
pub record Known (n : ℕ) (s : List ℕ) (e : ℕ) : Type 0 where
  pub variables : Every (λ x. x < n) (variablesIn (opensIn s 0 e))
  pub parameters : Every (λ x. x < n) (parametersIn (opensIn s 0 e))
  pub bases : Every (λ x. x < n) (basesIn s 0 e)

module _ (ν : Names ℕ) (s : List ℕ) (e : ℕ) where
  abbrev pub vars : List ℕ
  vars = sort ν (variablesIn (opensIn s 0 e))

  abbrev pub pars : List ℕ
  pars = sort ν (parametersIn (opensIn s 0 e))

  abbrev pub bases : List ℕ
  bases = sort ν (basesIn s 0 e)

  -- how many variables and parameters, and all names; 8 where they are too many
  unfoldable pub listed : Got (ℕ × ℕ × List ℕ)
  listed = do
    need (leb (length vars) 24) 8
    need (leb (length pars + length bases) 24) 8
    got (length vars, length pars, vars ++ pars ++ bases)

-- what stands above the columns
abbrev pub headed : Columns → ℕ × ℕ × List ℕ
headed k = (k.variables, k.parameters, namesIn k)
