-- Bounds with their names renamed: those that aren't renamed stay, or are left out.
use Rattle.std.specs.Prelude.{◌≡◌, Bool, true, false, ℕ, ◌+◌, ◌/◌, length}
use Rattle.std.proofs.Math.Path.{refl, sym, ap}
use Rattle.std.proofs.Common.{ap₂, ◌∙◌, arith}
use mathlib.Core.HLevel.{Σ_prop_path}
use mathlib.Core.List.{List, [], ◌∷◌}
use Rattle.std.proofs.Math.Option.{Option, none, some}
use Rattle.rules.specs.Base.{collect}
use Rattle.rules.specs.Schemes.{renamed}
use Rattle.rules.specs.Trees as tree
use Rattle.rules.specs.Trees.{Ty}
use Rattle.records.specs.ByView.{open-back}
use Rattle.records.specs.Holds.{Shows, viewOpen, openOf}
use Rattle.records.specs.declared.View.TheVariants as view
use Rattle.records.specs.Places.{seen-in}
use Rattle.types.specs.Once.{ℕ-set, View-set}

abbrev pub Rename : Type 0
Rename = tree.Open ℕ → Option (tree.Open ℕ)

-- a name that isn't renamed stays only where all are asked for
abbrev pub ifAll : Bool → tree.Open ℕ → List (tree.Open ℕ)
ifAll true o = o ∷ []
ifAll false o = []

abbrev pub orAll : Option (tree.Open ℕ) → Bool → tree.Open ℕ → List (tree.Open ℕ)
orAll none all o = ifAll all o
orAll (some u) all o = u ∷ []

abbrev pub bounds_of : Bool → Rename → tree.Open ℕ → List (tree.Open ℕ)
bounds_of all f o = orAll (f o) all o

abbrev pub allBounds : Bool → Rename → List (tree.Open ℕ) → List (tree.Open ℕ)
allBounds all f bs = collect (bounds_of all f) bs

-- the records from a place to the end are these bounds
unfoldable pub BoundsAt : List ℕ → List (tree.Open ℕ) → ℕ → Type 0
BoundsAt s [] at = at ≡ length s / 4
BoundsAt s (o ∷ bs) at = Shows s at (view.Bound (viewOpen o)) × BoundsAt s bs (at + 1)

-- they are one list, in one way
only-bounds : (s : List ℕ) (bs cs : List (tree.Open ℕ)) (at : ℕ) → BoundsAt s bs at → BoundsAt s cs at → bs ≡ cs
unfolding BoundsAt
only-bounds s [] [] at h k = refl
only-bounds s [] (u ∷ cs) at h k = absurd (let z = seen-in s at k.0 tt in omega (arith, z, h))
only-bounds s (o ∷ bs) [] at h k = absurd (let z = seen-in s at h.0 tt in omega (arith, z, k))
only-bounds s (o ∷ bs) (u ∷ cs) at h k =
    let z : view.Bound (viewOpen o) ≡ view.Bound (viewOpen u) = sym h.0 ∙ k.0 in
    let y : viewOpen o ≡ viewOpen u = cc in
    ap₂ ◌∷◌ (sym (open-back o) ∙ ap openOf y ∙ open-back u) (only-bounds s bs cs (at + 1) h.1 k.1)

bounds-once : (s : List ℕ) (bs : List (tree.Open ℕ)) (at : ℕ) → IsProp (BoundsAt s bs at)
unfolding BoundsAt
bounds-once s [] at = ℕ-set at (length s / 4)
bounds-once s (o ∷ bs) at = Prim.hlevel (ℕ-set, View-set, bounds-once s bs (at + 1))

-- the bounds from a place to the end
abbrev pub BoundList : List ℕ → ℕ → Type 0
BoundList s at = (bs : List (tree.Open ℕ)) × BoundsAt s bs at

pub one-bounds : (s : List ℕ) (at : ℕ) → IsProp (BoundList s at)
one-bounds s at p q = Σ_prop_path (λ bs. bounds-once s bs at) (only-bounds s p.0 q.0 at p.1 q.1)

-- what names become is the renaming
abbrev pub Renames : (tree.Open ℕ → Option (Ty ℕ)) → Rename → Type 0
Renames look f = (o : tree.Open ℕ) → look o ≡ renamed f o
