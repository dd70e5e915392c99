-- What follows from the definitions of specs/Bounds: bounds with their names renamed: those that aren't renamed stay, or are left out.
use Rattle.std.specs.Prelude.{◌≡◌, Bool, ℕ, ◌+◌, ◌/◌, ◌≤◌, ◌<◌, length}
use Rattle.std.proofs.Math.Path.{refl, sym, ap}
use Rattle.std.proofs.Common.{subst, ◌∙◌, arith}
use mathlib.Core.List.{List, [], ◌∷◌, map}
use Rattle.std.proofs.Math.Option.{Option, none, some}
use Rattle.std.proofs.lemmas.List.{map-append}
use Rattle.rules.specs.Base.{and_then, collect}
use Rattle.rules.specs.Schemes.{renamed}
use Rattle.rules.specs.Trees as tree
use Rattle.rules.specs.Trees.{Ty, opened}
use Rattle.rules.specs.Writing.{Rec, writeBound}
use Rattle.laws.proofs.Lists.{some≢none}
use Rattle.records.specs.ByView.{open-back}
use Rattle.records.specs.Holds.{viewOpen, openOf}
use Rattle.records.specs.Views.{viewAt, recOf}
use Rattle.records.specs.declared.Open.{Open}
use Rattle.records.specs.declared.Open.TheVariants.{Var, Quant, Par}
use Rattle.records.specs.declared.View.TheVariants as view
use Rattle.records.specs.Places.{seen-in}
use Rattle.records.specs.Cut.{fit}
use Rattle.records.proofs.Cut.{fits}
use Rattle.types.specs.declared.Shape.{Shape}
use Rattle.types.specs.declared.Shape.TheVariants as shape
use Rattle.types.specs.declared.writer.Writer.{Writer}
use Rattle.types.specs.Shapes.{whole}
use Rattle.types.specs.Written.{Writes}
use Rattle.types.proofs.Written.{writes-none, writes-then}
use Rattle.schemes_handed.specs.Bounds.{Rename, ifAll, orAll, bounds_of, allBounds, BoundsAt}

-- ══ One bound ══

-- a bound's record, as the trees write it
pub bound-rec : (o : Open) → recOf (view.Bound o) 1 ≡ writeBound (openOf o)
unfolding writeBound
bound-rec (Var x) = refl
bound-rec (Quant i) = refl
bound-rec (Par x) = refl

module _ (f : Rename) (o : tree.Open ℕ) (all : Bool) where
  -- what a name becomes is its new name
  pub bound-found : {t : Ty ℕ} (r : tree.Open ℕ) → renamed f o ≡ some t → opened r ≡ t → bounds_of all f o ≡ r ∷ []
  bound-found r a n = go (f o) refl
    where
      go : (s : Option (tree.Open ℕ)) → f o ≡ s → orAll s all o ≡ r ∷ []
      go none k = absurd (some≢none (sym a ∙ ap (λ (s : Option (tree.Open ℕ)). and_then s (λ u. some (opened u))) k))
      go (some u) k =
          let z : some (opened u) ≡ some (opened r) = sym (ap (λ (s : Option (tree.Open ℕ)). and_then s (λ u. some (opened u))) k) ∙ a ∙ ap some (sym n) in
          let y : u ≡ r = cc in
          ap (λ (x : tree.Open ℕ). x ∷ []) y

  -- and no other type
  pub bound-open : {t : Ty ℕ} (x : Shape) → renamed f o ≡ some t → whole x ≡ t → ((u : Open) → x ≡ shape.Open u → ⊥) → ⊥
  bound-open x a n h = go (f o) refl
    where
      open-only : (x : Shape) (u : tree.Open ℕ) → whole x ≡ opened u → ((v : Open) → x ≡ shape.Open v → ⊥) → ⊥
      open-only (shape.Open v) u e h = h v refl
      open-only (shape.Basic b) u e h = cc
      open-only (shape.Dimension p) u e h = cc
      open-only (shape.Function ps r) u e h = cc
      open-only (shape.Struct n ts fs) u e h = cc
      open-only (shape.List t) u e h = cc

      go : (s : Option (tree.Open ℕ)) → f o ≡ s → ⊥
      go none k = some≢none (sym a ∙ ap (λ (s : Option (tree.Open ℕ)). and_then s (λ u. some (opened u))) k)
      go (some u) k =
          let z : some (opened u) ≡ some (whole x) = sym (ap (λ (s : Option (tree.Open ℕ)). and_then s (λ u. some (opened u))) k) ∙ a ∙ ap some (sym n) in
          let y : whole x ≡ opened u = cc in
          open-only x u y h

  pub bound-kept : renamed f o ≡ none → bounds_of all f o ≡ ifAll all o
  bound-kept e = go (f o) refl
    where
      go : (s : Option (tree.Open ℕ)) → f o ≡ s → orAll s all o ≡ ifAll all o
      go none k = refl
      go (some u) k = absurd (some≢none (ap (λ (s : Option (tree.Open ℕ)). and_then s (λ u. some (opened u))) (sym k) ∙ e))

-- ══ All bounds ══

module _ (s : List ℕ) (at : ℕ) where
  -- a bound is there, or the list ends
  pub at_bound : (bs : List (tree.Open ℕ)) (o : Open) → BoundsAt s bs at → viewAt s at ≡ view.Bound o → (cs : List (tree.Open ℕ))
      × ((bs ≡ openOf o ∷ cs) × (BoundsAt s cs (at + 1) × (at < length s / 4)))
  unfolding BoundsAt
  at_bound [] o h e = absurd (let z = seen-in s at e tt in omega arith)
  at_bound (u ∷ bs) o h e =
      let z : view.Bound (viewOpen u) ≡ view.Bound o = sym h.0 ∙ e in
      let y : viewOpen u ≡ o = cc in
      (bs, (ap (λ (w : tree.Open ℕ). w ∷ bs) (sym (open-back u) ∙ ap openOf y), (h.1, seen-in s at e tt)))

  pub at-end : (bs : List (tree.Open ℕ)) → BoundsAt s bs at → ((o : Open) → viewAt s at ≡ view.Bound o → ⊥) → bs ≡ []
  unfolding BoundsAt
  at-end [] h n = refl
  at-end (u ∷ bs) h n = absurd (n (viewOpen u) h.0)

-- one bound that was written
module _ {w w' : Writer} {os : List (tree.Open ℕ)} where
  pub bound-written : (r : Open) → os ≡ openOf r ∷ [] → Writes w w' (recOf (view.Bound r) (fit 1) ∷ []) → Writes w w' (map writeBound os)
  bound-written r e p =
      subst (λ (bs : List (tree.Open ℕ)). Writes w w' (map writeBound bs)) (sym e)
      (subst (λ (x : Rec). Writes w w' (x ∷ [])) (ap (recOf (view.Bound r)) (fits 1 (omega arith)) ∙ bound-rec r) p)

pub bound-left-out : {w : Writer} {os : List (tree.Open ℕ)} → os ≡ [] → Writes w w (map writeBound os)
bound-left-out {w} e = subst (λ (bs : List (tree.Open ℕ)). Writes w w (map writeBound bs)) (sym e) (writes-none w)

-- so many bounds were written, and the others make all
module _ (s : List ℕ) (all : Bool) (f : Rename) (bs : List (tree.Open ℕ)) (w₀ : Writer) where
  pub record Going (w : Writer) (i : ℕ) : Type 0 where
    pub rest : List (tree.Open ℕ)
    pub listed : BoundsAt s rest i
    pub still : (w' : Writer) → Writes w w' (map writeBound (allBounds all f rest)) → Writes w₀ w' (map writeBound (allBounds all f bs))

  pub going-start : {at : ℕ} → BoundsAt s bs at → Going w₀ at
  going-start h = record { rest = bs; listed = h; still = λ w' p. p }

  module _ {w : Writer} {i : ℕ} (g : Going w i) where
    pub going-on : {w₁ : Writer} (o : Open) → viewAt s i ≡ view.Bound o → Writes w w₁ (map writeBound (bounds_of all f (openOf o))) → Going w₁ (i + 1)
    unfolding collect
    going-on {w₁} o e p =
        let (cs, (q, (h, lt))) = at_bound s i g.rest o g.listed e in
        record {
          rest = cs;
          listed = h;
          still = λ w' r. g.still w' (
              subst (λ (xs : List (tree.Open ℕ)). Writes w w' (map writeBound (allBounds all f xs))) (sym q)
              (subst (Writes w w') (sym (map-append writeBound (bounds_of all f (openOf o)) (allBounds all f cs)))
              (writes-then (map writeBound (bounds_of all f (openOf o))) (map writeBound (allBounds all f cs)) p r)));
        }

    pub going-other : i < length s / 4 → ((o : Open) → viewAt s i ≡ view.Bound o → ⊥) → ⊥
    unfolding BoundsAt
    going-other lt n = let k : BoundsAt s [] i = subst (λ (xs : List (tree.Open ℕ)). BoundsAt s xs i) (at-end s i g.rest g.listed n) g.listed
        in omega (arith, k, lt)

    pub going-end : length s / 4 ≤ i → Writes w₀ w (map writeBound (allBounds all f bs))
    unfolding BoundsAt collect
    going-end le = go g.rest g.listed g.still
      where
        go : (xs : List (tree.Open ℕ)) → BoundsAt s xs i
            → ((w' : Writer) → Writes w w' (map writeBound (allBounds all f xs)) → Writes w₀ w' (map writeBound (allBounds all f bs)))
            → Writes w₀ w (map writeBound (allBounds all f bs))
        go [] h k = k w (writes-none w)
        go (x ∷ xs) h k = absurd (let z = seen-in s i h.0 tt in omega (arith, z, le))
