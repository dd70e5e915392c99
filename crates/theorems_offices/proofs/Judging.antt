-- The judge with other names in the set, the bindings and the bounds: the same verdict.
use Rattle.std.specs.Prelude.{◌≡◌, Bool, ℕ, suc}
use Rattle.std.proofs.Math.Path.{refl, ap}
use Rattle.std.proofs.Math.Bool.{true, false}
use Rattle.std.proofs.Math.Option.{Option, some}
use mathlib.Core.List.{List, [], ◌∷◌, map}
use Rattle.rules.specs.Base.{Got, got, ◌>>=◌, Limits, and_then}
use Rattle.rules.specs.Trees.{Names, Ty, Con, equal, isDim, is_scalar, hasField, Binding, opens, sizeCon, depthCon}
use Rattle.rules.specs.Views.{openOf, productOf, struct_of}
use Rattle.rules.specs.Contents.{fieldIn, namesIn, among}
use Rattle.rules.specs.Plain.{plain}
use Rattle.rules.specs.Replacing.{bindings}
use Rattle.rules.specs.Meaning.{means, amongBounds, holds}
use Rattle.rules.specs.Judging.{failed, judgeCon, judge, failing}
use Rattle.rules.specs.Offices.{Keeps, mapOpen, mapFactor, mapTy, mapCon, mapBinding}
use Rattle.theorems_offices.proofs.Over.{next, gives, sized-over, over-same}
use Rattle.theorems_offices.proofs.Options.{then_map, none-map, and-map}
use Rattle.theorems_offices.proofs.Sizes.{opens-map, size-con, depth-con}
use Rattle.theorems_offices.proofs.Contents.{nil-map, names_in, all_map, ty_same, among-map, field_in}
use Rattle.theorems_offices.proofs.Views.{mapStruct, seen}
use Rattle.theorems_offices.proofs.Replacing.{con-map, looks-map}
use Rattle.theorems_offices.proofs.Schemes.{plain_map}

module _ {N M : Type 0} (ν : Names N) (μ : Names M) (f : N → M) (keeps : Keeps ν μ f) where
  means-map : (s t : Ty N) → means μ (mapTy f s) (mapTy f t) ≡ means ν s t
  unfolding means
  means-map s t = rw (plain_map f s false, plain_map f t false) (ty_same ν μ f keeps (plain s false) (plain t false))

  among-bounds : (bounds : List N) (t : Ty N) → amongBounds μ (map f bounds) (mapTy f t) ≡ amongBounds ν bounds t
  unfolding amongBounds
  among-bounds bounds t = rw (opens-map f t, names_in f (opens t))
      (all_map f (λ x. among ν x bounds) (λ x. among μ x (map f bounds)) (λ x. among-map ν μ f keeps x bounds) (namesIn (opens t)))

  pub holds-map : (bounds : List N) (c : Con N) → holds μ (map f bounds) (mapCon f c) ≡ holds ν bounds c
  unfolding holds mapCon
  holds-map bounds (equal s t) = means-map s t
  holds-map bounds (isDim t) = rw (
    (seen f t).product-of,
    (seen f t).open_of,
    none-map (map (mapFactor f)) (productOf t),
    none-map (mapOpen f) (openOf t),
    among-bounds bounds t,
  )
  holds-map bounds (is_scalar p) = nil-map (mapFactor f) p
  holds-map bounds (hasField n s t) =
      rw (
        (seen f s).struct-of,
        then_map (mapStruct f) (mapTy f) (struct_of s) (λ v. fieldIn ν n v.2) (λ v. fieldIn μ (f n) v.2) (λ v. field_in ν μ f keeps n v.2),
      )
      (and-map (mapTy f) (and_then (struct_of s) (λ v. fieldIn ν n v.2)) (λ u. means ν u t) (λ u. means μ u (mapTy f t)) (λ u. means-map u t))

module _ {N M : Type 0} (ν : Names N) (μ : Names M) (f : N → M) (keeps : Keeps ν μ f) (l : Limits) where
  judge-con : (bs : List (Binding N)) (bounds : List N) (c : Con N)
      → judgeCon μ l (map (mapBinding f) bs) (map f bounds) (mapCon f c) ≡ judgeCon ν l bs bounds c
  unfolding judgeCon
  judge-con bs bounds c = ap failed (over-same (
      next (con-map ν μ f keeps l (bindings ν bs) (bindings μ (map (mapBinding f) bs)) (looks-map ν μ f keeps bs) c)
      (λ d d' i. rw (i, size-con f d, depth-con f d)
      (next (sized-over (mapCon f) l (sizeCon d) (depthCon d) d) (λ e e' j. gives (rw (j, holds-map ν μ f keeps bounds e)))))))

  pub judge-map : (bs : List (Binding N)) (bounds : List N) (cs : List (Con N))
      → judge μ l (map (mapBinding f) bs) (map f bounds) (map (mapCon f) cs) ≡ judge ν l bs bounds cs
  unfolding judge
  judge-map bs bounds [] = refl
  judge-map bs bounds (c ∷ cs) = rw (judge-con bs bounds c)
      (ap (λ (m : Got Bool). judgeCon ν l bs bounds c >>= λ b. elim b [ true ↦ m | false ↦ got false ]) (judge-map bs bounds cs))

  pub failing-map : (bs : List (Binding N)) (bounds : List N) (k : ℕ) (cs : List (Con N))
      → failing μ l (map (mapBinding f) bs) (map f bounds) k (map (mapCon f) cs) ≡ failing ν l bs bounds k cs
  unfolding failing
  failing-map bs bounds k [] = refl
  failing-map bs bounds k (c ∷ cs) = rw (judge-con bs bounds c)
      (ap (λ (m : Got (Option ℕ)). judgeCon ν l bs bounds c >>= λ b. elim b [ true ↦ m | false ↦ got (some k) ]) (failing-map bs bounds (suc k) cs))
