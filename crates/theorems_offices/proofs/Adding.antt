-- Adding a constraint with other names in the set and in it.
use Rattle.std.specs.Prelude.{◌≡◌, Bool, ◌&&◌, List, [], ◌∷◌, ◌++◌, map}
use Rattle.std.proofs.Math.Path.{refl}
use Rattle.std.proofs.Math.Bool.{true, false}
use Rattle.std.proofs.Math.Option.{Option, none, some}
use Rattle.std.proofs.lemmas.List.{map-append}
use Rattle.rules.specs.Base.{bounded, is_none, collect, sum_of}
use Rattle.rules.specs.Trees.{Names, Ty, Tys, Con, equal, isDim, is_scalar, hasField, openOfFactor, sizeCon}
use Rattle.rules.specs.Views.{openOf, asPower, fn_of}
use Rattle.rules.specs.Contents.{closed, variablesIn}
use Rattle.rules.specs.Adding.{Added, satisfied, violated, unknown, countsDiffer, solid, kindsDiffer, addEqual, addDim, addTest, stored, add}
use Rattle.rules.specs.Offices.{Keeps, mapOpen, mapTy, mapCon, mapOption}
use Rattle.theorems_offices.proofs.Over.{Over, gives, within-over}
use Rattle.theorems_offices.proofs.Sizes.{product-opens, count_map, size-cons}
use Rattle.theorems_offices.proofs.Contents.{nil-map, variables-in, closed-map, ty_same}
use Rattle.theorems_offices.proofs.Views.{map_fn, as-power, seen}

module _ {N M : Type 0} (f : N → M) where
  counts-map : (x y : Option (Tys N × Ty N)) → countsDiffer (mapOption (map_fn f) x) (mapOption (map_fn f) y) ≡ countsDiffer x y
  unfolding countsDiffer
  counts-map none y = refl
  counts-map (some v) none = refl
  counts-map (some v) (some w) = rw (count_map f v.0, count_map f w.0)

  none-map : {A B : Type 0} (g : A → B) (x : Option A) → is_none (mapOption g x) ≡ is_none x
  none-map g none = refl
  none-map g (some a) = refl

  solid-map : (t : Ty N) → solid (mapTy f t) ≡ solid t
  unfolding solid
  solid-map t = rw ((seen f t).open_of, as-power f t, none-map (mapOpen f) (openOf t), none-map f (asPower t))

  kinds-map : (s t : Ty N) → kindsDiffer (mapTy f s) (mapTy f t) ≡ kindsDiffer s t
  unfolding kindsDiffer
  kinds-map s t = rw (solid-map s, solid-map t, (seen f s).kind-map, (seen f t).kind-map)

  abbrev pub mapAdded : Added × List (Con N) → Added × List (Con M)
  mapAdded v = (v.0, map (mapCon f) v.1)

module _ {N M : Type 0} (ν : Names N) (μ : Names M) (f : N → M) (keeps : Keeps ν μ f) where
  equal-map : (b : Bool) (s t : Ty N) → addEqual μ b (mapTy f s) (mapTy f t) ≡ addEqual ν b s t
  unfolding addEqual
  equal-map true s t = rw (ty_same ν μ f keeps s t)
  equal-map false s t = rw ((seen f s).fn-of, (seen f t).fn-of, counts-map f (fn_of s) (fn_of t), kinds-map f s t)

  dim-map : (b : Bool) (t : Ty N) → addDim μ b (mapTy f t) ≡ addDim ν b t
  unfolding addDim
  dim-map true t = rw ((seen f t).kind-map)
  dim-map false t = refl

  pub test-map : (c : Con N) → addTest μ (mapCon f c) ≡ addTest ν c
  unfolding addTest mapCon
  test-map (equal s t) = rw (closed-map f s, closed-map f t) (equal-map (closed s && closed t) s t)
  test-map (isDim t) = rw (closed-map f t) (dim-map (closed t) t)
  test-map (is_scalar []) = refl
  test-map (is_scalar (x ∷ p)) = rw (
    product-opens f (x ∷ p),
    variables-in f (collect openOfFactor (x ∷ p)),
    nil-map f (variablesIn (collect openOfFactor (x ∷ p))),
  )
  test-map (hasField n s t) = refl

  appended : (cs : List (Con N)) (c : Con N) → map (mapCon f) cs ++ mapCon f c ∷ [] ≡ map (mapCon f) (cs ++ c ∷ [])
  appended cs c = rw map-append

  stored-map : (a : Added) (cs : List (Con N)) (c : Con N) → Over (mapAdded f) (stored ν a cs c) (stored μ a (map (mapCon f) cs) (mapCon f c))
  unfolding stored
  stored-map satisfied cs c = gives refl
  stored-map violated cs c = rw (appended cs c, size-cons f (cs ++ c ∷ []))
      (within-over (mapAdded f) bounded (sum_of sizeCon (cs ++ c ∷ [])) 2048 (violated, cs ++ c ∷ []))
  stored-map unknown cs c = rw (appended cs c, size-cons f (cs ++ c ∷ []))
      (within-over (mapAdded f) bounded (sum_of sizeCon (cs ++ c ∷ [])) 2048 (unknown, cs ++ c ∷ []))

  pub add-map : (cs : List (Con N)) (c : Con N) → Over (mapAdded f) (add ν cs c) (add μ (map (mapCon f) cs) (mapCon f c))
  unfolding add
  add-map cs c = rw (test-map c) (stored-map (addTest ν c) cs c)
