-- Well formed trees with other names in them, where the same names are held.
use Rattle.std.specs.Prelude.{◌≡◌, Bool, List, [], ◌∷◌, map}
use Rattle.std.proofs.Math.Path.{refl}
use Prim.Native.Nat.{ℕ, Ordering}
use Rattle.std.proofs.lemmas.List.{length-map}
use Rattle.rules.specs.Trees.{Open, var, quant, par, free, base, Factor, ◌↑◌, Product, Names, Ty, opened, basic, dim, fn}
use Rattle.rules.specs.Trees.{struct, list, Tys, nil, cons, Fields, noFields, field, Con, equal, isDim, is_scalar, hasField, Binding, ◌≔◌, orderAtom}
use Rattle.rules.specs.WellFormed.{rising, atomOf, fieldNames, goodOpen, goodFactor, goodProduct, goodTy, goodTys, goodFields, goodCon, goodBinding}
use Rattle.rules.specs.Offices.{Keeps, mapOpen, mapAtom, mapFactor, mapTy, map_tys, mapFields, mapCon, mapBinding}
use Rattle.theorems_offices.proofs.Products.{order-atom}
use Rattle.theorems_offices.proofs.Contents.{all_map}

pub rising-map : {A B : Type 0} (g : A → B) (o : A → A → Ordering) (o' : B → B → Ordering) → ((a b : A) → o' (g a) (g b) ≡ o a b) → (xs : List A)
    → rising o' (map g xs) ≡ rising o xs
unfolding rising
rising-map g o o' h [] = refl
rising-map g o o' h (x ∷ []) = refl
rising-map g o o' h (x ∷ y ∷ ys) = rw (h x y, rising-map g o o' h (y ∷ ys))

module _ {N M : Type 0} (f : N → M) where
  atoms-map : (p : Product N) → map atomOf (map (mapFactor f) p) ≡ map (mapAtom f) (map atomOf p)
  atoms-map [] = refl
  atoms-map (a ↑ e ∷ p) = rw (atoms-map p)

  field-names : (fs : Fields N) → fieldNames (mapFields f fs) ≡ map f (fieldNames fs)
  unfolding mapTy
  field-names noFields = refl
  field-names (field n t fs) = rw (field-names fs)

module _ {N M : Type 0} (ν : Names N) (μ : Names M) (f : N → M) (keeps : Keeps ν μ f) (held : N → Bool) (held' : M → Bool)
    (holds : (a : N) → held' (f a) ≡ held a) (q : ℕ) where
  pub good-open : (o : Open N) → goodOpen μ held' q (mapOpen f o) ≡ goodOpen ν held q o
  unfolding goodOpen
  good-open (var x) = holds x
  good-open (quant i) = refl
  good-open (par x) = holds x

  good-factor : (x : Factor N) → goodFactor μ held' q (mapFactor f x) ≡ goodFactor ν held q x
  unfolding goodFactor
  good-factor (free o ↑ e) = rw (good-open o)
  good-factor (base n ↑ e) = rw (holds n)

  pub good-product : (p : Product N) → goodProduct μ held' q (map (mapFactor f) p) ≡ goodProduct ν held q p
  unfolding goodProduct
  good-product p = rw (
    all_map (mapFactor f) (goodFactor ν held q) (goodFactor μ held' q) good-factor p,
    atoms-map f p,
    rising-map (mapAtom f) (orderAtom ν) (orderAtom μ) (order-atom ν μ f keeps) (map atomOf p),
    length-map,
  )

  mutual
    unfolding goodTy mapTy

    pub good-ty : (t : Ty N) → goodTy μ held' q (mapTy f t) ≡ goodTy ν held q t
    good-ty (opened o) = good-open o
    good-ty (basic b) = refl
    good-ty (dim p) = good-product p
    good-ty (fn ps r) = rw (good-tys ps, good-ty r)
    good-ty (struct n as' fs) = rw (holds n, good-tys as', good-fields fs, field-names f fs, rising-map f ν.order μ.order keeps.ordered (fieldNames fs))
    good-ty (list t) = good-ty t

    good-tys : (ts : Tys N) → goodTys μ held' q (map_tys f ts) ≡ goodTys ν held q ts
    good-tys nil = refl
    good-tys (cons t ts) = rw (good-ty t, good-tys ts)

    good-fields : (fs : Fields N) → goodFields μ held' q (mapFields f fs) ≡ goodFields ν held q fs
    good-fields noFields = refl
    good-fields (field n t fs) = rw (holds n, good-ty t, good-fields fs)

  pub good-con : (c : Con N) → goodCon μ held' q (mapCon f c) ≡ goodCon ν held q c
  unfolding goodCon mapCon
  good-con (equal s t) = rw (good-ty s, good-ty t)
  good-con (isDim t) = good-ty t
  good-con (is_scalar p) = good-product p
  good-con (hasField n s t) = rw (holds n, good-ty s, good-ty t)

  pub good-binding : (b : Binding N) → goodBinding μ held' q (mapBinding f b) ≡ goodBinding ν held q b
  unfolding goodBinding mapBinding
  good-binding (x ≔ t) = rw (holds x, good-ty t)
