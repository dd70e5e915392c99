-- What is asked of names, open names and trees: the same answer with other names in them.
use Rattle.std.specs.Prelude.{◌≡◌, Bool}
use Rattle.std.proofs.Math.Path.{refl}
use Rattle.std.proofs.Common.{ap, sym, ◌∙◌}
use Rattle.std.proofs.Math.Bool.{true, false, not}
use mathlib.Core.List.{List, [], ◌∷◌, map}
use Prim.Native.Nat.{Ordering}
use Rattle.rules.specs.Base.{is_yes, any, all, keep, to_list, isNil}
use Rattle.rules.specs.Trees.{
  Open,
  var,
  quant,
  par,
  free,
  base,
  Factor,
  ◌↑◌,
  Product,
  Names,
  Ty,
  opened,
  basic,
  dim,
  fn,
  struct,
  list,
  Tys,
  nil,
  cons,
  Fields,
  noFields,
  field,
  open-dec,
  ty-dec,
  opens,
}
use Rattle.rules.specs.Views.{variable, parameter, name_of}
use Rattle.rules.specs.Contents.{closed, variablesIn, parametersIn, namesIn, among, contains, containsName, fieldIn, sorted, sort, variables, unmixed}
use Rattle.rules.specs.Offices.{Keeps, mapOpen, mapFactor, mapTy, map_tys, mapFields, mapOption}
use Rattle.laws.proofs.Lists.{is-no, is-yes}
use Rattle.theorems_offices.proofs.Over.{collect-over}
use Rattle.theorems_offices.proofs.Sizes.{opens-map}

-- ══ There and back ══

module _ {N M : Type 0} (f : N → M) (g : M → N) (returns : (a : N) → g (f a) ≡ a) where
  pub open-back : (o : Open N) → mapOpen g (mapOpen f o) ≡ o
  open-back (var x) = rw (returns x)
  open-back (quant i) = refl
  open-back (par x) = rw (returns x)

  factor-back : (x : Factor N) → mapFactor g (mapFactor f x) ≡ x
  factor-back (free o ↑ e) = rw (open-back o)
  factor-back (base n ↑ e) = rw (returns n)

  product-back : (p : Product N) → map (mapFactor g) (map (mapFactor f) p) ≡ p
  product-back [] = refl
  product-back (x ∷ p) = rw (factor-back x, product-back p)

  mutual
    unfolding mapTy

    pub ty-back : (t : Ty N) → mapTy g (mapTy f t) ≡ t
    ty-back (opened o) = rw (open-back o)
    ty-back (basic b) = refl
    ty-back (dim p) = rw (product-back p)
    ty-back (fn ps r) = rw (tys-back ps, ty-back r)
    ty-back (struct n as' fs) = rw (returns n, tys-back as', fields_back fs)
    ty-back (list t) = rw (ty-back t)

    tys-back : (ts : Tys N) → map_tys g (map_tys f ts) ≡ ts
    tys-back nil = refl
    tys-back (cons t ts) = rw (ty-back t, tys-back ts)

    fields_back : (fs : Fields N) → mapFields g (mapFields f fs) ≡ fs
    fields_back noFields = refl
    fields_back (field n t fs) = rw (returns n, ty-back t, fields_back fs)

-- what can be had back is told apart as before
dec-map : {A B : Type 0} (g : A → B) (h : B → A) → ((a : A) → h (g a) ≡ a) → (d : Discrete A) (e : Discrete B) (a b : A)
    → is_yes (e (g a) (g b)) ≡ is_yes (d a b)
dec-map g h r d e a b = go (d a b) refl
  where
    go : (x : Dec (a ≡ b)) → d a b ≡ x → is_yes (e (g a) (g b)) ≡ is_yes (d a b)
    go (yes p) i = rw i (is-yes (e (g a) (g b)) (ap g p))
    go (no n) i = rw i (is-no (e (g a) (g b)) (λ q. n (sym (r a) ∙ ap h q ∙ r b)))

-- ══ Lists ══

module _ {A B : Type 0} (g : A → B) where
  pub any-map : (p : A → Bool) (q : B → Bool) → ((a : A) → q (g a) ≡ p a) → (xs : List A) → any q (map g xs) ≡ any p xs
  unfolding any
  any-map p q h [] = refl
  any-map p q h (x ∷ xs) = rw (h x, any-map p q h xs)

  pub all_map : (p : A → Bool) (q : B → Bool) → ((a : A) → q (g a) ≡ p a) → (xs : List A) → all q (map g xs) ≡ all p xs
  unfolding all
  all_map p q h [] = refl
  all_map p q h (x ∷ xs) = rw (h x, all_map p q h xs)

  pub keep-map : (p : A → Bool) (q : B → Bool) → ((a : A) → q (g a) ≡ p a) → (xs : List A) → keep q (map g xs) ≡ map g (keep p xs)
  unfolding keep
  keep-map p q h [] = refl
  keep-map p q h (x ∷ xs) = go (p x) refl (h x) (keep-map p q h xs)
    where
      go : (b : Bool) → p x ≡ b → q (g x) ≡ p x → keep q (map g xs) ≡ map g (keep p xs) → keep q (g x ∷ map g xs) ≡ map g (keep p (x ∷ xs))
      go true e r k = rw (keep, r, e, k)
      go false e r k = rw (keep, r, e, k)

  pub nil-map : (xs : List A) → isNil (map g xs) ≡ isNil xs
  nil-map [] = refl
  nil-map (x ∷ xs) = refl

-- ══ Names ══

module _ {N M : Type 0} (f : N → M) where
  variable-map : (o : Open N) → to_list (variable (mapOpen f o)) ≡ map f (to_list (variable o))
  variable-map (var x) = refl
  variable-map (quant i) = refl
  variable-map (par x) = refl

  parameter-map : (o : Open N) → to_list (parameter (mapOpen f o)) ≡ map f (to_list (parameter o))
  parameter-map (var x) = refl
  parameter-map (quant i) = refl
  parameter-map (par x) = refl

  pub name-map : (o : Open N) → to_list (name_of (mapOpen f o)) ≡ map f (to_list (name_of o))
  name-map (var x) = refl
  name-map (quant i) = refl
  name-map (par x) = refl

  pub variables-in : (os : List (Open N)) → variablesIn (map (mapOpen f) os) ≡ map f (variablesIn os)
  unfolding variablesIn
  variables-in os = collect-over (mapOpen f) f (λ o. to_list (variable o)) (λ o. to_list (variable o)) variable-map os

  pub parameters-in : (os : List (Open N)) → parametersIn (map (mapOpen f) os) ≡ map f (parametersIn os)
  unfolding parametersIn
  parameters-in os = collect-over (mapOpen f) f (λ o. to_list (parameter o)) (λ o. to_list (parameter o)) parameter-map os

  pub names_in : (os : List (Open N)) → namesIn (map (mapOpen f) os) ≡ map f (namesIn os)
  unfolding namesIn
  names_in os = collect-over (mapOpen f) f (λ o. to_list (name_of o)) (λ o. to_list (name_of o)) name-map os

  pub closed-map : (t : Ty N) → closed (mapTy f t) ≡ closed t
  unfolding closed
  closed-map t = rw (opens-map f t, nil-map (mapOpen f))

module _ {N M : Type 0} (ν : Names N) (μ : Names M) (f : N → M) (keeps : Keeps ν μ f) where
  pub same_map : (a b : N) → is_yes (μ.same (f a) (f b)) ≡ is_yes (ν.same a b)
  same_map a b = dec-map f keeps.back keeps.returns ν.same μ.same a b

  pub open-same : (o u : Open N) → is_yes (open-dec μ (mapOpen f o) (mapOpen f u)) ≡ is_yes (open-dec ν o u)
  open-same o u = dec-map (mapOpen f) (mapOpen keeps.back) (open-back f keeps.back keeps.returns) (open-dec ν) (open-dec μ) o u

  pub ty_same : (s t : Ty N) → is_yes (ty-dec μ (mapTy f s) (mapTy f t)) ≡ is_yes (ty-dec ν s t)
  ty_same s t = dec-map (mapTy f) (mapTy keeps.back) (ty-back f keeps.back keeps.returns) (ty-dec ν) (ty-dec μ) s t

  pub among-map : (x : N) (xs : List N) → among μ (f x) (map f xs) ≡ among ν x xs
  unfolding among
  among-map x xs = any-map f (λ y. is_yes (ν.same x y)) (λ y. is_yes (μ.same (f x) y)) (same_map x) xs

  pub contains-map : (x : N) (t : Ty N) → contains μ (f x) (mapTy f t) ≡ contains ν x t
  unfolding contains
  contains-map x t = rw (opens-map f t) (any-map (mapOpen f) (λ o. is_yes (open-dec ν (var x) o)) (λ o. is_yes (open-dec μ (var (f x)) o))
      (open-same (var x)) (opens t))

  pub contains-name : (b : Bool) (x : N) (t : Ty N) → containsName μ b (f x) (mapTy f t) ≡ containsName ν b x t
  unfolding containsName
  contains-name true x t = rw (opens-map f t, names_in f (opens t)) (among-map x (namesIn (opens t)))
  contains-name false x t = contains-map x t

  pub field_in : (x : N) (fs : Fields N) → fieldIn μ (f x) (mapFields f fs) ≡ mapOption (mapTy f) (fieldIn ν x fs)
  unfolding fieldIn mapTy
  field_in x noFields = refl
  field_in x (field n t fs) = go (is_yes (ν.same x n)) refl (same_map x n) (field_in x fs)
    where
      go : (b : Bool) → is_yes (ν.same x n) ≡ b → is_yes (μ.same (f x) (f n)) ≡ is_yes (ν.same x n)
          → fieldIn μ (f x) (mapFields f fs) ≡ mapOption (mapTy f) (fieldIn ν x fs)
          → fieldIn μ (f x) (field (f n) (mapTy f t) (mapFields f fs)) ≡ mapOption (mapTy f) (fieldIn ν x (field n t fs))
      go true e r k = rw (fieldIn, r, e)
      go false e r k = rw (fieldIn, r, e, k)

  sorted-map : (x : N) (xs : List N) → sorted μ (f x) (map f xs) ≡ map f (sorted ν x xs)
  unfolding sorted
  sorted-map x [] = refl
  sorted-map x (y ∷ ys) = go (ν.order x y) refl (keeps.ordered x y) (sorted-map x ys)
    where
      go : (o : Ordering) → ν.order x y ≡ o → μ.order (f x) (f y) ≡ ν.order x y → sorted μ (f x) (map f ys) ≡ map f (sorted ν x ys)
          → sorted μ (f x) (f y ∷ map f ys) ≡ map f (sorted ν x (y ∷ ys))
      go Ordering.lt e r k = rw (sorted, r, e)
      go Ordering.eq e r k = rw (sorted, r, e)
      go Ordering.gt e r k = rw (sorted, r, e, k)

  pub sort-map : (xs : List N) → sort μ (map f xs) ≡ map f (sort ν xs)
  unfolding sort
  sort-map [] = refl
  sort-map (x ∷ xs) = rw (sort-map xs) (sorted-map x (sort ν xs))

  pub variables-map : (b : Bool) (t : Ty N) → variables μ b (mapTy f t) ≡ map f (variables ν b t)
  unfolding variables
  variables-map true t = rw (opens-map f t, names_in f (opens t)) (sort-map (namesIn (opens t)))
  variables-map false t = rw (opens-map f t, variables-in f (opens t)) (sort-map (variablesIn (opens t)))

  pub unmixed-map : (os : List (Open N)) → unmixed μ (map (mapOpen f) os) ≡ unmixed ν os
  unfolding unmixed
  unmixed-map os = rw (variables-in f os, parameters-in f os)
      (all_map f (λ x. not (among ν x (parametersIn os))) (λ x. not (among μ x (map f (parametersIn os)))) (λ x. rw (among-map x (parametersIn os)))
      (variablesIn os))
