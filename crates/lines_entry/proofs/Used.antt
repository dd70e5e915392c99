-- What follows from the definitions of specs/Used: the names that a line uses, found in its records one by one.
use Rattle.std.specs.Prelude.{◌≡◌, Bool, true, false, ◌||◌, eqb, length, get_or, map, drop}
use Rattle.std.proofs.Math.Path.{refl, ap}
use Rattle.std.proofs.Common.{sym, ap₂, ◌∙◌, add-zero}
use mathlib.Core.List.{List, [], ◌∷◌, ◌++◌, append_assoc}
use Prim.Native.Nat.{ℕ, zero, suc, ◌+◌, ◌-◌, ◌<◌, ◌≤◌}
use native.Mathlib.Omega.{arith}
use borrow.Author.Tests.{eq-eqb, ne_eqb}
use Rattle.rules.specs.Base.{any, all, collect, to_list}
use Rattle.rules.specs.Exponents.{frac}
use Rattle.rules.specs.Trees as tree
use Rattle.rules.specs.Trees.{◌↑◌, Product, Ty, opened, basic, dim, fn, struct, list, Tys, nil, cons, Fields, noFields, field, size, sizeTys, sizeFields}
use Rattle.rules.specs.Views.{name_of}
use Rattle.rules.specs.Calls.{differ}
use Rattle.laws.proofs.Contents.{any_append}
use Rattle.records.specs.Views.{viewAt}
use Rattle.records.specs.Holds.{Shows, HoldsFactors, HoldsProduct, Holds, HoldsTys, HoldsFields}
use Rattle.records.specs.ByView.{open-back}
use Rattle.records.specs.declared.View.{View}
use Rattle.std.proofs.lemmas.List.{append-nil, drop_all, drop_more}
use Rattle.rules.specs.Lines.{namesOfFactor, namesOfTy, namesOfTys, namesOfFields}
use Rattle.lines_entry.specs.Used.{namesView, namesFrom, namesIn}

module _ (s : List ℕ) where
  pub names-none : (i e : ℕ) → e ≤ i → namesIn s i e ≡ []
  unfolding namesFrom
  names-none i e h = let z : e - i ≡ 0 = omega arith in rw z

  names-step : (i e : ℕ) → i < e → namesIn s i e ≡ namesView (viewAt s i) ++ namesIn s (i + 1) e
  unfolding namesFrom
  names-step i e h = let z : e - i ≡ suc (e - (i + 1)) = omega arith in rw z

  any_step : (i e : ℕ) → i < e → (p : ℕ → Bool) → any p (namesIn s i e) ≡ (any p (namesView (viewAt s i)) || any p (namesIn s (i + 1) e))
  any_step i e h p = ap (any p) (names-step i e h) ∙ any_append p (namesView (viewAt s i)) (namesIn s (i + 1) e)

  pub any-hit : (i e : ℕ) → i < e → (p : ℕ → Bool) → any p (namesView (viewAt s i)) ≡ true → any p (namesIn s i e) ≡ true
  any-hit i e h p q = any_step i e h p ∙ ap (◌|| any p (namesIn s (i + 1) e)) q

  pub any-miss : (i e : ℕ) → i < e → (p : ℕ → Bool) → any p (namesView (viewAt s i)) ≡ false → any p (namesIn s i e) ≡ any p (namesIn s (i + 1) e)
  any-miss i e h p q = any_step i e h p ∙ ap (◌|| any p (namesIn s (i + 1) e)) q

  names-join : (n m at : ℕ) → namesFrom s (n + m) at ≡ namesFrom s n at ++ namesFrom s m (at + n)
  unfolding namesFrom
  names-join zero m at = let z : 0 + m ≡ m = omega arith in rw (add-zero at, z)
  names-join (suc n) m at =
      let z : suc n + m ≡ suc (n + m) = omega arith in
      let q : at + 1 + n ≡ at + suc n = omega arith in
      rw (z, names-join n m (at + 1), q) (sym (append_assoc (namesView (viewAt s at)) _ _))

  -- ══ Of a tree that is held ══

  one : (at n : ℕ) {v : View} → Shows s at v → namesFrom s (suc n) at ≡ namesView v ++ namesFrom s n (at + 1)
  unfolding namesFrom
  one at n e = rw e

  two : {xs ys : List ℕ} (at n m : ℕ) → namesFrom s n at ≡ xs → namesFrom s m (at + n) ≡ ys → namesFrom s (n + m) at ≡ xs ++ ys
  two at n m p q = names-join n m at ∙ ap₂ ◌++◌ p q

  factors-names : (p : Product ℕ) (at : ℕ) → HoldsFactors s p at → namesFrom s (length p) at ≡ collect namesOfFactor p
  unfolding HoldsFactors namesFrom collect
  factors-names [] at h = refl
  factors-names (tree.free o ↑ frac n d ∷ p) at h = one at (length p) h.0.0 ∙ rw (open-back o, factors-names p (at + 1) h.1)
  factors-names (tree.base x ↑ frac n d ∷ p) at h = one at (length p) h.0.0 ∙ ap (x ∷◌) (factors-names p (at + 1) h.1)

  mutual
    unfolding Holds HoldsProduct size namesOfTy namesFrom

    ty-names : (t : Ty ℕ) (at : ℕ) → Holds s t at → namesFrom s (size t) at ≡ namesOfTy t
    ty-names (opened o) at h = one at 0 h.0 ∙ rw (open-back o) (append-nil (to_list (name_of o)))
    ty-names (basic b) at h = one at 0 h.0
    ty-names (dim p) at h = one at (length p) h.0 ∙ factors-names p (at + 1) h.1
    ty-names (fn ps r) at h = one at (sizeTys ps + size r) h.0
        ∙ two (at + 1) (sizeTys ps) (size r) (tys-names ps (at + 1) h.1) (ty-names r (at + 1 + sizeTys ps) h.2)
    ty-names (struct n as' fs) at h =
        one at (sizeTys as' + sizeFields fs) h.0
        ∙ ap (n ∷◌) (two (at + 1) (sizeTys as') (sizeFields fs) (tys-names as' (at + 1) h.1) (fields-names fs (at + 1 + sizeTys as') h.2))
    ty-names (list t) at h = one at (size t) h.0 ∙ ty-names t (at + 1) h.1

    tys-names : (ts : Tys ℕ) (at : ℕ) → HoldsTys s ts at → namesFrom s (sizeTys ts) at ≡ namesOfTys ts
    tys-names nil at h = refl
    tys-names (cons t ts) at h = two at (size t) (sizeTys ts) (ty-names t at h.0) (tys-names ts (at + size t) h.1)

    fields-names : (fs : Fields ℕ) (at : ℕ) → HoldsFields s fs at → namesFrom s (sizeFields fs) at ≡ namesOfFields fs
    fields-names noFields at h = refl
    fields-names (field n t fs) at h =
        one at (size t + sizeFields fs) h.0
        ∙ ap (n ∷◌) (two (at + 1) (size t) (sizeFields fs) (ty-names t (at + 1) h.1) (fields-names fs (at + 1 + size t) h.2))

  -- the names of a type that is held from b up to e
  pub type-names : (t : Ty ℕ) (b e : ℕ) → Holds s t b → e ≡ b + size t → namesIn s b e ≡ namesOfTy t
  type-names t b e h q = let z : e - b ≡ size t = omega arith in rw z (ty-names t b h)

-- ══ Lists from a place on ══

module _ (xs : List ℕ) (i : ℕ) where
  module _ (h : i < length xs) where
    here : drop i xs ≡ get_or xs i 0 ∷ drop (i + 1) xs
    here = drop_more xs i 0 h

    pub among-hit : (x : ℕ) → x ≡ get_or xs i 0 → true ≡ any (eqb x) (drop i xs)
    unfolding any
    among-hit x e = rw (here, eq-eqb x (get_or xs i 0) e)

    pub among-miss : (x : ℕ) → (x ≡ get_or xs i 0 → ⊥) → any (eqb x) (drop (i + 1) xs) ≡ any (eqb x) (drop i xs)
    unfolding any
    among-miss x f = rw (here, ne_eqb x (get_or xs i 0) f)

    pub differ-hit : any (eqb (get_or xs i 0)) (drop (i + 1) xs) ≡ true → false ≡ differ (drop i xs)
    unfolding differ
    differ-hit e = rw (here, e)

    pub differ-miss : any (eqb (get_or xs i 0)) (drop (i + 1) xs) ≡ false → differ (drop (i + 1) xs) ≡ differ (drop i xs)
    unfolding differ
    differ-miss e = rw (here, e)

    pub all-hit : (p : ℕ → Bool) → p (get_or xs i 0) ≡ true → all p (drop (i + 1) xs) ≡ all p (drop i xs)
    unfolding all
    all-hit p e = rw (here, e)

    pub all-miss : (p : ℕ → Bool) → p (get_or xs i 0) ≡ false → false ≡ all p (drop i xs)
    unfolding all
    all-miss p e = rw (here, e)

-- ══ The names of steps ══

module _ {A B : Type 0} (f : B → List ℕ) (g : A → B) (x : ℕ) (xs : List A) (i : ℕ) where
  abbrev used : ℕ → Bool
  used j = any (eqb x) (collect f (map g (drop j xs)))

  module _ (d : A) (h : i < length xs) where
    used_step : used i ≡ (any (eqb x) (f (g (get_or xs i d))) || used (i + 1))
    unfolding collect
    used_step = ap (λ (ys : List A). any (eqb x) (collect f (map g ys))) (drop_more xs i d h)
        ∙ any_append (eqb x) (f (g (get_or xs i d))) (collect f (map g (drop (i + 1) xs)))

    pub used-hit : any (eqb x) (f (g (get_or xs i d))) ≡ true → true ≡ used i
    used-hit e = sym (used_step ∙ ap (◌|| used (i + 1)) e)

    pub used-miss : any (eqb x) (f (g (get_or xs i d))) ≡ false → used (i + 1) ≡ used i
    used-miss e = sym (used_step ∙ ap (◌|| used (i + 1)) e)

  pub used-none : length xs ≤ i → false ≡ used i
  unfolding collect any
  used-none h = rw (drop_all i xs h)
