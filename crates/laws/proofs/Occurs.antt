-- Which open names occur, at all or in dimension products, after a rule and after replacing one variable.
use Rattle.std.specs.Prelude.{◌≡◌, Bool, ◌&&◌, ◌⊎◌, ℕ}
use Rattle.std.proofs.Math.Path.{refl, ap, sym}
use Rattle.std.proofs.Common.{◌∙◌}
use Rattle.std.proofs.Math.Bool.{true, false}
use Rattle.std.proofs.Math.Option.{Option, none, some, get_or}
use Rattle.std.proofs.Math.Logic.{inl, inr}
use mathlib.Core.List.Memᴰ
use mathlib.Core.List.{List, [], ◌∷◌, ◌++◌, Memᴰ}
use Rattle.rules.specs.Base.{got, Limits, exact, each, collect, is_yes}
use Rattle.rules.specs.Exponents.{Exp, quotient, neg}
use Rattle.rules.specs.Trees.{
  Open,
  var,
  quant,
  par,
  Atom,
  free,
  base,
  Factor,
  ◌↑◌,
  Product,
  Names,
  Ty,
  opened,
  basic,
  dim,
  fn,
  struct,
  list,
  Tys,
  nil,
  cons,
  Fields,
  noFields,
  field,
  Con,
  equal,
  isDim,
  is_scalar,
  hasField,
  ◌≔◌,
  orderAtom,
  opens,
  opensTys,
  opensFields,
  openOfFactor,
  opensCon,
}
use Rattle.rules.specs.Views.{variable}
use Rattle.rules.specs.Contents.{fieldIn}
use Rattle.rules.specs.Products.{just, single, inverse, multiply, divide, raise}
use Rattle.rules.specs.Replacing.{Look, asProduct, replaceFactors, replaceProduct, replaceDim, replaceTy, replaceTys, replaceFields, replaceCon, find, bindings}
use Rattle.rules.specs.Rounds.{otherSide}
use Rattle.rules.specs.WellFormed.{goodProduct, goodTy, goodTys, goodFields, goodCon}
use Rattle.rules.specs.Meaning.{inProducts, inProductsTys, inProductsFields, productsOf}
use Rattle.laws.specs.Order.{Lawful, Tells}
use Rattle.laws.proofs.Sorted.{merge-each, raise-each, inverse-each}
use Rattle.laws.specs.ExactProducts.{mergeE, raiseE}
use Rattle.laws.proofs.ExactProducts.{merge-exact, raise-exact}
use Rattle.laws.specs.GoodProducts.{goodAtom}
use Rattle.laws.proofs.GoodProducts.{good-proper}
use Rattle.laws.specs.Lists.{and_left, and_right, All, all_nil, all_cons, in_head, Every}
use Rattle.laws.proofs.Lists.{all_append, append-parts, some≢none, got≢refused, yes-is, no-is, two_steps, one-step, each-parts, bound-step}
use Rattle.laws.proofs.RuleCases.{single-is}
use Rattle.laws.proofs.KeepsGood.{GoodTy, dimension-good}
use Rattle.laws.proofs.Evaluation.{valued, value_of, meantBy, orSelf, Fit, Fits, replace-exact}

-- ══ The atoms of products ══

module _ {N : Type 0} (P : Open N → Type 0) where
  -- P of a factor's open name, if it has one
  abbrev pub OnFactor : Factor N → Type 0
  OnFactor (free o ↑ e) = P o
  OnFactor (base n ↑ e) = Unit {0}

  pub each_opens : (p : Product N) → Every OnFactor p → All P (collect openOfFactor p)
  unfolding collect
  each_opens [] h = all_nil P
  each_opens (free o ↑ e ∷ p) h = all_cons P h.0 (each_opens p h.1)
  each_opens (base n ↑ e ∷ p) h = each_opens p h.1

  pub opens-each : (p : Product N) → All P (collect openOfFactor p) → Every OnFactor p
  unfolding collect
  opens-each [] h = tt
  opens-each (free o ↑ e ∷ p) h = (h o in_head, opens-each p (λ u m. h u (Memᴰ.tail m)))
  opens-each (base n ↑ e ∷ p) h = (tt, opens-each p h)

  same-atom : (a : Atom N) (e s : Exp) → OnFactor (a ↑ e) → OnFactor (a ↑ s)
  same-atom (free o) e s h = h
  same-atom (base n) e s h = tt

  module _ (ν : Names N) where
    pub merge_on : (p q : Product N) → Every OnFactor p → Every OnFactor q → Every OnFactor (mergeE ν p q)
    merge_on p q h k = (merge-each OnFactor ν exact (λ a b e d s x y i z. same-atom a e s x) p q h k).holds (mergeE ν p q) (merge-exact ν p q)

    pub raise-on : (p : Product N) (k : Exp) → Every OnFactor p → Every OnFactor (raiseE p k)
    raise-on p k h = (raise-each OnFactor ν exact k (λ a e s x i z. same-atom a e s x) p h).holds (raiseE p k) (raise-exact ν p k)

    pub inverse-on : (p : Product N) → Every OnFactor p → Every OnFactor (inverse p)
    inverse-on p h = inverse-each OnFactor (λ a e x. same-atom a e (neg e) x) p h

    -- a product that was put in has the atoms of what was put in
    pub valued-on : (v : Atom N → Product N) (p : Product N) → ((n : N) → Every OnFactor (v (base n)))
        → ((o : Open N) → Memᴰ o (collect openOfFactor p) → Every OnFactor (v (free o))) → Every OnFactor (valued ν v p)
    unfolding valued collect
    valued-on v [] b h = tt
    valued-on v (free o ↑ e ∷ p) b h = merge_on (raiseE (v (free o)) e) (valued ν v p) (raise-on (v (free o)) e (h o in_head))
        (valued-on v p b (λ u m. h u (Memᴰ.tail m)))
    valued-on v (base n ↑ e ∷ p) b h = merge_on (raiseE (v (base n)) e) (valued ν v p) (raise-on (v (base n)) e (b n)) (valued-on v p b h)

module _ {N : Type 0} where
  -- the other side of an equal-scalar has the same atoms
  pub other-opens : (l : Limits) (k : Exp) (p r : Product N) → each (otherSide l k) p ≡ got r → collect openOfFactor r ≡ collect openOfFactor p
  unfolding each collect otherSide
  other-opens l k [] r e = let z : [] ≡ r = cc in rw (sym z)
  other-opens l k (a ↑ j ∷ p) r e =
      let t = each-parts (otherSide l k) (a ↑ j) p r e in
      let o = one-step (quotient l (neg j) k) (λ s. a ↑ s) t.first t.gave in
      rw (sym t.both, sym o.is) (again a o.value t.second (other-opens l k p t.second t.then))
    where
      again : (a : Atom N) (s : Exp) (r' : Product N) → collect openOfFactor r' ≡ collect openOfFactor p
          → openOfFactor (a ↑ s) ++ collect openOfFactor r' ≡ openOfFactor (a ↑ j) ++ collect openOfFactor p
      again (free o) s r' i = ap (o ∷◌) i
      again (base n) s r' i = i

  -- a bound dimension, or a variable that counts as one
  pub as-product-is : (t : Ty N) (d : Product N) → asProduct t ≡ got d → (t ≡ dim d) ⊎ ((o : Open N) × (t ≡ opened o) × (d ≡ just o))
  unfolding asProduct
  as-product-is (opened (var x)) d e = inr (var x, refl, cc)
  as-product-is (opened (quant i)) d e = inr (quant i, refl, cc)
  as-product-is (opened (par x)) d e = absurd (got≢refused (sym e))
  as-product-is (basic b) d e = absurd (got≢refused (sym e))
  as-product-is (dim p) d e = inl (cc)
  as-product-is (fn ps r) d e = absurd (got≢refused (sym e))
  as-product-is (struct n as' fs) d e = absurd (got≢refused (sym e))
  as-product-is (list t) d e = absurd (got≢refused (sym e))

  -- what stands in a product occurs
  mutual
    unfolding inProducts opens

    pub products-occur : (t : Ty N) (o : Open N) → Memᴰ o (inProducts t) → Memᴰ o (opens t)
    products-occur (opened u) o m = absurd (Memᴰ.not-nil m)
    products-occur (basic b) o m = m
    products-occur (dim p) o m = m
    products-occur (fn ps r) o m = append-parts (inProductsTys ps) (opensTys ps) (inProducts r) (opens r) (λ i. products-occur-tys ps o i)
        (λ i. products-occur r o i) m
    products-occur (struct n as' fs) o m = append-parts (inProductsTys as') (opensTys as') (inProductsFields fs) (opensFields fs)
        (λ i. products-occur-tys as' o i) (λ i. products-occur-fields fs o i) m
    products-occur (list t) o m = products-occur t o m

    pub products-occur-tys : (ts : Tys N) (o : Open N) → Memᴰ o (inProductsTys ts) → Memᴰ o (opensTys ts)
    products-occur-tys nil o m = m
    products-occur-tys (cons t ts) o m = append-parts (inProducts t) (opens t) (inProductsTys ts) (opensTys ts) (λ i. products-occur t o i)
        (λ i. products-occur-tys ts o i) m

    pub products-occur-fields : (fs : Fields N) (o : Open N) → Memᴰ o (inProductsFields fs) → Memᴰ o (opensFields fs)
    products-occur-fields noFields o m = m
    products-occur-fields (field n t fs) o m = append-parts (inProducts t) (opens t) (inProductsFields fs) (opensFields fs)
        (λ i. products-occur t o i) (λ i. products-occur-fields fs o i) m

module _ {N : Type 0} (ν : Names N) where
  -- a field's open names occur in the struct
  pub field-occurs : (n : N) (fs : Fields N) (u : Ty N) → fieldIn ν n fs ≡ some u → (o : Open N) → Memᴰ o (opens u) → Memᴰ o (opensFields fs)
  unfolding fieldIn opens
  field-occurs n noFields u e o m = absurd (some≢none (sym e))
  field-occurs n (field k t fs) u e o m = go (is_yes (ν.same n k)) refl (λ i. field-occurs n fs u i o m)
    where
      go : (b : Bool) → is_yes (ν.same n k) ≡ b → (fieldIn ν n fs ≡ some u → Memᴰ o (opensFields fs)) → Memᴰ o (opens t ++ opensFields fs)
      go true i r = let z : some t ≡ some u = rw (i, fieldIn) at e in let y : t ≡ u = cc in Memᴰ.append_left (opensFields fs) (rw (sym y) at m)
      go false i r = Memᴰ.append_right (opens t) (r (rw (i, fieldIn) at e))

  -- one binding: a name is the bound variable, or it isn't bound
  pub one-bound : (x : N) (t : Ty N) (o : Open N)
      → ((o ≡ var x) × (bindings ν (x ≔ t ∷ []) o ≡ some t)) ⊎ ((o ≡ var x → ⊥) × (bindings ν (x ≔ t ∷ []) o ≡ none))
  unfolding bindings find
  one-bound x t (var y) = go (is_yes (ν.same y x)) refl
    where
      go : (b : Bool) → is_yes (ν.same y x) ≡ b
          → ((var y ≡ var x) × (bindings ν (x ≔ t ∷ []) (var y) ≡ some t)) ⊎ ((var y ≡ var x → ⊥) × (bindings ν (x ≔ t ∷ []) (var y) ≡ none))
      go true i = inl (ap var (yes-is (ν.same y x) i), rw (i, find))
      go false i = inr (λ e. no-is (ν.same y x) i (cc), rw (i, find))
  one-bound x t (quant i) = inr (λ e. some≢none (ap variable (sym e)), refl)
  one-bound x t (par y) = inr (λ e. some≢none (ap variable (sym e)), refl)

  pub bound-good : (P : Ty N → Type 0) (x : N) (t : Ty N) → P t → (o : Open N) (u : Ty N) → bindings ν (x ≔ t ∷ []) o ≡ some u → P u
  bound-good P x t h o u e = go (one-bound x t o)
    where
      go : ((o ≡ var x) × (bindings ν (x ≔ t ∷ []) o ≡ some t)) ⊎ ((o ≡ var x → ⊥) × (bindings ν (x ≔ t ∷ []) o ≡ none)) → P u
      go (inl i) = let z : some t ≡ some u = sym i.1 ∙ e in let y : t ≡ u = cc in rw (sym y) h
      go (inr i) = absurd (some≢none (sym e ∙ i.1))

module _ {N : Type 0} (ν : Names N) (law : Lawful (orderAtom ν)) (held : N → Bool) (q : ℕ) where
  -- where replacing a product gave a value, all that is bound in it is a dimension
  pub fits-got : (l : Limits) (look : Look N) → ((o : Open N) (t : Ty N) → look o ≡ some t → GoodTy ν law held q t) → (p acc r : Product N)
      → replaceFactors ν l look p acc ≡ got r → Fits ν (λ a. goodAtom ν held q a ≡ true) look p
  unfolding replaceFactors
  fits-got l look g [] acc r e = tt
  fits-got l look g (base n ↑ k ∷ p) acc r e = fits-got l look g p acc r e
  fits-got l look g (free o ↑ k ∷ p) acc r e = go (look o) refl (λ acc' i. fits-got l look g p acc' r i)
    where
      go : (t : Option (Ty N)) → look o ≡ t
          → ((acc' : Product N) → replaceFactors ν l look p acc' ≡ got r → Fits ν (λ a. goodAtom ν held q a ≡ true) look p)
          → Fit ν (λ a. goodAtom ν held q a ≡ true) look o × Fits ν (λ a. goodAtom ν held q a ≡ true) look p
      go none i f = (record { bound = λ t j. absurd (some≢none (sym j ∙ i)) }, f acc (rw (i, replaceFactors) at e))
      go (some t) i f =
          let a = bound-step (asProduct t) _ r (rw (i, replaceFactors) at e) in
          let b = bound-step (divide ν l acc (free o ↑ k ∷ [])) _ r a.2 in
          let c = bound-step (raise ν l a.0 k) _ r b.2 in
          let d = bound-step (multiply ν l b.0 c.0) _ r c.2 in (
            record {
              bound = λ u j. let z : some t ≡ some u = sym i ∙ j in let y : t ≡ u = cc
                  in rw (sym y) (record {
                    product = a.0;
                    is = a.1;
                    proper = good-proper ν law held q a.0 ((dimension-good ν law held q t (g o t i)).holds a.0 a.1);
                  });
            },
            f d.0 d.2,
          )

module _ {N : Type 0} (ν : Names N) (Held : Atom N → Type 0) (look : Look N) where
  pub fits-fit : (p : Product N) → Fits ν Held look p → (o : Open N) → Memᴰ o (collect openOfFactor p) → Fit ν Held look o
  unfolding collect
  fits-fit [] f o m = absurd (Memᴰ.not-nil m)
  fits-fit (base n ↑ e ∷ p) f o m = fits-fit p f o m
  fits-fit (free u ↑ e ∷ p) f o m = go (Memᴰ.cases_cons m) (λ i. fits-fit p f.1 o i)
    where
      go : (o ≡ u) ⊎ Memᴰ o (collect openOfFactor p) → (Memᴰ o (collect openOfFactor p) → Fit ν Held look o) → Fit ν Held look o
      go (inl i) r = rw i f.0
      go (inr i) r = r i

  pub fit-fits : (p : Product N) → All (Fit ν Held look) (collect openOfFactor p) → Fits ν Held look p
  unfolding collect
  fit-fits [] h = tt
  fit-fits (base n ↑ e ∷ p) h = fit-fits p h
  fit-fits (free o ↑ e ∷ p) h = (h o in_head, fit-fits p (λ u m. h u (Memᴰ.tail m)))

-- ══ Replacing one variable ══

module _ {N : Type 0} (ν : Names N) (law : Lawful (orderAtom ν)) (held : N → Bool) (q : ℕ)
    (tells : Tells (λ a. goodAtom ν held q a ≡ true) (orderAtom ν)) (x : N) (t : Ty N) (tg : GoodTy ν law held q t) where
  abbrev look : Look N
  look = bindings ν (x ≔ t ∷ [])

  pub one-fits : (p r : Product N) → replaceProduct ν exact look p ≡ got r → Fits ν (λ a. goodAtom ν held q a ≡ true) look p
  unfolding replaceProduct
  one-fits p r e = fits-got ν law held q exact look (bound-good ν (GoodTy ν law held q) x t tg) p p r e

  module _ (P : Open N → Type 0) where
    -- a product: what stays, and the names of what is put in
    product-on : (p r : Product N) → goodProduct ν held q p ≡ true → replaceProduct ν exact look p ≡ got r
        → All (λ o. (o ≡ var x → ⊥) → P o) (collect openOfFactor p)
        → ((d : Product N) → asProduct t ≡ got d → Memᴰ (var x) (collect openOfFactor p) → All P (collect openOfFactor d))
        → All P (collect openOfFactor r)
    unfolding value_of meantBy orSelf
    product-on p r g e h k =
        let f = one-fits p r e in
        let z : got (valued ν (value_of look) p) ≡ got r = sym (replace-exact ν law tells look p (good-proper ν law held q p g) f) ∙ e in
        let y : valued ν (value_of look) p ≡ r = cc in
        rw (sym y) (each_opens P (valued ν (value_of look) p)
        (valued-on P ν (value_of look) p (λ n. (tt, tt))
        (λ o m. value o m (one-bound ν x t o) (fits-fit ν (λ a. goodAtom ν held q a ≡ true) look p f o m))))
      where
        value : (o : Open N) → Memᴰ o (collect openOfFactor p) → ((o ≡ var x) × (look o ≡ some t)) ⊎ ((o ≡ var x → ⊥) × (look o ≡ none))
            → Fit ν (λ a. goodAtom ν held q a ≡ true) look o → Every (OnFactor P) (value_of look (free o))
        value o m (inl i) f =
            let d = f.bound t i.1 in
            rw (i.1, meantBy, d.is, orSelf) (opens-each P d.product (k d.product d.is (rw i.0 at m)))
        value o m (inr i) f = rw (i.1, meantBy) (h o m i.0, tt)

    -- what an open name becomes
    name-on : (o : Open N) (u u' : Ty N) → get_or (look o) u ≡ u' → (Q : Ty N → Type 0) → ((o ≡ var x → ⊥) → Q u) → Q t → Q u'
    name-on o u u' e Q h k = go (one-bound ν x t o)
      where
        go : ((o ≡ var x) × (look o ≡ some t)) ⊎ ((o ≡ var x → ⊥) × (look o ≡ none)) → Q u'
        go (inl i) = let z : t ≡ u' = rw i.1 at e in rw (sym z) k
        go (inr i) = let z : u ≡ u' = rw i.1 at e in rw (sym z) (h i.0)

    as-product-on : (d : Product N) → asProduct t ≡ got d → All P (opens t) → All P (collect openOfFactor d)
    unfolding opens collect
    as-product-on d e h = go (as-product-is t d e)
      where
        go : (t ≡ dim d) ⊎ ((o : Open N) × (t ≡ opened o) × (d ≡ just o)) → All P (collect openOfFactor d)
        go (inl i) = let g : All P (opens (dim d)) = rw i at h in g
        go (inr (o, i, j)) = let g : All P (opens (opened o)) = rw i at h in rw j g

    single-on : (p : Product N) (o : Open N) → single p ≡ some o → All (λ u. (u ≡ var x → ⊥) → P u) (collect openOfFactor p) → (o ≡ var x → ⊥)
        → All P (collect openOfFactor p)
    unfolding collect
    single-on p o e h n = let z : p ≡ just o = single-is p o e in rw z (all_cons P (h o (rw z in_head) n) (all_nil P))

    dim-on : (s : Option (Open N)) (p : Product N) (u' : Ty N) → single p ≡ s → goodProduct ν held q p ≡ true → replaceDim ν exact look s p ≡ got u'
        → All (λ o. (o ≡ var x → ⊥) → P o) (collect openOfFactor p) → All P (opens t) → All P (opens u')
    unfolding replaceDim opens
    dim-on (some o) p u' i g e h k = name-on o (dim p) u' (cc) (λ u. All P (opens u)) (single-on p o i h) k
    dim-on none p u' i g e h k =
        let r = one-step (replaceProduct ν exact look p) dim u' e in
        rw (sym r.is) (product-on p r.value g r.gave h (λ d j m. as-product-on d j k))

    abbrev Stays : List (Open N) → Type 0
    Stays os = All (λ o. (o ≡ var x → ⊥) → P o) os

    mutual
      unfolding replaceTy opens goodTy

      -- the open names of a replaced type
      pub ty-on : (u u' : Ty N) → goodTy ν held q u ≡ true → replaceTy ν exact look u ≡ got u' → Stays (opens u) → All P (opens t) → All P (opens u')
      ty-on (opened o) u' g e h k = name-on o (opened o) u' (cc) (λ u. All P (opens u)) (λ n. all_cons P (h o in_head n) (all_nil P)) k
      ty-on (basic b) u' g e h k = let z : basic b ≡ u' = cc in rw (sym z) (all_nil P)
      ty-on (dim p) u' g e h k = dim-on (single p) p u' refl g e h k
      ty-on (fn ps r) u' g e h k =
          let s = two_steps (replaceTys ν exact look ps) (λ _. replaceTy ν exact look r) fn u' e in
          rw (sym s.both) (all_append P (opensTys s.first)
          (tys-on ps s.first (and_left (goodTys ν held q ps) _ g) s.gave (λ o m. h o (Memᴰ.append_left (opens r) m)) k)
          (ty-on r s.second (and_right (goodTys ν held q ps) _ g) s.then (λ o m. h o (Memᴰ.append_right (opensTys ps) m)) k))
      ty-on (struct n as' fs) u' g e h k =
          let s = two_steps (replaceTys ν exact look as') (λ _. replaceFields ν exact look fs) (struct n) u' e in
          let ga = and_left (held n && goodTys ν held q as' && goodFields ν held q fs) _ g in
          rw (sym s.both) (all_append P (opensTys s.first)
          (tys-on as' s.first (and_right (held n) _ (and_left (held n && goodTys ν held q as') _ ga)) s.gave
          (λ o m. h o (Memᴰ.append_left (opensFields fs) m)) k)
          (fields-on fs s.second (and_right (held n && goodTys ν held q as') _ ga) s.then (λ o m. h o (Memᴰ.append_right (opensTys as') m)) k))
      ty-on (list u) u' g e h k = let s = one-step (replaceTy ν exact look u) list u' e in rw (sym s.is) (ty-on u s.value g s.gave h k)

      pub tys-on : (us us' : Tys N) → goodTys ν held q us ≡ true → replaceTys ν exact look us ≡ got us' → Stays (opensTys us) → All P (opens t)
          → All P (opensTys us')
      tys-on nil us' g e h k = let z : nil ≡ us' = cc in rw (sym z) (all_nil P)
      tys-on (cons u us) us' g e h k =
          let s = two_steps (replaceTy ν exact look u) (λ _. replaceTys ν exact look us) cons us' e in
          rw (sym s.both) (all_append P (opens s.first)
          (ty-on u s.first (and_left (goodTy ν held q u) _ g) s.gave (λ o m. h o (Memᴰ.append_left (opensTys us) m)) k)
          (tys-on us s.second (and_right (goodTy ν held q u) _ g) s.then (λ o m. h o (Memᴰ.append_right (opens u) m)) k))

      pub fields-on : (fs fs' : Fields N) → goodFields ν held q fs ≡ true → replaceFields ν exact look fs ≡ got fs' → Stays (opensFields fs)
          → All P (opens t) → All P (opensFields fs')
      fields-on noFields fs' g e h k = let z : noFields ≡ fs' = cc in rw (sym z) (all_nil P)
      fields-on (field n u fs) fs' g e h k =
          let s = two_steps (replaceTy ν exact look u) (λ _. replaceFields ν exact look fs) (field n) fs' e in
          rw (sym s.both) (all_append P (opens s.first)
          (ty-on u s.first (and_right (held n) _ (and_left (held n && goodTy ν held q u) _ g)) s.gave
          (λ o m. h o (Memᴰ.append_left (opensFields fs) m)) k)
          (fields-on fs s.second (and_right (held n && goodTy ν held q u) _ g) s.then (λ o m. h o (Memᴰ.append_right (opens u) m)) k))

    -- ══ in dimension products ══

    -- a bound variable counts as a product where the replaced one stands in one
    abbrev Enters : List (Open N) → Type 0
    Enters os = (o : Open N) → t ≡ opened o → Memᴰ (var x) os → P o

    scalar-in : (p r : Product N) → goodProduct ν held q p ≡ true → replaceProduct ν exact look p ≡ got r → Stays (collect openOfFactor p)
        → Enters (collect openOfFactor p) → All P (inProducts t) → All P (collect openOfFactor r)
    unfolding inProducts collect
    scalar-in p r g e h n k = product-on p r g e h (λ d j m. entered d (as-product-is t d j) m)
      where
        entered : (d : Product N) → (t ≡ dim d) ⊎ ((o : Open N) × (t ≡ opened o) × (d ≡ just o)) → Memᴰ (var x) (collect openOfFactor p)
            → All P (collect openOfFactor d)
        entered d (inl i) m = let y : All P (inProducts (dim d)) = rw i at k in y
        entered d (inr (o, i, j)) m = rw (j, collect) (all_cons P (n o i m) (all_nil P))

    dim-in : (s : Option (Open N)) (p : Product N) (u' : Ty N) → single p ≡ s → goodProduct ν held q p ≡ true → replaceDim ν exact look s p ≡ got u'
        → Stays (collect openOfFactor p) → Enters (collect openOfFactor p) → All P (inProducts t) → All P (inProducts u')
    unfolding replaceDim inProducts
    dim-in (some o) p u' i g e h n k = name-on o (dim p) u' (cc) (λ u. All P (inProducts u)) (single-on p o i h) k
    dim-in none p u' i g e h n k =
        let r = one-step (replaceProduct ν exact look p) dim u' e in
        rw (sym r.is) (scalar-in p r.value g r.gave h n k)

    mutual
      unfolding replaceTy inProducts goodTy

      pub ty-in : (u u' : Ty N) → goodTy ν held q u ≡ true → replaceTy ν exact look u ≡ got u' → Stays (inProducts u) → Enters (inProducts u)
          → All P (inProducts t) → All P (inProducts u')
      ty-in (opened o) u' g e h n k = name-on o (opened o) u' (cc) (λ u. All P (inProducts u)) (λ i. all_nil P) k
      ty-in (basic b) u' g e h n k = let z : basic b ≡ u' = cc in rw (sym z) (all_nil P)
      ty-in (dim p) u' g e h n k = dim-in (single p) p u' refl g e h n k
      ty-in (fn ps r) u' g e h n k =
          let s = two_steps (replaceTys ν exact look ps) (λ _. replaceTy ν exact look r) fn u' e in
          rw (sym s.both) (all_append P (inProductsTys s.first)
          (tys-in ps s.first (and_left (goodTys ν held q ps) _ g) s.gave (λ o m. h o (Memᴰ.append_left (inProducts r) m))
          (λ o i m. n o i (Memᴰ.append_left (inProducts r) m)) k)
          (ty-in r s.second (and_right (goodTys ν held q ps) _ g) s.then (λ o m. h o (Memᴰ.append_right (inProductsTys ps) m))
          (λ o i m. n o i (Memᴰ.append_right (inProductsTys ps) m)) k))
      ty-in (struct m as' fs) u' g e h n k =
          let s = two_steps (replaceTys ν exact look as') (λ _. replaceFields ν exact look fs) (struct m) u' e in
          let ga = and_left (held m && goodTys ν held q as' && goodFields ν held q fs) _ g in
          rw (sym s.both) (all_append P (inProductsTys s.first)
          (tys-in as' s.first (and_right (held m) _ (and_left (held m && goodTys ν held q as') _ ga)) s.gave
          (λ o i. h o (Memᴰ.append_left (inProductsFields fs) i)) (λ o i j. n o i (Memᴰ.append_left (inProductsFields fs) j)) k)
          (fields_in fs s.second (and_right (held m && goodTys ν held q as') _ ga) s.then (λ o i. h o (Memᴰ.append_right (inProductsTys as') i))
          (λ o i j. n o i (Memᴰ.append_right (inProductsTys as') j)) k))
      ty-in (list u) u' g e h n k = let s = one-step (replaceTy ν exact look u) list u' e in rw (sym s.is) (ty-in u s.value g s.gave h n k)

      pub tys-in : (us us' : Tys N) → goodTys ν held q us ≡ true → replaceTys ν exact look us ≡ got us' → Stays (inProductsTys us)
          → Enters (inProductsTys us) → All P (inProducts t) → All P (inProductsTys us')
      tys-in nil us' g e h n k = let z : nil ≡ us' = cc in rw (sym z) (all_nil P)
      tys-in (cons u us) us' g e h n k =
          let s = two_steps (replaceTy ν exact look u) (λ _. replaceTys ν exact look us) cons us' e in
          rw (sym s.both) (all_append P (inProducts s.first)
          (ty-in u s.first (and_left (goodTy ν held q u) _ g) s.gave (λ o m. h o (Memᴰ.append_left (inProductsTys us) m))
          (λ o i m. n o i (Memᴰ.append_left (inProductsTys us) m)) k)
          (tys-in us s.second (and_right (goodTy ν held q u) _ g) s.then (λ o m. h o (Memᴰ.append_right (inProducts u) m))
          (λ o i m. n o i (Memᴰ.append_right (inProducts u) m)) k))

      pub fields_in : (fs fs' : Fields N) → goodFields ν held q fs ≡ true → replaceFields ν exact look fs ≡ got fs' → Stays (inProductsFields fs)
          → Enters (inProductsFields fs) → All P (inProducts t) → All P (inProductsFields fs')
      fields_in noFields fs' g e h n k = let z : noFields ≡ fs' = cc in rw (sym z) (all_nil P)
      fields_in (field m u fs) fs' g e h n k =
          let s = two_steps (replaceTy ν exact look u) (λ _. replaceFields ν exact look fs) (field m) fs' e in
          rw (sym s.both) (all_append P (inProducts s.first)
          (ty-in u s.first (and_right (held m) _ (and_left (held m && goodTy ν held q u) _ g)) s.gave
          (λ o i. h o (Memᴰ.append_left (inProductsFields fs) i)) (λ o i j. n o i (Memᴰ.append_left (inProductsFields fs) j)) k)
          (fields_in fs s.second (and_right (held m && goodTy ν held q u) _ g) s.then (λ o i. h o (Memᴰ.append_right (inProducts u) i))
          (λ o i j. n o i (Memᴰ.append_right (inProducts u) j)) k))

    -- ══ in constraints ══

    pub con-on : (c c' : Con N) → goodCon ν held q c ≡ true → replaceCon ν exact look c ≡ got c' → Stays (opensCon c) → All P (opens t) → All P (opensCon c')
    unfolding replaceCon opensCon goodCon opens
    con-on (equal u w) c' g e h k =
        let s = two_steps (replaceTy ν exact look u) (λ _. replaceTy ν exact look w) equal c' e in
        rw (sym s.both) (all_append P (opens s.first)
        (ty-on u s.first (and_left (goodTy ν held q u) _ g) s.gave (λ o m. h o (Memᴰ.append_left (opens w) m)) k)
        (ty-on w s.second (and_right (goodTy ν held q u) _ g) s.then (λ o m. h o (Memᴰ.append_right (opens u) m)) k))
    con-on (isDim u) c' g e h k = let s = one-step (replaceTy ν exact look u) isDim c' e in rw (sym s.is) (ty-on u s.value g s.gave h k)
    con-on (is_scalar p) c' g e h k = let s = one-step (replaceProduct ν exact look p) is_scalar c' e
        in rw (sym s.is) (product-on p s.value g s.gave h (λ d j m. as-product-on d j k))
    con-on (hasField n u w) c' g e h k =
        let s = two_steps (replaceTy ν exact look u) (λ _. replaceTy ν exact look w) (hasField n) c' e in
        rw (sym s.both) (all_append P (opens s.first)
        (ty-on u s.first (and_right (held n) _ (and_left (held n && goodTy ν held q u) _ g)) s.gave (λ o m. h o (Memᴰ.append_left (opens w) m))
        k) (ty-on w s.second (and_right (held n && goodTy ν held q u) _ g) s.then (λ o m. h o (Memᴰ.append_right (opens u) m)) k))

    pub con-in : (c c' : Con N) → goodCon ν held q c ≡ true → replaceCon ν exact look c ≡ got c' → Stays (productsOf c) → Enters (productsOf c)
        → All P (inProducts t) → All P (productsOf c')
    unfolding replaceCon productsOf goodCon inProducts
    con-in (equal u w) c' g e h n k =
        let s = two_steps (replaceTy ν exact look u) (λ _. replaceTy ν exact look w) equal c' e in
        rw (sym s.both) (all_append P (inProducts s.first)
        (ty-in u s.first (and_left (goodTy ν held q u) _ g) s.gave (λ o m. h o (Memᴰ.append_left (inProducts w) m))
        (λ o i m. n o i (Memᴰ.append_left (inProducts w) m)) k)
        (ty-in w s.second (and_right (goodTy ν held q u) _ g) s.then (λ o m. h o (Memᴰ.append_right (inProducts u) m))
        (λ o i m. n o i (Memᴰ.append_right (inProducts u) m)) k))
    con-in (isDim u) c' g e h n k = let s = one-step (replaceTy ν exact look u) isDim c' e in rw (sym s.is) (ty-in u s.value g s.gave h n k)
    con-in (is_scalar p) c' g e h n k = let s = one-step (replaceProduct ν exact look p) is_scalar c' e in rw (sym s.is) (scalar-in p s.value g s.gave h n k)
    con-in (hasField m u w) c' g e h n k =
        let s = two_steps (replaceTy ν exact look u) (λ _. replaceTy ν exact look w) (hasField m) c' e in
        rw (sym s.both) (all_append P (inProducts s.first)
        (ty-in u s.first (and_right (held m) _ (and_left (held m && goodTy ν held q u) _ g)) s.gave (λ o i. h o (Memᴰ.append_left (inProducts w) i))
        (λ o i j. n o i (Memᴰ.append_left (inProducts w) j)) k)
        (ty-in w s.second (and_right (held m && goodTy ν held q u) _ g) s.then (λ o i. h o (Memᴰ.append_right (inProducts u) i))
        (λ o i j. n o i (Memᴰ.append_right (inProducts u) j)) k))
