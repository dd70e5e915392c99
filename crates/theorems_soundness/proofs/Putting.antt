-- Putting all bindings in at once: it gives a value where what stands in products is bound to dimensions, and it doesn't see
-- whether a variable was replaced first by a type that is worth the same.
use Rattle.std.specs.Prelude.{◌≡◌, Bool, ◌&&◌, ◌⊎◌, ℕ}
use Rattle.std.proofs.Math.Path.{refl, ap, ap₂, sym, subst}
use Rattle.std.proofs.Common.{◌∙◌, inl, inr}
use Rattle.std.proofs.Math.Bool.{true}
use Rattle.std.proofs.Math.Option.{Option, none, some, get_or}
use mathlib.Core.List.Memᴰ
use mathlib.Core.List.{[], ◌∷◌, Memᴰ}
use Rattle.rules.specs.Base.{got, exact, collect}
use Rattle.rules.specs.Trees.{
  Open,
  var,
  Atom,
  free,
  Product,
  Names,
  Ty,
  opened,
  basic,
  dim,
  fn,
  struct,
  list,
  Tys,
  nil,
  cons,
  Fields,
  noFields,
  field,
  ◌≔◌,
  orderAtom,
  openOfFactor,
}
use Rattle.rules.specs.Products.{just, single}
use Rattle.rules.specs.Plain.{plain, plainTys, plainFields}
use Rattle.rules.specs.Replacing.{Look, asProduct, replaceProduct, replaceDim, replaceTy, replaceTys, replaceFields, bindings}
use Rattle.rules.specs.Meaning.{inProducts, inProductsTys, inProductsFields}
use Rattle.rules.specs.WellFormed.{goodOpen, goodProduct, goodTy, goodTys, goodFields}
use Rattle.laws.specs.Order.{Lawful, Tells}
use Rattle.laws.specs.GoodProducts.{goodAtom}
use Rattle.laws.proofs.GoodProducts.{good-proper}
use Rattle.laws.specs.Lists.{and_left, and_right, All, in_head}
use Rattle.laws.proofs.Lists.{some≢none, one-step, two_steps}
use Rattle.laws.proofs.RuleCases.{single-is}
use Rattle.laws.proofs.KeepsGood.{GoodTy, dimension-good}
use Rattle.laws.proofs.Occurs.{as-product-is, one-bound, fit-fits, one-fits}
use Rattle.laws.proofs.Evaluation.{valued, value_of, meantBy, orSelf, Fit, Proper-look, value-proper, valued-just, replace-exact, replace-worth}
use Rattle.theorems_soundness.proofs.Alike.{Alike, plain-product, plain-injective}

module _ {N : Type 0} (ν : Names N) (law : Lawful (orderAtom ν)) (held : N → Bool) (q : ℕ)
    (tells : Tells (λ a. goodAtom ν held q a ≡ true) (orderAtom ν)) (σ : Look N)
    (σg : (o : Open N) (t : Ty N) → σ o ≡ some t → GoodTy ν law held q t) where
  abbrev pub Held : Atom N → Type 0
  Held a = goodAtom ν held q a ≡ true

  abbrev pub Fitting : Open N → Type 0
  Fitting = Fit ν Held σ

  -- ══ Open names and products, put in ══

  -- the products that stand for atoms
  abbrev pub value : Atom N → Product N
  value = value_of σ

  pub proper-look : Proper-look ν law tells σ
  proper-look = record { dimensions = λ o t d i j. good-proper ν law held q d ((dimension-good ν law held q t (σg o t i)).holds d j) }

  -- what an open name becomes
  abbrev pub name : Open N → Ty N
  name o = get_or (σ o) (opened o)

  -- a dimension's product, put in
  pub put-product : (p : Product N) → goodProduct ν held q p ≡ true → All Fitting (collect openOfFactor p) → replaceProduct ν exact σ p ≡ got (valued ν value p)
  put-product p g f = replace-exact ν law tells σ p (good-proper ν law held q p g) (fit-fits ν Held σ p f)

  -- a fitting variable, put in, is read like its product
  pub name-value : (o : Open N) (k : Bool) → asProduct (opened o) ≡ got (just o) → Fitting o → plain (name o) k ≡ plain (dim (value (free o))) k
  unfolding value_of meantBy orSelf
  name-value o k e f = go (σ o) refl
    where
      go : (t : Option (Ty N)) → σ o ≡ t → plain (get_or t (opened o)) k ≡ plain (dim (meantBy t (free o))) k
      go none i = plain-product (opened o) (just o) k e
      go (some t) i = let b = f.bound t i in rw (b.is, orSelf) (plain-product t b.product k b.is)

  -- a dimension, put in
  pub record PutDim (p : Product N) : Type 0 where
    pub type : Ty N
    pub put_in : replaceTy ν exact σ (dim p) ≡ got type
    pub reads : (k : Bool) → plain type k ≡ plain (dim (valued ν value p)) k

  pub put-dim : (p : Product N) → goodProduct ν held q p ≡ true → All Fitting (collect openOfFactor p) → PutDim p
  unfolding replaceTy replaceDim value_of meantBy orSelf collect
  put-dim p g f = go (single p) refl
    where
      one' : (o : Open N) → p ≡ just o → Fitting o → valued ν value p ≡ value (free o)
      one' o e h = rw e (valued-just ν law tells value (value-proper ν law tells σ proper-look) (free o) (rw e at (good-proper ν law held q p g)).each.0.0)

      read : (o : Open N) → p ≡ just o → Fitting o → (t : Option (Ty N)) → σ o ≡ t → (k : Bool)
          → plain (get_or t (dim p)) k ≡ plain (dim (meantBy t (free o))) k
      read o e h none i k = ap (λ (r : Product N). plain (dim r) k) e
      read o e h (some t) i k = let b = h.bound t i in rw (b.is, orSelf) (plain-product t b.product k b.is)

      go : (s : Option (Open N)) → single p ≡ s → PutDim p
      go none e = record { type = dim (valued ν value p); put_in = rw e (rw (put-product p g f)); reads = λ k. refl }
      go (some o) e =
          let j : p ≡ just o = single-is p o e in
          let h : Fitting o = f o (rw j in_head) in
          record {
            type = get_or (σ o) (dim p);
            put_in = rw e;
            reads = λ k. read o j h (σ o) refl k
                ∙ ap (λ (r : Product N). plain (dim r) k) (sym (one' o j h));
          }

  -- ══ A value ══

  mutual
    unfolding replaceTy inProducts goodTy

    pub put-ty : (u : Ty N) → goodTy ν held q u ≡ true → All Fitting (inProducts u) → (w : Ty N) × (replaceTy ν exact σ u ≡ got w)
    put-ty (opened o) g f = (name o, refl)
    put-ty (basic b) g f = (basic b, refl)
    put-ty (dim p) g f = let d = put-dim p g f in (d.type, d.put_in)
    put-ty (fn ps r) g f =
        let a = put-tys ps (and_left (goodTys ν held q ps) _ g) (λ o m. f o (Memᴰ.append_left (inProducts r) m)) in
        let b = put-ty r (and_right (goodTys ν held q ps) _ g) (λ o m. f o (Memᴰ.append_right (inProductsTys ps) m)) in
        (fn a.0 b.0, rw (a.1, b.1))
    put-ty (struct n as' fs) g f =
        let ga = and_left (held n && goodTys ν held q as' && goodFields ν held q fs) _ g in
        let a = put-tys as' (and_right (held n) _ (and_left (held n && goodTys ν held q as') _ ga)) (λ o m. f o (Memᴰ.append_left (inProductsFields fs) m)) in
        let b = put-fields fs (and_right (held n && goodTys ν held q as') _ ga) (λ o m. f o (Memᴰ.append_right (inProductsTys as') m)) in
        (struct n a.0 b.0, rw (a.1, b.1))
    put-ty (list t) g f = let a = put-ty t g f in (list a.0, rw a.1)

    pub put-tys : (us : Tys N) → goodTys ν held q us ≡ true → All Fitting (inProductsTys us) → (ws : Tys N) × (replaceTys ν exact σ us ≡ got ws)
    put-tys nil g f = (nil, refl)
    put-tys (cons u us) g f =
        let a = put-ty u (and_left (goodTy ν held q u) _ g) (λ o m. f o (Memᴰ.append_left (inProductsTys us) m)) in
        let b = put-tys us (and_right (goodTy ν held q u) _ g) (λ o m. f o (Memᴰ.append_right (inProducts u) m)) in
        (cons a.0 b.0, rw (a.1, b.1))

    pub put-fields : (fs : Fields N) → goodFields ν held q fs ≡ true → All Fitting (inProductsFields fs)
        → (gs : Fields N) × (replaceFields ν exact σ fs ≡ got gs)
    put-fields noFields g f = (noFields, refl)
    put-fields (field n u fs) g f =
        let a = put-ty u (and_right (held n) _ (and_left (held n && goodTy ν held q u) _ g)) (λ o m. f o (Memᴰ.append_left (inProductsFields fs) m)) in
        let b = put-fields fs (and_right (held n && goodTy ν held q u) _ g) (λ o m. f o (Memᴰ.append_right (inProducts u) m)) in
        (field n a.0 b.0, rw (a.1, b.1))

  -- ══ Replacing one variable first ══

  -- what x becomes is like what t becomes
  pub record Respected (x : N) (t : Ty N) : Type 0 where
    pub type : Ty N
    pub put_in : replaceTy ν exact σ t ≡ got type
    pub alike : Alike (name (var x)) type

  module _ (x : N) (t : Ty N) (tg : GoodTy ν law held q t) (r : Respected x t) (tf : All Fitting (inProducts t))
      (te : (o : Open N) → t ≡ opened o → Fitting (var x) → Fitting o) where
    pub worth-kept : (d : Product N) → asProduct t ≡ got d → Fitting (var x) → valued ν value d ≡ value (free (var x))
    unfolding goodTy inProducts asProduct replaceTy
    worth-kept d e f = go (as-product-is t d e)
      where
        own : plain (name (var x)) true ≡ plain (dim (value (free (var x)))) true
        own = name-value (var x) true refl f

        go : (t ≡ dim d) ⊎ ((o : Open N) × (t ≡ opened o) × (d ≡ just o)) → valued ν value d ≡ value (free (var x))
        go (inl i) =
            let p = put-dim d (rw i at tg) (rw i at tf) in
            let z : got r.type ≡ got p.type = sym r.put_in ∙ ap (replaceTy ν exact σ) i ∙ p.put_in in
            let y : r.type ≡ p.type = cc in
            plain-injective (valued ν value d) (value (free (var x))) (sym (p.reads true) ∙ ap (λ (u : Ty N). plain u true) (sym y) ∙ sym r.alike ∙ own)
        go (inr (o, i, j)) =
            let a : asProduct (opened o) ≡ got (just o) = sym (ap asProduct i) ∙ e ∙ ap got j in
            let z : got r.type ≡ got (name o) = sym r.put_in ∙ ap (replaceTy ν exact σ) i in
            let y : r.type ≡ name o = cc in
            let h : goodOpen ν held q o ≡ true = rw i at tg in
            let w : valued ν value d ≡ value (free o) = rw j (valued-just ν law tells value (value-proper ν law tells σ proper-look) (free o) h) in
            w ∙ plain-injective (value (free o)) (value (free (var x)))
            (sym (name-value o true a (te o i f)) ∙ ap (λ (u : Ty N). plain u true) (sym y) ∙ sym r.alike ∙ own)

    abbrev τ : Look N
    τ = bindings ν (x ≔ t ∷ [])

    -- a product is worth the same
    pub product-same : (p s : Product N) → goodProduct ν held q p ≡ true → All Fitting (collect openOfFactor p) → replaceProduct ν exact τ p ≡ got s
        → valued ν value s ≡ valued ν value p
    product-same p s g f e =
        replace-worth ν law tells τ value (value-proper ν law tells σ proper-look) p s (good-proper ν law held q p g) (one-fits ν law held q tells x t tg p s e)
        (λ o m u d i j. kept o m u d i j (one-bound ν x t o)) e
      where
        kept : (o : Open N) → Memᴰ o (collect openOfFactor p) → (u : Ty N) (d : Product N) → τ o ≡ some u → asProduct u ≡ got d
            → ((o ≡ var x) × (τ o ≡ some t)) ⊎ ((o ≡ var x → ⊥) × (τ o ≡ none)) → valued ν value d ≡ value (free o)
        kept o m u d i j (inl k) =
            let z : some u ≡ some t = sym i ∙ k.1 in
            let y : u ≡ t = cc in
            rw k.0 (worth-kept d (sym (ap asProduct y) ∙ j) (rw k.0 at (f o m)))
        kept o m u d i j (inr k) = absurd (some≢none (sym i ∙ k.1))

    -- ══ Types that become alike, by their parts ══

    -- two types that become alike
    pub record Same (u w : Ty N) : Type 0 where
      pub left : Ty N
      pub right : Ty N
      pub putLeft : replaceTy ν exact σ u ≡ got left
      pub putRight : replaceTy ν exact σ w ≡ got right
      pub alike : Alike left right

    same_self : (u w : Ty N) → u ≡ w → GoodTy ν law held q u → All Fitting (inProducts u) → Same u w
    same_self u w e g f = let v = put-ty u g f in record { left = v.0; right = v.0; putLeft = v.1; putRight = rw (sym e) v.1; alike = refl }

    name-same : (o : Open N) (u w : Ty N) → get_or (τ o) u ≡ w → GoodTy ν law held q u → All Fitting (inProducts u) → (left : Ty N)
        → replaceTy ν exact σ u ≡ got left → (o ≡ var x → Alike left (name (var x))) → Same u w
    name-same o u w e g f left i a = go (one-bound ν x t o)
      where
        go : ((o ≡ var x) × (τ o ≡ some t)) ⊎ ((o ≡ var x → ⊥) × (τ o ≡ none)) → Same u w
        go (inl k) = let z : t ≡ w = rw k.1 at e in record { left = left; right = r.type; putLeft = i; putRight = rw (sym z) r.put_in; alike = a k.0 ∙ r.alike }
        go (inr k) = same_self u w (rw k.1 at e) g f

    two-dims : (p s : Product N) → goodProduct ν held q p ≡ true → goodProduct ν held q s ≡ true → All Fitting (collect openOfFactor p)
        → All Fitting (collect openOfFactor s) → replaceProduct ν exact τ p ≡ got s → Same (dim p) (dim s)
    two-dims p s g h f k e =
        let a = put-dim p g f in
        let b = put-dim s h k in
        record {
          left = a.type;
          right = b.type;
          putLeft = a.put_in;
          putRight = b.put_in;
          alike = a.reads true ∙ ap (λ (u : Product N). plain (dim u) true) (sym (product-same p s g f e)) ∙ sym (b.reads true);
        }

    dim-same : (s : Option (Open N)) (p : Product N) (w : Ty N) → single p ≡ s → goodProduct ν held q p ≡ true → GoodTy ν law held q w
        → All Fitting (collect openOfFactor p) → All Fitting (inProducts w) → replaceDim ν exact τ s p ≡ got w → Same (dim p) w
    unfolding replaceDim goodTy inProducts collect asProduct
    dim-same (some o) p w i g h f k e =
        let d = put-dim p g f in
        name-same o (dim p) w (cc) g f d.type d.put_in (λ j.
        let z : p ≡ just (var x) = single-is p o i ∙ ap just j in
        let fx : Fitting (var x) = f (var x) (rw z in_head) in
        d.reads true ∙ ap (λ (u : Product N). plain (dim u) true)
        (ap (valued ν value) z ∙ valued-just ν law tells value (value-proper ν law tells σ proper-look) (free (var x))
        (rw z at (good-proper ν law held q p g)).each.0.0) ∙ sym (name-value (var x) true refl fx))
    dim-same none p w i g h f k e =
        let s = one-step (replaceProduct ν exact τ p) dim w e in
        subst (λ (u : Ty N). Same (dim p) u) s.is (two-dims p s.value g (rw (sym s.is) at h) f (rw (sym s.is) at k) s.gave)

    pub record SameTys (us ws : Tys N) : Type 0 where
      pub left : Tys N
      pub right : Tys N
      pub putLeft : replaceTys ν exact σ us ≡ got left
      pub putRight : replaceTys ν exact σ ws ≡ got right
      pub alike : plainTys left true ≡ plainTys right true

    pub record SameFields (fs gs : Fields N) : Type 0 where
      pub left : Fields N
      pub right : Fields N
      pub putLeft : replaceFields ν exact σ fs ≡ got left
      pub putRight : replaceFields ν exact σ gs ≡ got right
      pub alike : plainFields left true ≡ plainFields right true

    fn_same : (ps ps' : Tys N) (r r' : Ty N) → SameTys ps ps' → Same r r' → Same (fn ps r) (fn ps' r')
    unfolding replaceTy plain
    fn_same ps ps' r r' a b = record {
      left = fn a.left b.left;
      right = fn a.right b.right;
      putLeft = rw (a.putLeft, b.putLeft);
      putRight = rw (a.putRight, b.putRight);
      alike = ap₂ fn a.alike b.alike;
    }

    struct-same : (n : N) (ts ts' : Tys N) (fs fs' : Fields N) → SameTys ts ts' → SameFields fs fs' → Same (struct n ts fs) (struct n ts' fs')
    unfolding replaceTy plain
    struct-same n ts ts' fs fs' a b = record {
      left = struct n a.left b.left;
      right = struct n a.right b.right;
      putLeft = rw (a.putLeft, b.putLeft);
      putRight = rw (a.putRight, b.putRight);
      alike = ap₂ (struct n) a.alike b.alike;
    }

    list_same : (u w : Ty N) → Same u w → Same (list u) (list w)
    unfolding replaceTy plain
    list_same u w a = record { left = list a.left; right = list a.right; putLeft = rw a.putLeft; putRight = rw a.putRight; alike = ap list a.alike }

    cons_same : (u w : Ty N) (us ws : Tys N) → Same u w → SameTys us ws → SameTys (cons u us) (cons w ws)
    unfolding replaceTy plain
    cons_same u w us ws a b = record {
      left = cons a.left b.left;
      right = cons a.right b.right;
      putLeft = rw (a.putLeft, b.putLeft);
      putRight = rw (a.putRight, b.putRight);
      alike = ap₂ cons a.alike b.alike;
    }

    field-same : (n : N) (u w : Ty N) (fs gs : Fields N) → Same u w → SameFields fs gs → SameFields (field n u fs) (field n w gs)
    unfolding replaceTy plain
    field-same n u w fs gs a b = record {
      left = field n a.left b.left;
      right = field n a.right b.right;
      putLeft = rw (a.putLeft, b.putLeft);
      putRight = rw (a.putRight, b.putRight);
      alike = ap₂ (field n) a.alike b.alike;
    }

    mutual
      unfolding replaceTy inProducts goodTy plain

      -- a type, and the type in which t was put for x first, become alike
      pub ty-put : (u w : Ty N) → goodTy ν held q u ≡ true → goodTy ν held q w ≡ true → All Fitting (inProducts u) → All Fitting (inProducts w)
          → replaceTy ν exact τ u ≡ got w → Same u w
      ty-put (opened o) w g h f k e = name-same o (opened o) w (cc) g f (name o) refl (λ j. rw j)
      ty-put (basic b) w g h f k e = same_self (basic b) w (cc) g f
      ty-put (dim p) w g h f k e = dim-same (single p) p w refl g h f k e
      ty-put (fn ps r) w g h f k e =
          let s = two_steps (replaceTys ν exact τ ps) (λ _. replaceTy ν exact τ r) fn w e in
          let h' : goodTy ν held q (fn s.first s.second) ≡ true = subst (λ u. goodTy ν held q u ≡ true) (sym s.both) h in
          let k' : All Fitting (inProducts (fn s.first s.second)) = subst (λ u. All Fitting (inProducts u)) (sym s.both) k in
          subst (Same (fn ps r)) s.both (fn_same ps s.first r s.second
          (tys-put ps s.first (and_left (goodTys ν held q ps) _ g) (and_left (goodTys ν held q s.first) _ h')
          (λ o m. f o (Memᴰ.append_left (inProducts r) m)) (λ o m. k' o (Memᴰ.append_left (inProducts s.second) m)) s.gave)
          (ty-put r s.second (and_right (goodTys ν held q ps) _ g) (and_right (goodTys ν held q s.first) _ h')
          (λ o m. f o (Memᴰ.append_right (inProductsTys ps) m)) (λ o m. k' o (Memᴰ.append_right (inProductsTys s.first) m)) s.then))
      ty-put (struct n as' fs) w g h f k e =
          let s = two_steps (replaceTys ν exact τ as') (λ _. replaceFields ν exact τ fs) (struct n) w e in
          let h' : goodTy ν held q (struct n s.first s.second) ≡ true = subst (λ u. goodTy ν held q u ≡ true) (sym s.both) h in
          let k' : All Fitting (inProducts (struct n s.first s.second)) = subst (λ u. All Fitting (inProducts u)) (sym s.both) k in
          let ga = and_left (held n && goodTys ν held q as' && goodFields ν held q fs) _ g in
          let ha = and_left (held n && goodTys ν held q s.first && goodFields ν held q s.second) _ h' in
          subst (Same (struct n as' fs)) s.both (struct-same n as' s.first fs s.second
          (tys-put as' s.first (and_right (held n) _ (and_left (held n && goodTys ν held q as') _ ga))
          (and_right (held n) _ (and_left (held n && goodTys ν held q s.first) _ ha)) (λ o m. f o (Memᴰ.append_left (inProductsFields fs) m))
          (λ o m. k' o (Memᴰ.append_left (inProductsFields s.second) m)) s.gave)
          (fields-put fs s.second (and_right (held n && goodTys ν held q as') _ ga) (and_right (held n && goodTys ν held q s.first) _ ha)
          (λ o m. f o (Memᴰ.append_right (inProductsTys as') m)) (λ o m. k' o (Memᴰ.append_right (inProductsTys s.first) m)) s.then))
      ty-put (list u) w g h f k e =
          let s = one-step (replaceTy ν exact τ u) list w e in
          let h' : goodTy ν held q (list s.value) ≡ true = subst (λ u. goodTy ν held q u ≡ true) (sym s.is) h in
          let k' : All Fitting (inProducts (list s.value)) = subst (λ u. All Fitting (inProducts u)) (sym s.is) k in
          subst (Same (list u)) s.is (list_same u s.value (ty-put u s.value g h' f k' s.gave))

      pub tys-put : (us ws : Tys N) → goodTys ν held q us ≡ true → goodTys ν held q ws ≡ true → All Fitting (inProductsTys us)
          → All Fitting (inProductsTys ws) → replaceTys ν exact τ us ≡ got ws → SameTys us ws
      tys-put nil ws g h f k e = let z : nil ≡ ws = cc in rw (sym z) (record { left = nil; right = nil; putLeft = refl; putRight = refl; alike = refl })
      tys-put (cons u us) ws g h f k e =
          let s = two_steps (replaceTy ν exact τ u) (λ _. replaceTys ν exact τ us) cons ws e in
          let h' : goodTys ν held q (cons s.first s.second) ≡ true = subst (λ u. goodTys ν held q u ≡ true) (sym s.both) h in
          let k' : All Fitting (inProductsTys (cons s.first s.second)) = subst (λ u. All Fitting (inProductsTys u)) (sym s.both) k in
          subst (SameTys (cons u us)) s.both (cons_same u s.first us s.second
          (ty-put u s.first (and_left (goodTy ν held q u) _ g) (and_left (goodTy ν held q s.first) _ h')
          (λ o m. f o (Memᴰ.append_left (inProductsTys us) m)) (λ o m. k' o (Memᴰ.append_left (inProductsTys s.second) m)) s.gave)
          (tys-put us s.second (and_right (goodTy ν held q u) _ g) (and_right (goodTy ν held q s.first) _ h')
          (λ o m. f o (Memᴰ.append_right (inProducts u) m)) (λ o m. k' o (Memᴰ.append_right (inProducts s.first) m)) s.then))

      pub fields-put : (fs gs : Fields N) → goodFields ν held q fs ≡ true → goodFields ν held q gs ≡ true → All Fitting (inProductsFields fs)
          → All Fitting (inProductsFields gs) → replaceFields ν exact τ fs ≡ got gs → SameFields fs gs
      fields-put noFields gs g h f k e = let z : noFields ≡ gs = cc
          in rw (sym z) (record { left = noFields; right = noFields; putLeft = refl; putRight = refl; alike = refl })
      fields-put (field n u fs) gs g h f k e =
          let s = two_steps (replaceTy ν exact τ u) (λ _. replaceFields ν exact τ fs) (field n) gs e in
          let h' : goodFields ν held q (field n s.first s.second) ≡ true = subst (λ u. goodFields ν held q u ≡ true) (sym s.both) h in
          let k' : All Fitting (inProductsFields (field n s.first s.second)) = subst (λ u. All Fitting (inProductsFields u)) (sym s.both) k in
          subst (SameFields (field n u fs)) s.both (field-same n u s.first fs s.second
          (ty-put u s.first (and_right (held n) _ (and_left (held n && goodTy ν held q u) _ g))
          (and_right (held n) _ (and_left (held n && goodTy ν held q s.first) _ h')) (λ o m. f o (Memᴰ.append_left (inProductsFields fs) m))
          (λ o m. k' o (Memᴰ.append_left (inProductsFields s.second) m)) s.gave)
          (fields-put fs s.second (and_right (held n && goodTy ν held q u) _ g) (and_right (held n && goodTy ν held q s.first) _ h')
          (λ o m. f o (Memᴰ.append_right (inProducts u) m)) (λ o m. k' o (Memᴰ.append_right (inProducts s.first) m)) s.then))
