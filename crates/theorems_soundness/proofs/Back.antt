-- Truth goes back over each rule.
use Rattle.std.specs.Prelude.{◌≡◌, Bool, true, false, ◌&&◌, ◌||◌, ◌⊎◌}
use Rattle.std.proofs.Math.Path.{refl, ap, ap₂, sym, subst}
use Rattle.std.proofs.Common.{◌∙◌, inl, inr, arith}
use Rattle.std.proofs.Math.Bool.{not}
use Rattle.std.proofs.Math.Option.{Option, none, some, get_or}
use mathlib.Core.List.Memᴰ
use mathlib.Core.List.{List, [], ◌∷◌, Memᴰ}
use Prim.Native.Nat.{ℕ, pred}
use Rattle.rules.specs.Base.{got, bounded, exact, all, collect, each, is_none}
use Rattle.rules.specs.Exponents.{Exp, Exp-dec, one, isZero, inverted}
use Rattle.rules.specs.Trees.{
  Open,
  var,
  quant,
  par,
  Atom,
  free,
  ◌↑◌,
  Product,
  Names,
  Ty,
  opened,
  dim,
  fn,
  struct,
  list,
  Tys,
  nil,
  cons,
  Fields,
  Con,
  equal,
  isDim,
  is_scalar,
  hasField,
  Binding,
  orderAtom,
  count,
  opens,
  opensTys,
  openOfFactor,
  opensCon,
}
use Rattle.rules.specs.Views.{name_of, productOf, openOf}
use Rattle.rules.specs.Contents.{fieldIn, namesIn, among}
use Rattle.rules.specs.Products.{just, single, inverse, divide}
use Rattle.rules.specs.Plain.{plain, plainTys}
use Rattle.rules.specs.Replacing.{Look, asProduct, replaceProduct, replaceFactors, replaceDim, replaceTy, replaceTys, replaceFields, replaceCon, find, bindings}
use Rattle.rules.specs.Rounds.{Step, stuck, pairs, otherSide}
use Rattle.rules.specs.Meaning.{amongBounds, holds, inProducts, inProductsTys, productsOf}
use Rattle.rules.specs.WellFormed.{goodProduct, goodTy, goodTys, goodFields, goodCon}
use Rattle.laws.specs.Order.{Lawful, Tells}
use Rattle.laws.proofs.ExactSolve.{others_below}
use Rattle.laws.specs.Fractions.{Lowest}
use Rattle.laws.proofs.Fractions.{inverted-none}
use Rattle.laws.proofs.Untouched.{closed_same}
use Rattle.laws.specs.ExactProducts.{mergeE, raiseE}
use Rattle.laws.proofs.ExactProducts.{divide-value}
use Rattle.laws.specs.Powers.{Proper}
use Rattle.laws.proofs.Powers.{merge-comm, merge-inverse, inverse-proper}
use Rattle.laws.specs.GoodProducts.{goodAtom}
use Rattle.laws.proofs.GoodProducts.{good-proper}
use Rattle.laws.specs.Lists.{and_left, and_right, All, all-is, in_head, Every}
use Rattle.laws.proofs.Lists.{true≢false, some≢none, is_all, map-to, none_in, is-yes}
use Rattle.laws.specs.RuleCases.{After, parts}
use Rattle.laws.proofs.RuleCases.{
  Reads,
  Sides,
  Rule,
  none-applies,
  equal-records,
  binds,
  two-functions,
  two-lists,
  two-structs,
  as-product,
  two-dimensions,
  dimension,
  no-factor,
  first-factor,
  closed-struct,
  named,
  naming,
}
use Rattle.laws.proofs.KeepsGood.{GoodTy, sides-good}
use Rattle.theorems_soundness.proofs.Steps.{sides-in}
use Rattle.laws.proofs.Evaluation.{valued, value_of, meantBy, orSelf, value-proper, valued-divided, valued-raise, valued-inverse, valued-proper, other-raised}
use Rattle.laws.proofs.Occurs.{OnFactor, each_opens, opens-each, valued-on, as-product-is, field-occurs}
use Rattle.theorems_soundness.proofs.Alike.{alike_same, means-same, dim-alike, plain-just, no_fields}
use Rattle.theorems_soundness.proofs.Putting.{proper-look, put-product, put-dim, put-ty, put-fields, worth-kept}
use Rattle.theorems_soundness.proofs.Truth.{FitsIn, Holds, Respects, Equals, equals, equals-holds, turned, dimensional, dimensional-holds, scalar, scalar-holds}

module _ {N : Type 0} (ν : Names N) (law : Lawful (orderAtom ν)) (held : N → Bool) (q : ℕ) (tells : Tells (λ a. goodAtom ν held q a ≡ true) (orderAtom ν))
    (bs : List (Binding N)) (bounds : List N) (σg : (o : Open N) (t : Ty N) → bindings ν bs o ≡ some t → GoodTy ν law held q t) where
  -- ══ What is put in ══

  abbrev σ : Look N
  σ = bindings ν bs

  abbrev Fit : Open N → Type 0
  Fit = FitsIn ν law held q tells bs bounds σg

  abbrev True : Con N → Type 0
  True = Holds ν law held q tells bs bounds σg

  abbrev Equal : Ty N → Ty N → Type 0
  Equal = Equals ν bs bounds

  abbrev worth : Product N → Product N
  worth = valued ν (value_of σ)

  abbrev named_by : Open N → Ty N
  named_by o = get_or (σ o) (opened o)

  -- what is known of a new constraint, and of a new binding
  pub record TrueCon (c : Con N) : Type 0 where
    pub good : goodCon ν held q c ≡ true
    pub fits : All Fit (productsOf c)
    pub holding : True c

  pub record TrueBind (x : N) (t : Ty N) : Type 0 where
    pub good : GoodTy ν law held q t
    pub fits : All Fit (inProducts t)
    pub respected : Respects ν law held q tells bs bounds σg x t

  -- the product of a variable, put in, is like the variable
  single-power : (x : N) → single (just (var x)) ≡ some (var x)
  unfolding single
  single-power x = rw (is-yes (Exp-dec one one) refl)

  power-put : (x : N) → (w : Ty N) × (replaceTy ν exact σ (dim (just (var x))) ≡ got w) × ((k : Bool) → plain w k ≡ plain (named_by (var x)) k)
  unfolding replaceTy replaceDim
  power-put x = (get_or (σ (var x)) (dim (just (var x))), rw (single-power x), λ k. go (σ (var x)) k)
    where
      go : (o : Option (Ty N)) (k : Bool) → plain (get_or o (dim (just (var x)))) k ≡ plain (get_or o (opened (var x))) k
      go none k = plain-just x k
      go (some t) k = refl

  reads-put : (x : N) (side : Ty N) → Reads x side → (w : Ty N) × (replaceTy ν exact σ side ≡ got w) × ((k : Bool) → plain w k ≡ plain (named_by (var x)) k)
  unfolding replaceTy
  reads-put x side (inl e) = (named_by (var x), rw e, λ k. refl)
  reads-put x side (inr e) = let p = power-put x in (p.0, rw e p.1, p.2)

  -- ══ Pairs ══

  record EqualTys (ts us : Tys N) : Type 0 where
    left : Tys N
    right : Tys N
    putLeft : replaceTys ν exact σ ts ≡ got left
    putRight : replaceTys ν exact σ us ≡ got right
    same : plainTys left false ≡ plainTys right false

  pairs-equal : (ts us : Tys N) → count ts ≡ count us → All True (pairs ts us) → EqualTys ts us
  unfolding pairs count replaceTy plain
  pairs-equal nil nil n h = record { left = nil; right = nil; putLeft = refl; putRight = refl; same = refl }
  pairs-equal nil (cons u us) n h = absurd (omega arith)
  pairs-equal (cons t ts) nil n h = absurd (omega arith)
  pairs-equal (cons t ts) (cons u us) n h =
      let a = equals ν bs bounds t u (h (equal t u) in_head) in
      let b = pairs-equal ts us (ap pred n) (λ c m. h c (Memᴰ.tail m)) in
      record {
        left = cons a.left b.left;
        right = cons a.right b.right;
        putLeft = rw (a.putLeft, b.putLeft);
        putRight = rw (a.putRight, b.putRight);
        same = ap₂ cons a.same b.same;
      }

  -- ══ Products ══

  vp : (a : Atom N) → goodAtom ν held q a ≡ true → Proper ν (λ a. goodAtom ν held q a ≡ true) (value_of σ a)
  vp = value-proper ν law tells σ (proper-look ν law held q tells σ σg)

  -- dimensions of equal worth mean the same
  dims-equal : (d e : Product N) → goodProduct ν held q d ≡ true → goodProduct ν held q e ≡ true → All Fit (collect openOfFactor d)
      → All Fit (collect openOfFactor e) → worth d ≡ worth e → Equal (dim d) (dim e)
  dims-equal d e g h f k i =
      let a = put-dim ν law held q tells σ σg d g f in
      let b = put-dim ν law held q tells σ σg e h k in
      record {
        left = a.type;
        right = b.type;
        putLeft = a.put_in;
        putRight = b.put_in;
        same = a.reads false
            ∙ ap (λ (p : Product N). plain (dim p) false) i ∙ sym (b.reads false);
      }

  -- a quotient that is scalar
  divided-equal : (d e r : Product N) → goodProduct ν held q d ≡ true → goodProduct ν held q e ≡ true → All Fit (collect openOfFactor d)
      → All Fit (collect openOfFactor e) → divide ν bounded d e ≡ got r → goodProduct ν held q r ≡ true → All Fit (collect openOfFactor r)
      → True (is_scalar r) → Equal (dim d) (dim e)
  divided-equal d e r g h f k i m n t =
      let w : r ≡ mergeE ν d (inverse e) = divide-value ν d e r i in
      let z : got (worth r) ≡ got [] = sym (put-product ν law held q tells σ σg r m n) ∙ scalar ν bs bounds r t in
      let y : worth r ≡ [] = cc in
      dims-equal d e g h f k (valued-divided ν law tells (value_of σ) vp d e (good-proper ν law held q d g).each (good-proper ν law held q e h)
      (ap worth (sym w) ∙ y))

  -- x^k p is scalar where x is worth the other side of it
  power-scalar : (x : N) (k : Exp) (p r : Product N) → goodProduct ν held q (free (var x) ↑ k ∷ p) ≡ true → goodProduct ν held q r ≡ true
      → each (otherSide exact k) p ≡ got r → worth r ≡ value_of σ (free (var x)) → worth (free (var x) ↑ k ∷ p) ≡ []
  unfolding valued
  power-scalar x k p r g h e w = go (inverted k) refl
    where
      sound : Proper ν (λ a. goodAtom ν held q a ≡ true) (free (var x) ↑ k ∷ p)
      sound = good-proper ν law held q (free (var x) ↑ k ∷ p) g

      lk : Lowest k
      lk = sound.each.0.1

      hp : Proper ν (λ a. goodAtom ν held q a ≡ true) (worth p)
      hp = valued-proper ν law tells (value_of σ) vp p sound.each.1

      go : (o : Option Exp) → inverted k ≡ o → mergeE ν (raiseE (value_of σ (free (var x))) k) (worth p) ≡ []
      go none i = absurd (true≢false (sym (ap isZero (inverted-none k lk i)) ∙ sound.each.0.2))
      go (some i) j =
          ap (λ (y : Product N). mergeE ν (raiseE y k) (worth p)) (sym w)
          ∙ ap (λ (y : Product N). mergeE ν y (worth p))
          (sym (valued-raise ν law tells (value_of σ) vp r k (good-proper ν law held q r h).each lk)
          ∙ ap worth (other-raised ν law tells k i lk j p r sound.each.1 e)
          ∙ valued-inverse ν law tells (value_of σ) vp p sound.each.1)
          ∙ merge-comm ν law tells (inverse (worth p)) (worth p) (inverse-proper ν law tells (worth p) hp) hp
          ∙ merge-inverse ν law tells (worth p) hp

  -- ══ Is-dimension of a product ══

  -- the name of an open name is among the bounds
  abbrev Bounded : Open N → Type 0
  Bounded o = (y : N) → name_of o ≡ some y → among ν y bounds ≡ true

  among-all : (os : List (Open N)) → All Bounded os → all (λ y. among ν y bounds) (namesIn os) ≡ true
  among-all os h = is_all (λ y. among ν y bounds) (namesIn os) (λ y m. go y (named os y m))
    where
      go : (y : N) → Memᴰ (var y) os ⊎ Memᴰ (par y) os → among ν y bounds ≡ true
      go y (inl m) = h (var y) m y refl
      go y (inr m) = h (par y) m y refl

  all_among : (os : List (Open N)) → all (λ y. among ν y bounds) (namesIn os) ≡ true → All Bounded os
  all_among os h o m y e = all-is (λ y. among ν y bounds) (namesIn os) h y (naming os o y m e)

  -- the names of what a variable becomes are among the bounds
  variable-bounded : (y : N) → True (isDim (opened (var y))) → All Bounded (opens (named_by (var y)))
  unfolding replaceTy holds amongBounds
  variable-bounded y h =
      let d = dimensional ν bs bounds (opened (var y)) h in
      let z : named_by (var y) ≡ d.type = cc d.put_in in
      rw z (all_among (opens d.type) (and_right (not (is_none (productOf d.type)) || not (is_none (openOf d.type))) _ d.holding))

  product-bounded : (t : Ty N) (d : Product N) → asProduct t ≡ got d → All Bounded (opens t) → All Bounded (collect openOfFactor d)
  unfolding opens collect
  product-bounded t d e h = go (as-product-is t d e)
    where
      go : (t ≡ dim d) ⊎ ((o : Open N) × (t ≡ opened o) × (d ≡ just o)) → All Bounded (collect openOfFactor d)
      go (inl i) = subst (λ (u : Ty N). All Bounded (opens u)) i h
      go (inr (o, i, j)) = rw j (subst (λ (u : Ty N). All Bounded (opens u)) i h)

  becomes-bounded : (o : Open N) → Fit o → ((y : N) → name_of o ≡ some y → True (isDim (opened (var y))))
      → ((y : N) → o ≡ par y → find ν bs y ≡ none) → Every (OnFactor Bounded) (value_of σ (free o))
  unfolding value_of meantBy orSelf bindings opens
  becomes-bounded (var y) f h n = go (find ν bs y) refl (variable-bounded y (h y refl))
    where
      go : (t : Option (Ty N)) → find ν bs y ≡ t → All Bounded (opens (get_or t (opened (var y)))) → Every (OnFactor Bounded) (meantBy t (free (var y)))
      go none i k = (k (var y) in_head, tt)
      go (some t) i k = let b = f.bound t i in rw (b.is, orSelf) (opens-each Bounded b.product (product-bounded t b.product b.is k))
  becomes-bounded (quant i) f h n = (λ y e. absurd (some≢none (sym e)), tt)
  becomes-bounded (par y) f h n =
      let k : All Bounded (opens (get_or (find ν bs y) (opened (var y)))) = variable-bounded y (h y refl) in
      let m : All Bounded (var y ∷ []) = rw (n y refl) at k in
      (λ z e. m (var y) in_head z (cc), tt)

  dimension-true : (p : Product N) → goodProduct ν held q p ≡ true → All Fit (collect openOfFactor p)
      → ((y : N) → Memᴰ (par y) (collect openOfFactor p) → find ν bs y ≡ none) → All True (parts p) → True (isDim (dim p))
  unfolding holds amongBounds opens value_of
  dimension-true p g f n h =
      let d = put-dim ν law held q tells σ σg p g f in
      let b : All Bounded (collect openOfFactor (worth p)) =
      each_opens Bounded (worth p) (valued-on Bounded ν (value_of σ) p (λ m. (tt, tt)) (λ o m.
      becomes-bounded o (f o m) (λ y e. h (isDim (opened (var y)))
      (map-to (λ x. isDim (opened (var x))) (namesIn (collect openOfFactor p)) y (naming (collect openOfFactor p) o y m e)))
      (λ y e. n y (rw e at m)))) in
      dimensional-holds ν bs bounds (dim p)
      (record {
        type = d.type;
        put_in = d.put_in;
        holding = dim-alike ν bounds d.type (dim (worth p)) (d.reads true) (among-all (collect openOfFactor (worth p)) b);
      })

  -- ══ The rules ══

  sides-true : (c : Con N) (s t : Ty N) → Sides c s t → Equal s t → True c
  sides-true c s t (inl i) e = rw i (equals-holds ν bs bounds s t e)
  sides-true c s t (inr i) e = rw i (equals-holds ν bs bounds t s (turned ν bs bounds s t e))

  bind-equal : (x : N) (side t : Ty N) → Reads x side → TrueBind x t → Equal side t
  bind-equal x side t r b =
      let w = reads-put x side r in
      record {
        left = w.0;
        right = b.respected.type;
        putLeft = w.1;
        putRight = b.respected.put_in;
        same = w.2 false
            ∙ alike_same (named_by (var x)) b.respected.type b.respected.alike;
      }

  -- ══ Equalities of functions, lists and structures ══

  functions-equal : (ps qs : Tys N) (r r' : Ty N) → count ps ≡ count qs → All True (equal r r' ∷ pairs ps qs) → Equal (fn ps r) (fn qs r')
  unfolding replaceTy plain
  functions-equal ps qs r r' n h =
      let a = equals ν bs bounds r r' (h (equal r r') in_head) in
      let b = pairs-equal ps qs n (λ c m. h c (Memᴰ.tail m)) in
      record {
        left = fn b.left a.left;
        right = fn b.right a.right;
        putLeft = rw (b.putLeft, a.putLeft);
        putRight = rw (b.putRight, a.putRight);
        same = ap₂ fn b.same a.same;
      }

  lists-equal : (t u : Ty N) → All True (equal t u ∷ []) → Equal (list t) (list u)
  unfolding replaceTy plain
  lists-equal t u h =
      let a = equals ν bs bounds t u (h (equal t u) in_head) in
      record { left = list a.left; right = list a.right; putLeft = rw a.putLeft; putRight = rw a.putRight; same = ap list a.same }

  fields_value : (n : N) (ts : Tys N) (fs : Fields N) → GoodTy ν law held q (struct n ts fs) → All Fit (inProducts (struct n ts fs))
      → (gs : Fields N) × (replaceFields ν exact σ fs ≡ got gs)
  unfolding goodTy inProducts
  fields_value n ts fs g f = put-fields ν law held q tells σ σg fs
      (and_right (held n && goodTys ν held q ts) _ (and_left (held n && goodTys ν held q ts && goodFields ν held q fs) _ g))
      (λ o m. f o (Memᴰ.append_right (inProductsTys ts) m))

  structs-equal : (n : N) (ts us : Tys N) (fs gs : Fields N) → count ts ≡ count us → GoodTy ν law held q (struct n ts fs)
      → GoodTy ν law held q (struct n us gs) → All Fit (inProducts (struct n ts fs)) → All Fit (inProducts (struct n us gs)) → All True (pairs ts us)
      → Equal (struct n ts fs) (struct n us gs)
  unfolding replaceTy plain
  structs-equal n ts us fs gs k g g' f f' h =
      let b = pairs-equal ts us k h in
      let x = fields_value n ts fs g f in
      let y = fields_value n us gs g' f' in
      record {
        left = struct n b.left x.0;
        right = struct n b.right y.0;
        putLeft = rw (b.putLeft, x.1);
        putRight = rw (b.putRight, y.1);
        same = ap₂ (struct n) b.same (no_fields x.0 ∙ sym (no_fields y.0));
      }

  field-true : (n m : N) (ts : Tys N) (fs : Fields N) (t u : Ty N) → opens (struct m ts fs) ≡ [] → fieldIn ν n fs ≡ some u → True (equal u t)
      → True (hasField n (struct m ts fs) t)
  unfolding replaceCon holds opens
  field-true n m ts fs t u c i h =
      let a = equals ν bs bounds u t h in
      let e : opens u ≡ [] = none_in (opens u)
      (λ o j. Memᴰ.not-nil (subst (λ (os : List (Open N)). Memᴰ o os) c (Memᴰ.append_right (opensTys ts) (field-occurs ν n fs u i o j)))) in
      let z : got u ≡ got a.left = sym (closed_same ν exact σ u e) ∙ a.putLeft in
      let y : u ≡ a.left = cc in
      record {
        replaced = hasField n (struct m ts fs) a.right;
        put_in = rw (closed_same ν exact σ (struct m ts fs) c, a.putRight);
        holding = rw i (means-same ν u a.right (ap (λ (w : Ty N). plain w false) y ∙ a.same));
      }

  -- ══ Scalars and dimensions ══

  first-true : (x : N) (k : Exp) (p r : Product N) → goodProduct ν held q (free (var x) ↑ k ∷ p) ≡ true
      → All Fit (collect openOfFactor (free (var x) ↑ k ∷ p)) → each (otherSide bounded k) p ≡ got r → TrueBind x (dim r)
      → True (is_scalar (free (var x) ↑ k ∷ p))
  unfolding collect goodTy asProduct
  first-true x k p r g f e b =
      scalar-holds ν bs bounds (free (var x) ↑ k ∷ p)
      (put-product ν law held q tells σ σg (free (var x) ↑ k ∷ p) g f
      ∙ ap got (power-scalar x k p r g b.good ((others_below ν k p).gives r e)
      (worth-kept ν law held q tells σ σg x (dim r) b.good b.respected b.fits (λ o i. absurd (some≢none (ap productOf i))) r refl (f (var x) in_head))))

  variable-equal : (x : N) (d : Product N) → Equal (dim (just (var x))) (dim d) → Equal (opened (var x)) (dim d)
  unfolding replaceTy
  variable-equal x d e =
      let w = power-put x in
      let z : got e.left ≡ got w.0 = sym e.putLeft ∙ w.1 in
      let y : e.left ≡ w.0 = cc in
      record {
        left = named_by (var x);
        right = e.right;
        putLeft = refl;
        putRight = e.putRight;
        same = sym (w.2 false)
            ∙ ap (λ (u : Ty N). plain u false) (sym y) ∙ e.same;
      }

  dims-divided : (d e r : Product N) → GoodTy ν law held q (dim d) → GoodTy ν law held q (dim e) → All Fit (inProducts (dim d))
      → All Fit (inProducts (dim e)) → divide ν bounded d e ≡ got r → TrueCon (is_scalar r) → Equal (dim d) (dim e)
  unfolding goodTy inProducts goodCon productsOf
  dims-divided d e r g h f k i t = divided-equal d e r g h f k i t.good t.fits t.holding

  good-dim : (p : Product N) → goodCon ν held q (isDim (dim p)) ≡ true → goodProduct ν held q p ≡ true
  unfolding goodCon goodTy
  good-dim p g = g

  nothing : replaceProduct ν exact σ [] ≡ got []
  unfolding replaceProduct replaceFactors
  nothing = refl

  -- ══ All rules ══

  -- a rule takes a constraint away that is true where what it puts in is, and what it binds is respected
  pub rule-true : (c : Con N) (s : Step N) → Rule ν bounded c s → (s ≡ stuck → ⊥) → goodCon ν held q c ≡ true → All Fit (productsOf c)
      → ((y : N) → Memᴰ (par y) (opensCon c) → find ν bs y ≡ none) → After (All TrueCon) TrueBind s → True c
  unfolding goodCon productsOf inProducts opensCon opens
  rule-true c s (none-applies e) n g f p a = absurd (n e)
  rule-true c s (equal-records t i e) n g f p a =
      let h = sides-good ν law held q c t t (inl i) g in
      let w = put-ty ν law held q tells σ σg t h.0 (sides-in Fit c t t (inl i) f).0 in
      sides-true c t t (inl i) (record { left = w.0; right = w.0; putLeft = w.1; putRight = w.1; same = refl })
  rule-true c s (binds x side t i r z e) n g f p a = sides-true c side t i (bind-equal x side t r (subst (After (All TrueCon) TrueBind) e a))
  rule-true c s (two-functions ps qs r r' k i e) n g f p a =
      let h : All TrueCon (equal r r' ∷ pairs ps qs) = subst (After (All TrueCon) TrueBind) e a in
      sides-true c (fn ps r) (fn qs r') (inl i) (functions-equal ps qs r r' k (λ d m. (h d m).holding))
  rule-true c s (two-lists t u i e) n g f p a =
      let h : All TrueCon (equal t u ∷ []) = subst (After (All TrueCon) TrueBind) e a in
      sides-true c (list t) (list u) (inl i) (lists-equal t u (λ d m. (h d m).holding))
  rule-true c s (two-structs m as' bs' fs gs k i e) n g f p a =
      let h : All TrueCon (pairs as' bs') = subst (After (All TrueCon) TrueBind) e a in
      let x = sides-good ν law held q c (struct m as' fs) (struct m bs' gs) (inl i) g in
      let y = sides-in Fit c (struct m as' fs) (struct m bs' gs) (inl i) f in
      sides-true c (struct m as' fs) (struct m bs' gs) (inl i) (structs-equal m as' bs' fs gs k x.0 x.1 y.0 y.1 (λ d m. (h d m).holding))
  rule-true c s (as-product x d i m e) n g f p a =
      let h : All TrueCon (equal (dim (just (var x))) (dim d) ∷ []) = subst (After (All TrueCon) TrueBind) e a in
      sides-true c (opened (var x)) (dim d) i (variable-equal x d (equals ν bs bounds (dim (just (var x))) (dim d) (h _ in_head).holding))
  rule-true c s (two-dimensions d e r k i j) n g f p a =
      let h : All TrueCon (is_scalar r ∷ []) = subst (After (All TrueCon) TrueBind) j a in
      let t = h (is_scalar r) in_head in
      let x = sides-good ν law held q c (dim d) (dim e) (inl i) g in
      let y = sides-in Fit c (dim d) (dim e) (inl i) f in
      sides-true c (dim d) (dim e) (inl i) (dims-divided d e r x.0 x.1 y.0 y.1 k t)
  rule-true c s (dimension d i e) n g f p a =
      let h : All TrueCon (parts d) = subst (After (All TrueCon) TrueBind) e a in
      rw i (dimension-true d (good-dim d (subst (λ (b : Con N). goodCon ν held q b ≡ true) i g)) (subst (λ (b : Con N). All Fit (productsOf b)) i f)
      (subst (λ (b : Con N). (y : N) → Memᴰ (par y) (opensCon b) → find ν bs y ≡ none) i p) (λ b m. (h b m).holding))
  rule-true c s (no-factor i e) n g f p a = rw i (scalar-holds ν bs bounds [] nothing)
  rule-true c s (first-factor x k d r z i e) n g f p a =
      let h : TrueBind x (dim r) = subst (After (All TrueCon) TrueBind) e a in
      rw i (first-true x k d r (subst (λ (b : Con N). goodCon ν held q b ≡ true) i g) (subst (λ (b : Con N). All Fit (productsOf b)) i f) z h)
  rule-true c s (closed-struct m m' as' fs t u o k i e) n g f p a =
      let h : All TrueCon (equal u t ∷ []) = subst (After (All TrueCon) TrueBind) e a in
      rw i (field-true m m' as' fs t u o k (h (equal u t) in_head).holding)
