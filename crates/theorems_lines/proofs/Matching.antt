-- A variable of a line and a type of its run match when the variable, with the bindings put in, means that type and the type is closed.
-- What the true constraints of one step say of its variable, where the operands match.
use Rattle.std.proofs.Math.Path.{◌≡◌, refl, ap, ap₂, sym}
use Rattle.std.proofs.Common.{◌∙◌, subst, inl, inr}
use Rattle.std.specs.Prelude.{Bool, not, ◌||◌, ◌⊎◌}
use Rattle.std.proofs.Math.Bool.{true, false}
use Rattle.std.proofs.Math.Option.{Option, none, some, get_or}
use mathlib.Core.List.{List, [], cons≢nil}
use Prim.Native.Nat.{Ordering}
use Rattle.rules.specs.Base.{got, exact, all, collect, is_none}
use Rattle.rules.specs.Exponents.{Exp, one, isZero, neg}
use Rattle.rules.specs.Trees.{
  Open,
  var,
  quant,
  par,
  Atom,
  free,
  Product,
  Names,
  Ty,
  opened,
  basic,
  dim,
  fn,
  struct,
  list,
  boolean,
  Con,
  equal,
  isDim,
  Binding,
  ◌≔◌,
  orderAtom,
  opens,
  openOfFactor,
}
use Rattle.rules.specs.Views.{productOf, openOf}
use Rattle.rules.specs.Products.{single, put, inverse}
use Rattle.rules.specs.Contents.{namesIn}
use Rattle.rules.specs.Plain.{plain, plainDim}
use Rattle.rules.specs.Replacing.{Look, asProduct, replaceTy, bindings}
use Rattle.rules.specs.Meaning.{holds, amongBounds, means, TrueUnder}
use Rattle.rules.specs.WellFormed.{goodTy, goodCon, goodBinding}
use Rattle.laws.specs.Order.{Lawful, Tells}
use Rattle.laws.proofs.ByteOrder.{atom-lawful}
use Rattle.laws.specs.GoodProducts.{goodAtom}
use Rattle.laws.proofs.GoodProducts.{atom-tells, good-proper}
use Rattle.laws.specs.Lists.{and_left, and_right, All, all_nil, all_cons, Every}
use Rattle.laws.proofs.Lists.{true≢false, some≢none, none_in}
use Rattle.laws.proofs.RuleCases.{single-is}
use Rattle.laws.proofs.KeepsGood.{GoodTy}
use Rattle.laws.specs.Fractions.{Lowest}
use Rattle.laws.proofs.Fractions.{zero-is-nought}
use Rattle.laws.specs.ExactProducts.{mergeE, raiseE}
use Rattle.laws.proofs.ExactProducts.{merge-scalar}
use Rattle.laws.specs.Powers.{Proper}
use Rattle.laws.proofs.Powers.{raise-one, raise-nought, merge-comm, inverse-is, inverse-proper}
use Rattle.laws.proofs.Evaluation.{valued, value_of, meantBy, orSelf, Fit}
use Rattle.laws.proofs.Occurs.{OnFactor, each_opens, opens-each, merge_on, raise-on}
use Rattle.laws.proofs.Untouched.{closed_same}
use Rattle.theorems_soundness.specs.Claims.{Ordered}
use Rattle.theorems_soundness.proofs.Finds.{find-member}
use Rattle.theorems_soundness.proofs.Alike.{means-same}
use Rattle.theorems_soundness.proofs.Putting.{put-dim}
use Rattle.theorems_soundness.proofs.Truth.{equals, equals-holds, dimensional, dimensional-holds}
use Rattle.rules.specs.Lines.{its, twoFactors}
use Rattle.theorems_lines.proofs.Shut.{Never}

-- ══ Closed types ══

module _ {N : Type 0} where
  -- a closed type isn't read as a variable
  pub closed-reads : (t : Ty N) (o : Open N) → opens t ≡ [] → plain t false ≡ opened o → ⊥
  unfolding plain plainDim opens collect
  closed-reads (opened u) o c e = cons≢nil c
  closed-reads (basic b) o c e = cc
  closed-reads (dim p) o c e = go (single p) refl e
    where
      go : (s : Option (Open N)) → single p ≡ s → plainDim s p ≡ opened o → ⊥
      go none i h = cc
      go (some u) i h = cons≢nil (sym (ap (λ (q : Product N). collect openOfFactor q) (single-is p u i)) ∙ c)
  closed-reads (fn ps r) o c e = cc
  closed-reads (struct n as' fs) o c e = cc
  closed-reads (list t) o c e = cc

  -- what is read as a dimension is that dimension
  reads-dim : (t : Ty N) (p : Product N) → plain t false ≡ dim p → t ≡ dim p
  unfolding plain plainDim
  reads-dim (opened u) p e = cc
  reads-dim (basic b) p e = cc
  reads-dim (dim q) p e = go (single q) e
    where
      go : (s : Option (Open N)) → plainDim s q ≡ dim p → dim q ≡ dim p
      go none h = h
      go (some u) h = cc
  reads-dim (fn ps r) p e = cc
  reads-dim (struct n as' fs) p e = cc
  reads-dim (list t) p e = cc

  pub same-dim : (t : Ty N) (p : Product N) → opens t ≡ [] → plain (dim p) false ≡ plain t false → t ≡ dim p
  unfolding plain plainDim
  same-dim t p c e = go (single p) refl e
    where
      go : (s : Option (Open N)) → single p ≡ s → plainDim s p ≡ plain t false → t ≡ dim p
      go none i h = reads-dim t p (sym h)
      go (some o) i h = absurd (closed-reads t o c (sym h))

  -- a type of which is-dimension holds
  dimension-like : (t : Ty N) → (not (is_none (productOf t)) || not (is_none (openOf t))) ≡ true
      → ((p : Product N) × (t ≡ dim p)) ⊎ ((o : Open N) × (t ≡ opened o))
  dimension-like (opened o) e = inr (o, refl)
  dimension-like (basic b) e = absurd (true≢false (sym e))
  dimension-like (dim p) e = inl (p, refl)
  dimension-like (fn ps r) e = absurd (true≢false (sym e))
  dimension-like (struct n as' fs) e = absurd (true≢false (sym e))
  dimension-like (list t) e = absurd (true≢false (sym e))

  -- no open name stands in a closed product, nor in what is made of closed ones
  pub closed-each : (p : Product N) → opens (dim p) ≡ [] → Every (OnFactor Never) p
  unfolding opens
  closed-each p c = opens-each Never p (rw c (all_nil Never))

  pub each-closed : (p : Product N) → Every (OnFactor Never) p → opens (dim p) ≡ []
  unfolding opens
  each-closed p h = none_in (collect openOfFactor p) (each_opens Never p h)

module _ {N : Type 0} (ν : Names N) where
  closed-holds : (ns : List N) (p : Product N) → opens (dim p) ≡ [] → holds ν ns (isDim (dim p)) ≡ true
  unfolding holds amongBounds namesIn collect all
  closed-holds ns p c = rw c

module _ {N : Type 0} (ν : Names N) (held : N → Bool) (ord : Ordered ν held) (bs : List (Binding N)) (ns : List N)
    (good : All (λ b. goodBinding ν held 0 b ≡ true) bs) where
  abbrev law : Lawful (orderAtom ν)
  law = atom-lawful ν ord.lawful

  abbrev Held : Atom N → Type 0
  Held = λ a. goodAtom ν held 0 a ≡ true

  abbrev tells : Tells (λ a. goodAtom ν held 0 a ≡ true) (orderAtom ν)
  tells = atom-tells ν held 0 ord.tells

  abbrev σ : Look N
  σ = bindings ν bs

  σg : (o : Open N) (t : Ty N) → σ o ≡ some t → GoodTy ν law held 0 t
  unfolding bindings goodBinding
  σg (var x) t e = and_right (held x) _ (good (x ≔ t) (find-member ν bs x t e))
  σg (quant i) t e = absurd (some≢none (sym e))
  σg (par x) t e = absurd (some≢none (sym e))

  -- the type of a step's variable with the bindings put in
  abbrev pub typeOfVar : N → Ty N
  typeOfVar v = get_or (σ (var v)) (opened (var v))

  pub record Matches (v : N) (t : Ty N) : Type 0 where
    pub same : plain (typeOfVar v) false ≡ plain t false
    pub closed : opens t ≡ []

  -- a constraint of the line: well formed, and true
  pub record Fact (c : Con N) : Type 0 where
    pub formed : goodCon ν held 0 c ≡ true
    pub true-under : TrueUnder ν bs ns c

  -- ══ Equalities ══

  pub sides : (l r : N) → TrueUnder ν bs ns (equal (its l) (its r)) → plain (typeOfVar l) false ≡ plain (typeOfVar r) false
  unfolding replaceTy
  sides l r h =
      let e = equals ν bs ns (its l) (its r) h in
      let i : got (typeOfVar l) ≡ got e.left = e.putLeft in
      let j : got (typeOfVar r) ≡ got e.right = e.putRight in
      let i' : typeOfVar l ≡ e.left = cc in
      let j' : typeOfVar r ≡ e.right = cc in
      ap (λ (t : Ty N). plain t false) i' ∙ e.same ∙ ap (λ (t : Ty N). plain t false) (sym j')

  against : (v : N) (s t : Ty N) → replaceTy ν exact σ s ≡ got t → TrueUnder ν bs ns (equal (its v) s) → plain (typeOfVar v) false ≡ plain t false
  unfolding replaceTy
  against v s t g h =
      let e = equals ν bs ns (its v) s h in
      let i : got (typeOfVar v) ≡ got e.left = e.putLeft in
      let j : got t ≡ got e.right = sym g ∙ e.putRight in
      let i' : typeOfVar v ≡ e.left = cc in
      let j' : t ≡ e.right = cc in
      ap (λ (t : Ty N). plain t false) i' ∙ e.same ∙ ap (λ (t : Ty N). plain t false) (sym j')

  -- v = t, for a closed type
  pub of-closed : (v : N) (t : Ty N) → opens t ≡ [] → TrueUnder ν bs ns (equal (its v) t) → Matches v t
  of-closed v t c h = record { same = against v t t (closed_same ν exact σ t c) h; closed = c }

  -- v = l
  pub of-same : (v l : N) (t : Ty N) → Matches l t → TrueUnder ν bs ns (equal (its v) (its l)) → Matches v t
  of-same v l t m h = record { same = sides v l h ∙ m.same; closed = m.closed }

  -- l = r: the types mean the same
  pub mean-same : (l r : N) (s t : Ty N) → Matches l s → Matches r t → TrueUnder ν bs ns (equal (its l) (its r)) → means ν s t ≡ true
  mean-same l r s t m n h = means-same ν s t (sym m.same ∙ sides l r h ∙ n.same)

  -- c = boolean
  pub is-boolean : (c : N) (t : Ty N) → Matches c t → TrueUnder ν bs ns (equal (its c) (basic boolean)) → means ν t (basic boolean) ≡ true
  unfolding replaceTy
  is-boolean c t m h = means-same ν t (basic boolean) (sym m.same ∙ against c (basic boolean) (basic boolean) refl h)

  -- ══ Dimensions ══

  -- a variable that is bound to a closed dimension
  pub record Bound (v : N) (t : Ty N) : Type 0 where
    pub product : Product N
    pub is : t ≡ dim product
    pub bound : σ (var v) ≡ some (dim product)
    pub closed : opens (dim product) ≡ []

  pub bound-dim : (v : N) (p : Product N) → typeOfVar v ≡ dim p → σ (var v) ≡ some (dim p)
  bound-dim v p e = go (σ (var v)) e
    where
      go : (s : Option (Ty N)) → get_or s (opened (var v)) ≡ dim p → s ≡ some (dim p)
      go none i = cc
      go (some u) i = ap some i

  pub dimension-of : (v : N) (t : Ty N) → Matches v t → TrueUnder ν bs ns (isDim (its v)) → Bound v t
  unfolding replaceTy holds plain
  dimension-of v t m h =
      let d = dimensional ν bs ns (its v) h in
      let i : got (typeOfVar v) ≡ got d.type = d.put_in in
      let i' : d.type ≡ typeOfVar v = cc in
      go (typeOfVar v) refl (dimension-like (typeOfVar v) (and_left _ _ (subst (λ (u : Ty N). holds ν ns (isDim u) ≡ true) i' d.holding)))
    where
      go : (u : Ty N) → typeOfVar v ≡ u → ((p : Product N) × (u ≡ dim p)) ⊎ ((o : Open N) × (u ≡ opened o)) → Bound v t
      go u i (inr (o, j)) = absurd (closed-reads t o m.closed (sym m.same ∙ ap (λ (w : Ty N). plain w false) (i ∙ j)))
      go u i (inl (p, j)) =
          let is : t ≡ dim p = same-dim t p m.closed (ap (λ (w : Ty N). plain w false) (sym (i ∙ j)) ∙ m.same) in
          record { product = p; is = is; bound = bound-dim v p (i ∙ j); closed = ap opens (sym is) ∙ m.closed }

  -- its product, as exact arithmetic has it
  proper : (v : N) (t : Ty N) (b : Bound v t) → Proper ν Held b.product
  unfolding goodTy
  proper v t b = good-proper ν law held 0 b.product (σg (var v) (dim b.product) b.bound)

  value-is : (v : N) (t : Ty N) (b : Bound v t) → value_of σ (free (var v)) ≡ b.product
  unfolding value_of meantBy orSelf asProduct
  value-is v t b = rw b.bound

  fits : (v : N) (t : Ty N) → Bound v t → Fit ν Held σ (var v)
  unfolding asProduct
  fits v t b = record { bound = λ u e. let z : dim b.product ≡ u = cc b.bound in rw (← z) (record { product = b.product; is = refl; proper = proper v t b }) }

  -- v = a dimension: what the variable's type is read as
  put-in : (v : N) (p : Product N) → goodCon ν held 0 (equal (its v) (dim p)) ≡ true → All (Fit ν Held σ) (collect openOfFactor p)
      → TrueUnder ν bs ns (equal (its v) (dim p)) → plain (typeOfVar v) false ≡ plain (dim (valued ν (value_of σ) p)) false
  unfolding goodCon goodTy
  put-in v p g f h =
      let d = put-dim ν law held 0 tells σ σg p (and_right (goodTy ν held 0 (its v)) _ g) f in
      against v (dim p) d.type d.put_in h ∙ d.reads false

  abbrev val : Atom N → Product N
  val = value_of σ

  -- v = x^e
  module _ (x : N) (e : Exp) (t : Ty N) (b : Bound x t) (low : Lowest e) where
    power-value : valued ν val (put (free (var x)) e []) ≡ raiseE b.product e
    unfolding valued
    power-value = go (isZero e) refl
      where
        go : (z : Bool) → isZero e ≡ z → valued ν val (put (free (var x)) e []) ≡ raiseE b.product e
        go true i = rw (i, put) (sym (ap (raiseE b.product) (zero-is-nought e low i) ∙ raise-nought ν law tells b.product (proper x t b)))
        go false i = rw (i, put) (merge-scalar ν (raiseE (val (free (var x))) e) ∙ ap (λ (p : Product N). raiseE p e) (value-is x t b))

    power-fits : All (Fit ν Held σ) (collect openOfFactor (put (free (var x)) e []))
    unfolding collect
    power-fits = go (isZero e) refl
      where
        go : (z : Bool) → isZero e ≡ z → All (Fit ν Held σ) (collect openOfFactor (put (free (var x)) e []))
        go true i = rw (i, put) (all_nil (Fit ν Held σ))
        go false i = rw (i, put) (all_cons (Fit ν Held σ) (fits x t b) (all_nil (Fit ν Held σ)))

    pub of-power : (v : N) → Fact (equal (its v) (dim (put (free (var x)) e []))) → Matches v (dim (raiseE b.product e))
    of-power v h = record {
      same = put-in v (put (free (var x)) e []) h.formed power-fits h.true-under ∙ ap (λ (p : Product N). plain (dim p) false) power-value;
      closed = each-closed _ (raise-on Never ν b.product e (closed-each b.product b.closed));
    }

  -- v = l r^e
  module _ (l r : N) (e : Exp) (s t : Ty N) (a : Bound l s) (b : Bound r t) (raised : Proper ν Held (raiseE b.product e)) where
    left_one : raiseE (val (free (var l))) one ≡ a.product
    left_one = ap (λ (p : Product N). raiseE p one) (value-is l s a) ∙ raise-one ν law tells a.product (proper l s a)

    right-e : raiseE (val (free (var r))) e ≡ raiseE b.product e
    right-e = ap (λ (p : Product N). raiseE p e) (value-is r t b)

    two-value : valued ν val (twoFactors ν l r e) ≡ mergeE ν a.product (raiseE b.product e)
    unfolding valued twoFactors
    two-value = go (ν.order l r) refl
      where
        left-first : mergeE ν (raiseE (val (free (var l))) one) (mergeE ν (raiseE (val (free (var r))) e) []) ≡ mergeE ν a.product (raiseE b.product e)
        left-first = ap₂ (mergeE ν) left_one (merge-scalar ν _ ∙ right-e)

        right-first : mergeE ν (raiseE (val (free (var r))) e) (mergeE ν (raiseE (val (free (var l))) one) []) ≡ mergeE ν a.product (raiseE b.product e)
        right-first = ap₂ (mergeE ν) right-e (merge-scalar ν _ ∙ left_one) ∙ merge-comm ν law tells (raiseE b.product e) a.product raised (proper l s a)

        go : (o : Ordering) → ν.order l r ≡ o → valued ν val (twoFactors ν l r e) ≡ mergeE ν a.product (raiseE b.product e)
        go Ordering.lt i = rw (i, twoFactors) left-first
        go Ordering.eq i = rw (i, twoFactors) left-first
        go Ordering.gt i = rw (i, twoFactors) right-first

    two_fits : All (Fit ν Held σ) (collect openOfFactor (twoFactors ν l r e))
    unfolding collect twoFactors
    two_fits = go (ν.order l r) refl
      where
        F : Open N → Type 0
        F = Fit ν Held σ

        go : (o : Ordering) → ν.order l r ≡ o → All (Fit ν Held σ) (collect openOfFactor (twoFactors ν l r e))
        go Ordering.lt i = rw (i, twoFactors) (all_cons F (fits l s a) (all_cons F (fits r t b) (all_nil F)))
        go Ordering.eq i = rw (i, twoFactors) (all_cons F (fits l s a) (all_cons F (fits r t b) (all_nil F)))
        go Ordering.gt i = rw (i, twoFactors) (all_cons F (fits r t b) (all_cons F (fits l s a) (all_nil F)))

    of_two : (v : N) → Fact (equal (its v) (dim (twoFactors ν l r e))) → Matches v (dim (mergeE ν a.product (raiseE b.product e)))
    of_two v h = record {
      same = put-in v (twoFactors ν l r e) h.formed two_fits h.true-under ∙ ap (λ (p : Product N). plain (dim p) false) two-value;
      closed = each-closed _ (merge_on Never ν a.product _ (closed-each a.product a.closed) (raise-on Never ν b.product e (closed-each b.product b.closed)));
    }

  -- ══ The other way: what makes the constraints of a step true ══

  pub same_true : (l r : N) → plain (typeOfVar l) false ≡ plain (typeOfVar r) false → TrueUnder ν bs ns (equal (its l) (its r))
  unfolding replaceTy
  same_true l r e = equals-holds ν bs ns (its l) (its r) (record { left = typeOfVar l; right = typeOfVar r; putLeft = refl; putRight = refl; same = e })

  pub closed-true : (v : N) (t : Ty N) → Matches v t → TrueUnder ν bs ns (equal (its v) t)
  unfolding replaceTy
  closed-true v t m = equals-holds ν bs ns (its v) t
      (record { left = typeOfVar v; right = t; putLeft = refl; putRight = closed_same ν exact σ t m.closed; same = m.same })

  pub dimension-true : (v : N) (t : Ty N) → Bound v t → TrueUnder ν bs ns (isDim (its v))
  unfolding replaceTy
  dimension-true v t b = dimensional-holds ν bs ns (its v)
      (record { type = dim b.product; put_in = rw b.bound; holding = closed-holds ν ns b.product b.closed })

  put-true : (v : N) (p q : Product N) → goodCon ν held 0 (equal (its v) (dim p)) ≡ true → All (Fit ν Held σ) (collect openOfFactor p)
      → valued ν (value_of σ) p ≡ q → plain (typeOfVar v) false ≡ plain (dim q) false → TrueUnder ν bs ns (equal (its v) (dim p))
  unfolding goodCon goodTy replaceTy
  put-true v p q g f i e =
      let d = put-dim ν law held 0 tells σ σg p (and_right (goodTy ν held 0 (its v)) _ g) f in
      equals-holds ν bs ns (its v) (dim p)
      (record {
        left = typeOfVar v;
        right = d.type;
        putLeft = refl;
        putRight = d.put_in;
        same = e
            ∙ ap (λ (r : Product N). plain (dim r) false) (sym i) ∙ sym (d.reads false);
      })

  pub power-true : (x : N) (e : Exp) (t : Ty N) (b : Bound x t) → Lowest e → (v : N) → goodCon ν held 0 (equal (its v) (dim (put (free (var x)) e []))) ≡ true
      → Matches v (dim (raiseE b.product e)) → TrueUnder ν bs ns (equal (its v) (dim (put (free (var x)) e [])))
  power-true x e t b low v g m = put-true v _ _ g (power-fits x e t b low) (power-value x e t b low) m.same

  module _ (l r : N) (s t : Ty N) (a : Bound l s) (b : Bound r t) (v : N) where
    pub product-true : goodCon ν held 0 (equal (its v) (dim (twoFactors ν l r one))) ≡ true → Matches v (dim (mergeE ν a.product b.product))
        → TrueUnder ν bs ns (equal (its v) (dim (twoFactors ν l r one)))
    product-true g m =
        let e = raise-one ν law tells b.product (proper r t b) in
        let h = subst (Proper ν Held) (sym e) (proper r t b) in
        put-true v _ _ g (two_fits l r one s t a b h) (two-value l r one s t a b h ∙ ap (mergeE ν a.product) e) m.same

    pub quotient-true : goodCon ν held 0 (equal (its v) (dim (twoFactors ν l r (neg one)))) ≡ true
        → Matches v (dim (mergeE ν a.product (inverse b.product))) → TrueUnder ν bs ns (equal (its v) (dim (twoFactors ν l r (neg one))))
    quotient-true g m =
        let e = inverse-is ν law tells b.product (proper r t b) in
        let h = subst (Proper ν Held) e (inverse-proper ν law tells b.product (proper r t b)) in
        put-true v _ _ g (two_fits l r (neg one) s t a b h) (two-value l r (neg one) s t a b h ∙ ap (mergeE ν a.product) (sym e)) m.same

  module _ (l r : N) (s t : Ty N) (a : Bound l s) (b : Bound r t) (v : N) where
    pub of-product : Fact (equal (its v) (dim (twoFactors ν l r one))) → Matches v (dim (mergeE ν a.product b.product))
    of-product h =
        let e = raise-one ν law tells b.product (proper r t b) in
        subst (λ (p : Product N). Matches v (dim (mergeE ν a.product p))) e (of_two l r one s t a b (subst (Proper ν Held) (sym e) (proper r t b)) v h)

    pub of-quotient : Fact (equal (its v) (dim (twoFactors ν l r (neg one)))) → Matches v (dim (mergeE ν a.product (inverse b.product)))
    of-quotient h =
        let e = inverse-is ν law tells b.product (proper r t b) in
        subst (λ (p : Product N). Matches v (dim (mergeE ν a.product p))) (sym e)
        (of_two l r (neg one) s t a b (subst (Proper ν Held) e (inverse-proper ν law tells b.product (proper r t b))) v h)
