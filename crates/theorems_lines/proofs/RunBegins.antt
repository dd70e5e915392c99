-- A closed line that runs to its end: its set is as RunFlow says, each step's variable with the type that the run has for it.
use Rattle.std.proofs.Math.Path.{◌≡◌, refl, ap, sym, subst}
use Rattle.std.proofs.Common.{◌∙◌}
use Rattle.std.specs.Prelude.{Bool, true, false}
use Rattle.std.proofs.Math.Option.{Option, none, some}
use mathlib.Core.List.{List, [], ◌∷◌, ◌++◌, map, Memᴰ}
use Prim.Native.Nat.{Ordering}
use Rattle.rules.specs.Base.{exact}
use Rattle.rules.specs.Exponents.{Exp, one, neg, isZero}
use Rattle.rules.specs.Trees.{var, Atom, free, ◌↑◌, Product, Names, Ty, basic, dim, boolean, Con, equal, isDim, orderAtom, opens}
use Rattle.rules.specs.Views.{productOf}
use Rattle.rules.specs.Plain.{plain}
use Rattle.rules.specs.Products.{put, inverse, multiply, divide, raise}
use Rattle.rules.specs.Meaning.{means}
use Rattle.rules.specs.WellFormed.{goodTy}
use Rattle.laws.specs.Order.{Lawful, Tells}
use Rattle.laws.proofs.ByteOrder.{atom-lawful}
use Rattle.laws.specs.GoodProducts.{goodAtom}
use Rattle.laws.proofs.GoodProducts.{atom-tells, good-proper}
use Rattle.laws.proofs.RuleCases.{product-of}
use Rattle.laws.specs.ExactProducts.{mergeE, raiseE}
use Rattle.laws.proofs.ExactProducts.{scalar-merge, multiply-exact, divide-exact, raise-exact}
use Rattle.laws.specs.Fractions.{Lowest}
use Rattle.laws.proofs.Fractions.{one-lowest, neg-lowest, zero-is-nought}
use Rattle.laws.specs.Powers.{Proper}
use Rattle.laws.proofs.Powers.{raise-one, raise-nought, raise-proper, merge-proper, inverse-proper, inverse-is, scalar-proper}
use Rattle.laws.specs.Lists.{All, all_nil, all_cons, in_head, Every}
use Rattle.laws.proofs.Occurs.{each_opens, opens-each, merge_on, raise-on, inverse-on}
use Rattle.theorems_soundness.proofs.Alike.{same-means}
use Rattle.theorems_soundness.specs.Claims.{Ordered}
use Rattle.rules.specs.Steps.{
  Two,
  adds,
  subtracts,
  multiplies,
  divides,
  compares,
  LineStep,
  constant,
  reference,
  raises,
  joins,
  chooses,
  gives,
  raised,
  joined,
  chosen,
  takes,
}
use Rattle.rules.specs.Lines.{its, twoFactors, issuedByTwo, issued, constraints}
use Rattle.rules.specs.Running.{
  Fault,
  Ran,
  ran,
  fault,
  ◌>>=◌,
  asks,
  orFault,
  exactly,
  dimensionOf,
  alike,
  isCondition,
  sameDimensions,
  ofDimensions,
  doesTwo,
  does,
  run_from,
}
use Rattle.theorems_lines.proofs.Shut.{Never, Shut, scalar-shut}
use Rattle.theorems_lines.proofs.Stacks.{Ready}
use Rattle.theorems_lines.specs.FormedSteps.{FormedStep}
use Rattle.theorems_lines.proofs.Formed.{Apart, pushed, popped}
use Rattle.theorems_lines.proofs.RunFlow.{RSide, shut, pair, RTerm, side, half, two, dimension, equality, Other, RFlow, end, beside, define}

-- ══ What a run that goes on has found ══

ran-step : {A B : Type 0} (m : Ran A) (f : A → Ran B) (b : B) → (m >>= f) ≡ ran b → (a : A) × (m ≡ ran a) × (f a ≡ ran b)
ran-step (ran a) f b e = (a, refl, e)
ran-step (fault k) f b e = absurd (cc)

asked : (b : Bool) (k : Fault) (u : Unit {0}) → asks b k ≡ ran u → b ≡ true
asked true k u e = refl
asked false k u e = absurd (cc)

module _ {N : Type 0} (ν : Names N) where
  dimension-ran : (t : Ty N) (p : Product N) → dimensionOf ν t ≡ ran p → t ≡ dim p
  unfolding dimensionOf
  dimension-ran t p e = go (productOf t) refl e
    where
      go : (o : Option (Product N)) → productOf t ≡ o → orFault Fault.notDimension o ≡ ran p → t ≡ dim p
      go none i h = absurd (cc)
      go (some q) i h = let j : q ≡ p = cc in product-of t q i ∙ ap dim j

  record Dims (s t : Ty N) : Type 0 where
    left : Product N
    right : Product N
    is-left : s ≡ dim left
    is_right : t ≡ dim right

  power-ran : (s u : Ty N) (e : Exp) → does ν (raised e s) ≡ ran u → (d : Product N) × (s ≡ dim d) × (dim (raiseE d e) ≡ u)
  unfolding does
  power-ran s u e h =
      let a = ran-step (dimensionOf ν s) _ u h in
      let b = ran-step (exactly (raise ν exact a.0 e)) _ u a.2 in
      let c : ran (raiseE a.0 e) ≡ ran b.0 = sym (ap exactly (raise-exact ν a.0 e)) ∙ b.1 in
      let d : raiseE a.0 e ≡ b.0 = cc in
      (a.0, dimension-ran s a.0 a.1, ap dim d ∙ cc b.2)

  same-ran : (s t x u : Ty N) → sameDimensions ν s t x ≡ ran u → Dims s t × (plain s false ≡ plain t false) × (x ≡ u)
  unfolding sameDimensions alike
  same-ran s t x u h =
      let a = ran-step (dimensionOf ν s) _ u h in
      let b = ran-step (dimensionOf ν t) _ u a.2 in
      let c = ran-step (asks (means ν s t) Fault.unequal) _ u b.2 in (
        record { left = a.0; right = b.0; is-left = dimension-ran s a.0 a.1; is_right = dimension-ran t b.0 b.1 },
        same-means ν s t (asked (means ν s t) Fault.unequal c.0 c.1),
        cc c.2,
      )

  product-ran : (s t u : Ty N) → doesTwo ν multiplies s t ≡ ran u → (d : Dims s t) × (dim (mergeE ν d.left d.right) ≡ u)
  unfolding doesTwo ofDimensions
  product-ran s t u h =
      let a = ran-step (dimensionOf ν s) _ u h in
      let b = ran-step (dimensionOf ν t) _ u a.2 in
      let c = ran-step (exactly (multiply ν exact a.0 b.0)) _ u b.2 in
      let e : ran (mergeE ν a.0 b.0) ≡ ran c.0 = sym (ap exactly (multiply-exact ν a.0 b.0)) ∙ c.1 in
      let g : mergeE ν a.0 b.0 ≡ c.0 = cc in
      (record { left = a.0; right = b.0; is-left = dimension-ran s a.0 a.1; is_right = dimension-ran t b.0 b.1 }, ap dim g ∙ cc c.2)

  quotient-ran : (s t u : Ty N) → doesTwo ν divides s t ≡ ran u → (d : Dims s t) × (dim (mergeE ν d.left (inverse d.right)) ≡ u)
  unfolding doesTwo ofDimensions
  quotient-ran s t u h =
      let a = ran-step (dimensionOf ν s) _ u h in
      let b = ran-step (dimensionOf ν t) _ u a.2 in
      let c = ran-step (exactly (divide ν exact a.0 b.0)) _ u b.2 in
      let e : ran (mergeE ν a.0 (inverse b.0)) ≡ ran c.0 = sym (ap exactly (divide-exact ν a.0 b.0)) ∙ c.1 in
      let g : mergeE ν a.0 (inverse b.0) ≡ c.0 = cc in
      (record { left = a.0; right = b.0; is-left = dimension-ran s a.0 a.1; is_right = dimension-ran t b.0 b.1 }, ap dim g ∙ cc c.2)

  choice-ran : (c s t u : Ty N) → does ν (chosen c s t) ≡ ran u → (plain c false ≡ plain (basic boolean) false) × (plain s false ≡ plain t false) × (s ≡ u)
  unfolding does isCondition alike
  choice-ran c s t u h =
      let a = ran-step (asks (means ν c (basic boolean)) Fault.notBoolean) _ u h in
      let b = ran-step (asks (means ν s t) Fault.unequal) _ u a.2 in
      (same-means ν c (basic boolean) (asked _ Fault.notBoolean a.0 a.1), same-means ν s t (asked _ Fault.unequal b.0 b.1), cc b.2)

-- ══ Step after step ══

module _ {N : Type 0} (ν : Names N) (held : N → Bool) (ord : Ordered ν held) where
  abbrev law : Lawful (orderAtom ν)
  law = atom-lawful ν ord.lawful

  abbrev Held : Atom N → Type 0
  Held a = goodAtom ν held 0 a ≡ true

  abbrev tells : Tells (λ a. goodAtom ν held 0 a ≡ true) (orderAtom ν)
  tells = atom-tells ν held 0 ord.tells

  abbrev F : List (N × Ty N) → List (Con N) → Type 0
  F = RFlow ν law tells

  abbrev Side : List (N × Ty N) → Ty N → Ty N → Type 0
  Side = RSide ν law tells

  abbrev Term : List (N × Ty N) → Ty N → Ty N → Type 0
  Term = RTerm ν law tells

  -- ══ Types of the run ══

  -- a type of the run: closed, and its product, if it is a dimension, is one of exact arithmetic
  pub record Sound (t : Ty N) : Type 0 where
    pub closed : Shut t
    pub proper : (d : Product N) → t ≡ dim d → Proper ν Held d

  dim-sound : (p : Product N) → Shut (dim p) → Proper ν Held p → Sound (dim p)
  dim-sound p h k = record { closed = h; proper = λ d e. let i : p ≡ d = cc in subst (Proper ν Held) i k }

  boolean-sound : Sound (basic boolean)
  unfolding opens
  boolean-sound = record { closed = all_nil Never; proper = λ d e. absurd (cc) }

  type-sound : (t : Ty N) → opens t ≡ [] → goodTy ν held 0 t ≡ true → Sound t
  unfolding goodTy
  type-sound t c g = record { closed = rw c (all_nil Never); proper = λ d e. good-proper ν law held 0 d (rw e at g) }

  power-sound : (d : Product N) (e : Exp) → Shut (dim d) → Proper ν Held d → Lowest e → Sound (dim (raiseE d e))
  unfolding opens
  power-sound d e h k low = dim-sound (raiseE d e) (each_opens Never (raiseE d e) (raise-on Never ν d e (opens-each Never d h)))
      (raise-proper ν law tells d e k low)

  product-sound : (p q : Product N) → Shut (dim p) → Shut (dim q) → Proper ν Held p → Proper ν Held q → Sound (dim (mergeE ν p q))
  unfolding opens
  product-sound p q h k hp kp = dim-sound (mergeE ν p q)
      (each_opens Never (mergeE ν p q) (merge_on Never ν p q (opens-each Never p h) (opens-each Never q k))) (merge-proper ν law tells p q hp kp)

  inverse-shut : (q : Product N) → Shut (dim q) → Shut (dim (inverse q))
  unfolding opens
  inverse-shut q k = each_opens Never (inverse q) (inverse-on Never ν q (opens-each Never q k))

  -- ══ The stack of the run ══

  -- a pair on the stack
  abbrev pub OnStack : List (N × Ty N) → List (N × Ty N) → Type 0
  OnStack K [] = Unit {0}
  OnStack K (p ∷ st) = Memᴰ p K × Sound p.1 × OnStack K st

  wider : (K : List (N × Ty N)) (p : N × Ty N) (st : List (N × Ty N)) → OnStack K st → OnStack (p ∷ K) st
  wider K p [] h = tt
  wider K p (q ∷ st) h = (Memᴰ.tail h.0, h.1, wider K p st h.2)

  -- ══ What one step issues, in front of what comes behind ══

  module _ {K : List (N × Ty N)} (v : N) (new : All (Other ν law tells v) K) where
    -- the definition of v, in front of what comes behind
    def : (u : Ty N) {t : Ty N} {cs : List (Con N)} → Sound u → Term K t u → F ((v, u) ∷ K) cs → F K (equal (its v) t ∷ cs)
    def u s t f = define v u s.closed new t f

    power-term : (x : N) (e : Exp) (d : Product N) → Memᴰ (x, dim d) K → Lowest e → Proper ν Held d → Term K (dim (put (free (var x)) e [])) (dim (raiseE d e))
    power-term x e d m low dp = go (isZero e) refl
      where
        go : (z : Bool) → isZero e ≡ z → Term K (dim (put (free (var x)) e [])) (dim (raiseE d e))
        go true i =
            let j : raiseE d e ≡ [] = ap (raiseE d) (zero-is-nought e low i) ∙ raise-nought ν law tells d dp in
            rw (i, put) (subst (λ (p : Product N). Term K (dim []) (dim p)) (sym j) (side (shut (dim []) scalar-shut)))
        go false i = rw (i, put) (subst (λ (p : Product N). Term K (dim (free (var x) ↑ e ∷ [])) (dim p)) (scalar-merge ν (raiseE d e))
            (half x e [] d m low scalar-shut (scalar-proper ν law tells) dp))

    apart : (l r : N) → held l ≡ true → held r ≡ true → ¬ (l ≡ r) → ¬ (ν.order l r ≡ Ordering.eq)
    apart l r h k n e = n (ord.tells.same l r h k e)

    product_term : (l r : N) (p q : Product N) → Memᴰ (l, dim p) K → Memᴰ (r, dim q) K → ¬ (ν.order l r ≡ Ordering.eq) → Proper ν Held p
        → Proper ν Held q → Term K (dim (twoFactors ν l r one)) (dim (mergeE ν p q))
    product_term l r p q m n o pp qp = subst (λ (x : Product N). Term K (dim (twoFactors ν l r one)) (dim (mergeE ν p x)))
        (raise-one ν law tells q qp) (two l r one p q m n o one-lowest pp qp)

    quotient-term : (l r : N) (p q : Product N) → Memᴰ (l, dim p) K → Memᴰ (r, dim q) K → ¬ (ν.order l r ≡ Ordering.eq) → Proper ν Held p
        → Proper ν Held q → Term K (dim (twoFactors ν l r (neg one))) (dim (mergeE ν p (inverse q)))
    quotient-term l r p q m n o pp qp = subst (λ (x : Product N). Term K (dim (twoFactors ν l r (neg one))) (dim (mergeE ν p x)))
        (sym (inverse-is ν law tells q qp)) (two l r (neg one) p q m n o (neg-lowest one one-lowest) pp qp)

    asks-dim : (x : N) (t : Ty N) (d : Product N) → t ≡ dim d → Memᴰ (x, t) K → {cs : List (Con N)} → F K cs → F K (isDim (its x) ∷ cs)
    asks-dim x t d e m f = beside (dimension d (subst (λ (u : Ty N). Side K (its x) u) e (pair x t m))) f

    -- what a step leaves, and its constraints in front of what comes behind
    record Stepped (u : Ty N) (issues : List (Con N)) : Type 0 where
      sound : Sound u
      front : (cs : List (Con N)) → F ((v, u) ∷ K) cs → F K (issues ++ cs)

    power-step : (x : N) (t u : Ty N) (e : Exp) → Memᴰ (x, t) K → Sound t → Lowest e → does ν (raised e t) ≡ ran u → Stepped u (issued ν v (raised e x))
    unfolding issued
    power-step x t u e m s low h =
        let a = power-ran ν t u e h in
        let dp = s.proper a.0 a.1 in
        let m' = subst (λ (w : Ty N). Memᴰ (x, w) K) a.1 m in
        subst (λ (w : Ty N). Stepped w (isDim (its x) ∷ equal (its v) (dim (put (free (var x)) e [])) ∷ [])) a.2 (record {
          sound = power-sound a.0 e (subst Shut a.1 s.closed) dp low;
          front = λ cs f. asks-dim x t a.0 a.1 m
              (def (dim (raiseE a.0 e)) (power-sound a.0 e (subst Shut a.1 s.closed) dp low) (power-term x e a.0 m' low dp) f);
        })

    module _ (l r : N) (s t : Ty N) (m : Memᴰ (l, s) K) (n : Memᴰ (r, t) K) (ls : Sound s) (rs : Sound t) (o : ¬ (ν.order l r ≡ Ordering.eq)) where
      both-dims : (d : Dims ν s t) → {cs : List (Con N)} → F K cs → F K (isDim (its l) ∷ isDim (its r) ∷ cs)
      both-dims d f = asks-dim l s d.left d.is-left m (asks-dim r t d.right d.is_right n f)

      sides-equal : plain s false ≡ plain t false → {cs : List (Con N)} → F K cs → F K (equal (its l) (its r) ∷ cs)
      sides-equal e f = beside (equality (pair l s m) (pair r t n) e) f

      product-step : (d : Dims ν s t) → Sound (dim (mergeE ν d.left d.right))
      product-step d = product-sound d.left d.right (subst Shut d.is-left ls.closed) (subst Shut d.is_right rs.closed) (ls.proper d.left d.is-left)
          (rs.proper d.right d.is_right)

      quotient-step : (d : Dims ν s t) → Sound (dim (mergeE ν d.left (inverse d.right)))
      quotient-step d = product-sound d.left (inverse d.right) (subst Shut d.is-left ls.closed)
          (inverse-shut d.right (subst Shut d.is_right rs.closed)) (ls.proper d.left d.is-left)
          (inverse-proper ν law tells d.right (rs.proper d.right d.is_right))

      left-mem : (d : Dims ν s t) → Memᴰ (l, dim d.left) K
      left-mem d = subst (λ (w : Ty N). Memᴰ (l, w) K) d.is-left m

      right-mem : (d : Dims ν s t) → Memᴰ (r, dim d.right) K
      right-mem d = subst (λ (w : Ty N). Memᴰ (r, w) K) d.is_right n

      two-step : (k : Two) (u : Ty N) → does ν (joined k s t) ≡ ran u → Stepped u (issued ν v (joined k l r))
      unfolding issued issuedByTwo does doesTwo
      two-step adds u h =
          let a = same-ran ν s t s u h in
          subst (λ (w : Ty N). Stepped w (issuedByTwo ν v adds l r)) a.2
          (record { sound = ls; front = λ cs f. both-dims a.0 (sides-equal a.1 (def s ls (side (pair l s m)) f)) })
      two-step subtracts u h =
          let a = same-ran ν s t s u h in
          subst (λ (w : Ty N). Stepped w (issuedByTwo ν v subtracts l r)) a.2
          (record { sound = ls; front = λ cs f. both-dims a.0 (sides-equal a.1 (def s ls (side (pair l s m)) f)) })
      two-step compares u h =
          let a = same-ran ν s t (basic boolean) u h in
          subst (λ (w : Ty N). Stepped w (issuedByTwo ν v compares l r)) a.2
          (record {
            sound = boolean-sound;
            front = λ cs f. both-dims a.0 (sides-equal a.1
                (def (basic boolean) boolean-sound (side (shut (basic boolean) boolean-sound.closed)) f));
          })
      two-step multiplies u h =
          let a = product-ran ν s t u h in
          let d = a.0 in
          subst (λ (w : Ty N). Stepped w (issuedByTwo ν v multiplies l r)) a.1
          (record {
            sound = product-step d;
            front = λ cs f. both-dims d (def (dim (mergeE ν d.left d.right)) (product-step d)
                (product_term l r d.left d.right (left-mem d) (right-mem d) o (ls.proper d.left d.is-left) (rs.proper d.right d.is_right)) f);
          })
      two-step divides u h =
          let a = quotient-ran ν s t u h in
          let d = a.0 in
          subst (λ (w : Ty N). Stepped w (issuedByTwo ν v divides l r)) a.1
          (record {
            sound = quotient-step d;
            front = λ cs f. both-dims d (def (dim (mergeE ν d.left (inverse d.right))) (quotient-step d)
                (quotient-term l r d.left d.right (left-mem d) (right-mem d) o (ls.proper d.left d.is-left) (rs.proper d.right d.is_right)) f);
          })

      choice-step : (c : N) (w u : Ty N) → Memᴰ (c, w) K → does ν (chosen w s t) ≡ ran u → Stepped u (issued ν v (chosen c l r))
      unfolding issued
      choice-step c w u k h =
          let a = choice-ran ν w s t u h in
          subst (λ (x : Ty N). Stepped x (equal (its c) (basic boolean) ∷ equal (its l) (its r) ∷ equal (its v) (its l) ∷ [])) a.2
          (record {
            sound = ls;
            front = λ cs f. beside (equality (pair c w k) (shut (basic boolean) boolean-sound.closed) a.0)
                (sides-equal a.1 (def s ls (side (pair l s m)) f));
          })

  -- ══ Step after step ══

  abbrev names : List (N × Ty N) → List N
  names st = map (λ (p : N × Ty N). p.0) st

  abbrev typesOn : List (N × Ty N) → List (Ty N)
  typesOn st = map (λ (p : N × Ty N). p.1) st

  -- names that were used before are not among those to come
  abbrev Used : List (N × Ty N) → List N → Type 0
  Used K vs = All (λ p. ¬ (Memᴰ p.0 vs)) K

  unlike : {K : List (N × Ty N)} (v : N) (vs : List N) → Used K (v ∷ vs) → All (Other ν law tells v) K
  unlike v vs h p m e = h p m (Memᴰ.head e)

  used-on : {K : List (N × Ty N)} (v : N) (u : Ty N) (vs : List N) → ¬ (Memᴰ v vs) → Used K (v ∷ vs) → Used ((v, u) ∷ K) vs
  used-on v u vs n h = all_cons _ n (λ p m i. h p m (Memᴰ.tail i))

  two-apart : (l r : N) (st vs : List N) → Apart ν held ord (r ∷ l ∷ st) vs → ¬ (ν.order l r ≡ Ordering.eq)
  two-apart l r st vs a e = a.stack.0 (Memᴰ.head (sym (ord.tells.same l r a.stack-held.1.0 a.stack-held.0 e)))

  -- a constant or a reference
  type-first : (v : N) (vs : List N) (K st : List (N × Ty N)) (left : List (Ty N)) (t : Ty N) (ss : List (LineStep N)) → OnStack K st
      → Apart ν held ord (names st) (v ∷ vs) → Used K (v ∷ vs) → Sound t
      → (ran t >>= λ t. run_from ν (t ∷ typesOn st) ss) ≡ ran left
      → (OnStack ((v, t) ∷ K) ((v, t) ∷ st) → Apart ν held ord (names ((v, t) ∷ st)) vs → Used ((v, t) ∷ K) vs
      → run_from ν (typesOn ((v, t) ∷ st)) ss ≡ ran left → F ((v, t) ∷ K) (constraints ν vs (names ((v, t) ∷ st)) ss))
      → F K (issued ν v (gives t) ++ constraints ν vs (v ∷ names st) ss)
  unfolding issued
  type-first v vs K st left t ss h a d s e more =
      def v (unlike v vs d) t s (side (shut t s.closed))
      (more (in_head, s, wider K (v, t) st h) (pushed ν held ord v (names st) vs a) (used-on v t vs a.coming.0 d) e)

  pub begins : (ss : List (LineStep N)) (vs : List N) (K st : List (N × Ty N)) (left : List (Ty N)) → OnStack K st → Apart ν held ord (names st) vs
      → Used K vs → Every Ready ss → Every (FormedStep ν held) ss
      → run_from ν (typesOn st) ss ≡ ran left → F K (constraints ν vs (names st) ss)
  unfolding constraints takes run_from does
  begins [] vs K st left h a d r g e = end
  begins (s ∷ ss) [] K st left h a d r g e = end
  begins (constant t ∷ ss) (v ∷ vs) K st left h a d r g e =
      type-first v vs K st left t ss h a d (type-sound t r.0 g.0.0) e (λ h' a' d' e'. begins ss vs ((v, t) ∷ K) ((v, t) ∷ st) left h' a' d' r.1 g.1 e')
  begins (reference t ∷ ss) (v ∷ vs) K st left h a d r g e =
      type-first v vs K st left t ss h a d (type-sound t r.0 g.0) e (λ h' a' d' e'. begins ss vs ((v, t) ∷ K) ((v, t) ∷ st) left h' a' d' r.1 g.1 e')
  begins (raises x ∷ ss) (v ∷ vs) K [] left h a d r g e = end
  begins (raises x ∷ ss) (v ∷ vs) K (p ∷ st) left h a d r g e =
      let b = ran-step (does ν (raised x p.1)) (λ t. run_from ν (t ∷ typesOn st) ss) left e in
      let s = power-step v (unlike v vs d) p.0 p.1 b.0 x h.0 h.1 r.0 b.1 in
      let a' = pushed ν held ord v (names st) vs (popped ν held ord p.0 (names st) (v ∷ vs) a) in
      s.front _ (begins ss vs ((v, b.0) ∷ K) ((v, b.0) ∷ st) left (in_head, s.sound, wider K (v, b.0) st h.2) a' (used-on v b.0 vs a.coming.0 d) r.1 g.1 b.2)
  begins (joins o ∷ ss) (v ∷ vs) K [] left h a d r g e = end
  begins (joins o ∷ ss) (v ∷ vs) K (q ∷ []) left h a d r g e = end
  begins (joins o ∷ ss) (v ∷ vs) K (q ∷ p ∷ st) left h a d r g e =
      let b = ran-step (does ν (joined o p.1 q.1)) (λ t. run_from ν (t ∷ typesOn st) ss) left e in
      let s = two-step v (unlike v vs d) p.0 q.0 p.1 q.1 h.2.0 h.0 h.2.1 h.1 (two-apart p.0 q.0 (names st) (v ∷ vs) a) o b.0 b.1 in
      let a' = pushed ν held ord v (names st) vs (popped ν held ord p.0 (names st) (v ∷ vs) (popped ν held ord q.0 (p.0 ∷ names st) (v ∷ vs) a)) in
      s.front _ (begins ss vs ((v, b.0) ∷ K) ((v, b.0) ∷ st) left (in_head, s.sound, wider K (v, b.0) st h.2.2) a' (used-on v b.0 vs a.coming.0 d) r.1 g.1 b.2)
  begins (chooses ∷ ss) (v ∷ vs) K [] left h a d r g e = end
  begins (chooses ∷ ss) (v ∷ vs) K (q ∷ []) left h a d r g e = end
  begins (chooses ∷ ss) (v ∷ vs) K (q ∷ p ∷ []) left h a d r g e = end
  begins (chooses ∷ ss) (v ∷ vs) K (q ∷ p ∷ c ∷ st) left h a d r g e =
      let b = ran-step (does ν (chosen c.1 p.1 q.1)) (λ t. run_from ν (t ∷ typesOn st) ss) left e in
      let s = choice-step v (unlike v vs d) p.0 q.0 p.1 q.1 h.2.0 h.0 h.2.1 h.1 (two-apart p.0 q.0 (c.0 ∷ names st) (v ∷ vs) a) c.0 c.1 b.0 h.2.2.0 b.1 in
      let a' = pushed ν held ord v (names st) vs
      (popped ν held ord c.0 (names st) (v ∷ vs)
      (popped ν held ord p.0 (c.0 ∷ names st) (v ∷ vs) (popped ν held ord q.0 (p.0 ∷ c.0 ∷ names st) (v ∷ vs) a))) in
      s.front _ (begins ss vs ((v, b.0) ∷ K) ((v, b.0) ∷ st) left (in_head, s.sound, wider K (v, b.0) st h.2.2.2) a' (used-on v b.0 vs a.coming.0 d)
      r.1 g.1 b.2)
