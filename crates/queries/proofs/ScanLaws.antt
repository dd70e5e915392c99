-- The open names of records that hold a tree are those of the tree.
use Rattle.std.specs.Prelude.{◌≡◌, Bool, true, false, ◌||◌, length}
use Rattle.std.proofs.Math.Path.{refl, ap}
use Rattle.std.proofs.Common.{sym, ap₂, ◌∙◌, add-zero}
use mathlib.Core.List.{List, [], ◌∷◌, ◌++◌, append_assoc}
use Prim.Native.Nat.{ℕ, zero, suc, ◌+◌, ◌-◌, ◌<◌, ◌≤◌}
use native.Mathlib.Omega.{arith}
use Rattle.rules.specs.Base.{any, collect, isNil}
use Rattle.rules.specs.Exponents.{frac}
use Rattle.rules.specs.Trees as tree
use Rattle.rules.specs.Trees.{
  ◌↑◌,
  Product,
  Ty,
  opened,
  basic,
  dim,
  fn,
  struct,
  list,
  Tys,
  nil,
  cons,
  Fields,
  noFields,
  field,
  Con,
  equal,
  isDim,
  is_scalar,
  hasField,
  Binding,
  ◌≔◌,
  openOfFactor,
  opens,
  opensTys,
  opensFields,
  opensCon,
  size,
  sizeTys,
  sizeFields,
  sizeCon,
  sizeBinding,
}
use Rattle.rules.specs.Contents.{variablesIn, parametersIn, namesIn}
use Rattle.rules.specs.Calls.{opensBinding}
use Rattle.laws.proofs.Contents.{any_append, collect-append}
use Rattle.records.specs.Views.{viewAt}
use Rattle.records.specs.Holds.{Shows, HoldsFactors, HoldsProduct, Holds, HoldsTys, HoldsFields, HoldsCon, HoldsBinding}
use Rattle.records.specs.ByView.{open-back}
use Rattle.records.specs.Good.{Chain}
use Rattle.records.specs.declared.View.{View}
use Rattle.queries.specs.declared.Kind.{Kind}
use Rattle.queries.specs.declared.Kind.TheVariants.{Variables, Parameters, Both}
use Rattle.queries.specs.Scans.{choose, opensView, opensFrom, opensIn}

-- ══ The names of a kind ══

pub choose-append : (k : Kind) (os ps : List (tree.Open ℕ)) → choose k (os ++ ps) ≡ choose k os ++ choose k ps
unfolding variablesIn parametersIn namesIn
choose-append Variables os ps = collect-append _ os ps
choose-append Parameters os ps = collect-append _ os ps
choose-append Both os ps = collect-append _ os ps

pub choose-none : (k : Kind) → choose k [] ≡ []
unfolding variablesIn parametersIn namesIn collect
choose-none Variables = refl
choose-none Parameters = refl
choose-none Both = refl

pub choose-quant : (k : Kind) (i : ℕ) → choose k (tree.quant i ∷ []) ≡ []
unfolding variablesIn parametersIn namesIn collect
choose-quant Variables i = refl
choose-quant Parameters i = refl
choose-quant Both i = refl

module _ (s : List ℕ) where
  -- ══ Records one by one ══

  pub opens-none : (i e : ℕ) → e ≤ i → opensIn s i e ≡ []
  unfolding opensFrom
  opens-none i e h = let z : e - i ≡ 0 = omega arith in rw z

  pub opens-step : (i e : ℕ) → i < e → opensIn s i e ≡ opensView (viewAt s i) ++ opensIn s (i + 1) e
  unfolding opensFrom
  opens-step i e h = let z : e - i ≡ suc (e - (i + 1)) = omega arith in rw z

  pub opens-join : (n m at : ℕ) → opensFrom s (n + m) at ≡ opensFrom s n at ++ opensFrom s m (at + n)
  unfolding opensFrom
  opens-join zero m at = let z : 0 + m ≡ m = omega arith in rw (add-zero at, z)
  opens-join (suc n) m at =
      let z : suc n + m ≡ suc (n + m) = omega arith in
      let q : at + 1 + n ≡ at + suc n = omega arith in
      rw (z, opens-join n m (at + 1), q) (sym (append_assoc (opensView (viewAt s at)) _ _))

  -- the records from i on, by the first of them
  module _ (i e : ℕ) (h : i < e) where
    pub names-step : (k : Kind) → choose k (opensIn s i e) ≡ choose k (opensView (viewAt s i)) ++ choose k (opensIn s (i + 1) e)
    names-step k = ap (choose k) (opens-step i e h) ∙ choose-append k (opensView (viewAt s i)) (opensIn s (i + 1) e)

    any_step : (k : Kind) (p : ℕ → Bool)
        → any p (choose k (opensIn s i e)) ≡ (any p (choose k (opensView (viewAt s i))) || any p (choose k (opensIn s (i + 1) e)))
    any_step k p = ap (any p) (names-step k) ∙ any_append p (choose k (opensView (viewAt s i))) (choose k (opensIn s (i + 1) e))

    pub any-hit : (k : Kind) (p : ℕ → Bool) → any p (choose k (opensView (viewAt s i))) ≡ true → any p (choose k (opensIn s i e)) ≡ true
    any-hit k p q = any_step k p ∙ ap (◌|| any p (choose k (opensIn s (i + 1) e))) q

    pub any-miss : (k : Kind) (p : ℕ → Bool) → any p (choose k (opensView (viewAt s i))) ≡ false
        → any p (choose k (opensIn s i e)) ≡ any p (choose k (opensIn s (i + 1) e))
    any-miss k p q = any_step k p ∙ ap (◌|| any p (choose k (opensIn s (i + 1) e))) q

    pub nil-hit : (o : tree.Open ℕ) → o ∷ [] ≡ opensView (viewAt s i) → isNil (opensIn s i e) ≡ false
    nil-hit o q = ap isNil (opens-step i e h ∙ ap (◌++ opensIn s (i + 1) e) (sym q))

    pub nil-miss : [] ≡ opensView (viewAt s i) → isNil (opensIn s i e) ≡ isNil (opensIn s (i + 1) e)
    nil-miss q = ap isNil (opens-step i e h ∙ ap (◌++ opensIn s (i + 1) e) (sym q))

  -- ══ Of a tree that is held ══

  one : (at n : ℕ) {v : View} → Shows s at v → opensFrom s (suc n) at ≡ opensView v ++ opensFrom s n (at + 1)
  unfolding opensFrom
  one at n e = rw e

  -- a part of n records and one of m
  two : {os ps : List (tree.Open ℕ)} (at n m : ℕ) → opensFrom s n at ≡ os → opensFrom s m (at + n) ≡ ps → opensFrom s (n + m) at ≡ os ++ ps
  two at n m p q = opens-join n m at ∙ ap₂ ◌++◌ p q

  factors-opens : (p : Product ℕ) (at : ℕ) → HoldsFactors s p at → opensFrom s (length p) at ≡ collect openOfFactor p
  unfolding HoldsFactors opensFrom collect
  factors-opens [] at h = refl
  factors-opens (tree.free o ↑ frac n d ∷ p) at h = one at (length p) h.0.0 ∙ rw (open-back o, factors-opens p (at + 1) h.1)
  factors-opens (tree.base x ↑ frac n d ∷ p) at h = one at (length p) h.0.0 ∙ factors-opens p (at + 1) h.1

  pub product-opens : (p : Product ℕ) (at : ℕ) → HoldsProduct s p at → opensFrom s (suc (length p)) at ≡ opens (dim p)
  unfolding HoldsProduct opens
  product-opens p at h = one at (length p) h.0 ∙ factors-opens p (at + 1) h.1

  mutual
    unfolding Holds HoldsProduct size opens opensFrom

    pub ty-opens : (t : Ty ℕ) (at : ℕ) → Holds s t at → opensFrom s (size t) at ≡ opens t
    ty-opens (opened o) at h = one at 0 h.0 ∙ rw (open-back o)
    ty-opens (basic b) at h = one at 0 h.0
    ty-opens (dim p) at h = product-opens p at h
    ty-opens (fn ps r) at h = one at (sizeTys ps + size r) h.0
        ∙ two (at + 1) (sizeTys ps) (size r) (tys-opens ps (at + 1) h.1) (ty-opens r (at + 1 + sizeTys ps) h.2)
    ty-opens (struct n as' fs) at h =
        one at (sizeTys as' + sizeFields fs) h.0
        ∙ two (at + 1) (sizeTys as') (sizeFields fs) (tys-opens as' (at + 1) h.1) (fields-opens fs (at + 1 + sizeTys as') h.2)
    ty-opens (list t) at h = one at (size t) h.0 ∙ ty-opens t (at + 1) h.1

    pub tys-opens : (ts : Tys ℕ) (at : ℕ) → HoldsTys s ts at → opensFrom s (sizeTys ts) at ≡ opensTys ts
    tys-opens nil at h = refl
    tys-opens (cons t ts) at h = two at (size t) (sizeTys ts) (ty-opens t at h.0) (tys-opens ts (at + size t) h.1)

    pub fields-opens : (fs : Fields ℕ) (at : ℕ) → HoldsFields s fs at → opensFrom s (sizeFields fs) at ≡ opensFields fs
    fields-opens noFields at h = refl
    fields-opens (field n t fs) at h =
        one at (size t + sizeFields fs) h.0 ∙ two (at + 1) (size t) (sizeFields fs) (ty-opens t (at + 1) h.1) (fields-opens fs (at + 1 + size t) h.2)

  -- from its first record up to its end
  pub type-opens : (t : Ty ℕ) (at : ℕ) → Holds s t at → opensIn s at (at + size t) ≡ opens t
  type-opens t at h = let z : at + size t - at ≡ size t = omega arith in rw z (ty-opens t at h)

  pub con-opens : (c : Con ℕ) (at : ℕ) → HoldsCon s c at → opensFrom s (sizeCon c) at ≡ opensCon c
  unfolding HoldsCon sizeCon size opensCon
  con-opens (equal l r) at h = one at (size l + size r) h.0 ∙ two (at + 1) (size l) (size r) (ty-opens l (at + 1) h.1) (ty-opens r (at + 1 + size l) h.2)
  con-opens (isDim t) at h = one at (size t) h.0 ∙ ty-opens t (at + 1) h.1
  con-opens (is_scalar p) at h = one at (suc (length p)) h.0 ∙ product-opens p (at + 1) h.1
  con-opens (hasField x l r) at h = one at (size l + size r) h.0 ∙ two (at + 1) (size l) (size r) (ty-opens l (at + 1) h.1) (ty-opens r (at + 1 + size l) h.2)

  pub binding-opens : (b : Binding ℕ) (at : ℕ) → HoldsBinding s b at → opensFrom s (sizeBinding b) at ≡ opensBinding b
  unfolding HoldsBinding sizeBinding opensBinding
  binding-opens (x ≔ t) at h = one at (size t) h.0 ∙ ap (tree.var x ∷◌) (ty-opens t (at + 1) h.1)

  -- of parts one after another, each from its place to its end
  module _ {A : Type 0} (P : ℕ → A → ℕ → Type 0) (of : A → List (tree.Open ℕ))
      (each : (at : ℕ) (a : A) (e : ℕ) → P at a e → (at ≤ e) × (opensIn s at e ≡ of a)) where
    pub chain-opens : (as' : List A) (at n : ℕ) → Chain P n as' at → (at ≤ n) × (opensIn s at n ≡ collect of as')
    unfolding collect
    chain-opens [] at n c = (omega (arith, c), opens-none at n (omega (arith, c)))
    chain-opens (a ∷ as') at n c =
        let e : ℕ = c.0 in
        let (l, p) = each at a e c.1.0 in
        let (k, q) = chain-opens as' e n c.1.1 in
        let z : n - at ≡ (e - at) + (n - e) = omega (arith, l, k) in
        let y : at + (e - at) ≡ e = omega (arith, l) in
        (omega (arith, l, k), rw z (two at (e - at) (n - e) p (rw y q)))
