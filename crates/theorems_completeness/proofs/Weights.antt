-- Every round of a wide set lowers a measure, so the rounds end. A round that binds takes away a constraint that may bind, and there are fewer than
-- a third as many of them as records; another round takes weight away, and weight is bounded by the records that a round may leave, 2,048.
use Rattle.std.specs.Prelude.{◌≡◌, Bool}
use Rattle.std.proofs.Math.Path.{refl, ap}
use Rattle.std.proofs.Common.{◌∙◌, sym, inl, inr, arith}
use Rattle.std.proofs.Math.Option.{Option, none, some}
use mathlib.Core.List.{List, [], ◌∷◌, ◌++◌, map, Memᴰ}
use Prim.Native.Nat.{ℕ, ◌+◌, ◌*◌, ◌<◌, ◌≤◌}
use Rattle.rules.specs.Base.{Got, got, refused, bounded, each, collect, sum_of}
use Rattle.rules.specs.Trees.{
  var,
  Product,
  Names,
  Ty,
  opened,
  basic,
  dim,
  fn,
  struct,
  list,
  Con,
  equal,
  isDim,
  is_scalar,
  hasField,
  ◌≔◌,
  openOfFactor,
  size,
  sizeCon,
}
use Rattle.rules.specs.Views.{productOf}
use Rattle.rules.specs.Contents.{namesIn}
use Rattle.rules.specs.Replacing.{Look, replaceFactors, replaceTy, replaceProduct, replaceCon, replaceBinding, bindings}
use Rattle.rules.specs.Rounds.{Step, bind, split, done, stuck, State, trySatisfy, taken, firstStep, sizeState, depthState, limited, perform, performed, round}
use Rattle.laws.specs.Lists.{in_head}
use Rattle.laws.proofs.Lists.{got≢refused, some≢none, one-step, two_steps, each-parts, bound-step}
use Rattle.laws.proofs.Sized.{sized_same, sized-small}
use Rattle.laws.proofs.RuleCases.{
  Rule,
  rule,
  none-applies,
  equal-records,
  binds,
  two-functions,
  two-lists,
  two-structs,
  as-product,
  two-dimensions,
  dimension,
  no-factor,
  first-factor,
  closed-struct,
}
use Rattle.laws.proofs.Turns.{found}
use Rattle.theorems_completeness.proofs.Sides.{sideIn, wideIn, wide-wide}
use Rattle.theorems_completeness.proofs.Rounds.{IsWide, outside, Fit}

-- ══ What is counted ══

module _ {N : Type 0} where
  -- the rounds to come before it is bound or gone, if nothing is bound meanwhile
  abbrev pub bothWeigh : Option (Product N) → Option (Product N) → ℕ
  bothWeigh none q = 3
  bothWeigh (some p) none = 3
  bothWeigh (some p) (some q) = 2

  abbrev pub dimWeighs : Option (Product N) → ℕ
  dimWeighs none = 0
  dimWeighs (some p) = 1

  abbrev pub weight : Con N → ℕ
  weight (equal s t) = bothWeigh (productOf s) (productOf t)
  weight (isDim t) = dimWeighs (productOf t)
  weight (is_scalar p) = 1
  weight (hasField n s t) = 1

  -- may it bind a variable: 1, or 0
  abbrev pub may : Con N → ℕ
  may (equal s t) = 1
  may (isDim t) = 0
  may (is_scalar []) = 0
  may (is_scalar (f ∷ p)) = 1
  may (hasField n s t) = 1

  may-one : (c : Con N) → may c ≤ 1
  may-one (equal s t) = omega arith
  may-one (isDim t) = omega arith
  may-one (is_scalar []) = omega arith
  may-one (is_scalar (f ∷ p)) = omega arith
  may-one (hasField n s t) = omega arith

  both-weigh : (p q : Option (Product N)) → (1 < bothWeigh p q) × (bothWeigh p q ≤ 3)
  both-weigh none q = (omega arith, omega arith)
  both-weigh (some p) none = (omega arith, omega arith)
  both-weigh (some p) (some q) = (omega arith, omega arith)

  dim-weighs : (p : Option (Product N)) → dimWeighs p ≤ 1
  dim-weighs none = omega arith
  dim-weighs (some p) = omega arith

  size-some : (t : Ty N) → 0 < size t
  unfolding size
  size-some (opened o) = omega arith
  size-some (basic b) = omega arith
  size-some (dim p) = omega arith
  size-some (fn ps r) = omega arith
  size-some (struct n as' fs) = omega arith
  size-some (list t) = omega arith

  -- by its records
  con-small : (c : Con N) → (3 * may c ≤ sizeCon c) × (weight c ≤ sizeCon c)
  unfolding sizeCon size
  con-small (equal s t) = (omega (arith, size-some s, size-some t), omega (arith, size-some s, size-some t, (both-weigh (productOf s) (productOf t)).1))
  con-small (isDim t) = (omega arith, omega (arith, dim-weighs (productOf t)))
  con-small (is_scalar []) = (omega arith, omega arith)
  con-small (is_scalar (f ∷ p)) = (omega arith, omega arith)
  con-small (hasField n s t) = (omega (arith, size-some s, size-some t), omega arith)

  all-small : (cs : List (Con N)) → (3 * sum_of may cs ≤ sum_of sizeCon cs) × (sum_of weight cs ≤ sum_of sizeCon cs)
  all-small [] = (omega arith, omega arith)
  all-small (c ∷ cs) = let a = all-small cs in let b = con-small c in (omega (arith, a.0, b.0), omega (arith, a.1, b.1))

  sums-append : (f : Con N → ℕ) (cs ds : List (Con N)) → sum_of f (cs ++ ds) ≡ sum_of f cs + sum_of f ds
  sums-append f [] ds = omega arith
  sums-append f (c ∷ cs) ds = omega (arith, sums-append f cs ds)

  -- a bound on the rounds to come, once a round has left at most 2,048 records
  abbrev pub measure : State N → ℕ
  measure s = 2049 * sum_of may s.cons + sum_of weight s.cons

  pub measure-small : (s : State N) → sizeState s ≤ 2048 → measure s < 1_579_264
  unfolding sizeState
  measure-small s h = let a = all-small s.cons in omega (arith, a.0, a.1)

-- ══ Replacing ══

module _ {N : Type 0} (ν : Names N) (look : Look N) where
  may-fewer : (c c' : Con N) → replaceCon ν bounded look c ≡ got c' → may c' ≤ may c
  unfolding replaceCon replaceProduct replaceFactors
  may-fewer (equal s t) c' e = let o = two_steps (replaceTy ν bounded look s) (λ _. replaceTy ν bounded look t) equal c' e in rw (sym o.both) (omega arith)
  may-fewer (isDim t) c' e = let o = one-step (replaceTy ν bounded look t) isDim c' e in rw (sym o.is) (omega arith)
  may-fewer (is_scalar []) c' e = let z : is_scalar [] ≡ c' = cc in rw (sym z) (omega arith)
  may-fewer (is_scalar (f ∷ p)) c' e = may-one c'
  may-fewer (hasField n s t) c' e = may-one c'

  all-fewer : (cs cs' : List (Con N)) → each (replaceCon ν bounded look) cs ≡ got cs' → sum_of may cs' ≤ sum_of may cs
  unfolding each
  all-fewer [] cs' e = let z : [] ≡ cs' = cc in rw (sym z) (omega arith)
  all-fewer (c ∷ cs) cs' e =
      let t = each-parts (replaceCon ν bounded look) c cs cs' e in
      rw (sym t.both) (omega (arith, may-fewer c t.first t.gave, all-fewer cs t.second t.then))

-- ══ A rule ══

module _ {N : Type 0} (ν : Names N) (w : Bool) where
  -- what a step from c takes away
  abbrev Lighter : Con N → Step N → Type 0
  Lighter c (bind x t) = may c ≡ 1
  Lighter c (split new) = (sum_of weight new < weight c) × (sum_of may new ≤ may c)
  Lighter c done = 0 < weight c
  Lighter c stuck = Unit {0}

  parts-light : (ns : List N) → (sum_of weight (map (λ x. isDim (opened (var x))) ns) ≡ 0) × (sum_of may (map (λ x. isDim (opened (var x))) ns) ≡ 0)
  parts-light [] = (refl, refl)
  parts-light (n ∷ ns) = let z = parts-light ns in (omega (arith, z.0), omega (arith, z.1))

  lighter : (c : Con N) (s : Step N) → IsWide w c → Rule ν bounded c s → Lighter c s
  unfolding wideIn sideIn
  lighter c s h (none-applies e) = rw e tt
  lighter c s h (equal-records t i e) = rw (e, i) (omega (arith, (both-weigh (productOf t) (productOf t)).0))
  lighter c s h (binds x side t (inl i) r a e) = rw (e, i) refl
  lighter c s h (binds x side t (inr i) r a e) = rw (e, i) refl
  lighter c s h (two-functions ps qs r q m i e) = outside w c _ h i refl
  lighter c s h (two-lists t u i e) = outside w c _ h i refl
  lighter c s h (two-structs m as' bs fs gs j i e) = outside w c _ h i refl
  lighter c s h (as-product x d (inl i) m e) = rw (e, i) (omega arith, omega arith)
  lighter c s h (as-product x d (inr i) m e) = rw (e, i) (omega arith, omega arith)
  lighter c s h (two-dimensions p q r j i e) = rw (e, i) (omega arith, omega (arith, may-one (is_scalar r)))
  lighter c s h (dimension p i e) = let z = parts-light (namesIn (collect openOfFactor p)) in rw (e, i) (omega (arith, z.0), omega (arith, z.1))
  lighter c s h (no-factor i e) = rw (e, i) (omega arith)
  lighter c s h (first-factor x k p q m i e) = rw (e, i) refl
  lighter c s h (closed-struct m o as' fs t u a f i e) = outside w c _ h i refl

-- ══ A round ══

module _ {N : Type 0} (ν : Names N) where
  -- the constraint that a step was made of; whatever is counted, it and the others make the whole
  record Weighed (cs : List (Con N)) (v : Step N × List (Con N)) : Type 0 where
    con : Con N
    given : Memᴰ con cs
    tried : trySatisfy ν bounded con ≡ got v.0
    weighs : (f : Con N → ℕ) → sum_of f cs ≡ f con + sum_of f v.1

  module _ (c : Con N) (cs : List (Con N)) (v : Step N × List (Con N))
      (again : (w : Step N × List (Con N)) → firstStep ν bounded cs ≡ got (some w) → Weighed cs w) where
    here : (s : Step N) → trySatisfy ν bounded c ≡ got s → (s, cs) ≡ v → Weighed (c ∷ cs) v
    here s i q = rw (sym q) (record { con = c; given = in_head; tried = i; weighs = λ f. refl })

    taken-weighed : (s : Step N) → trySatisfy ν bounded c ≡ got s → taken s c cs (λ _. firstStep ν bounded cs) ≡ got (some v) → Weighed (c ∷ cs) v
    unfolding taken
    taken-weighed (bind x t) i e = here (bind x t) i (cc)
    taken-weighed (split new) i e = here (split new) i (cc)
    taken-weighed done i e = here done i (cc)
    taken-weighed stuck i e = go (firstStep ν bounded cs) refl
      where
        go : (r : Got (Option (Step N × List (Con N)))) → firstStep ν bounded cs ≡ r → Weighed (c ∷ cs) v
        go (refused n) j = let z : refused n ≡ got (some v) = rw j at e in absurd (got≢refused (sym z))
        go (got none) j = let z : got none ≡ got (some v) = rw j at e in let y : none ≡ some v = cc in absurd (some≢none (sym y))
        go (got (some w)) j =
            let z : got (some (w.0, c ∷ w.1)) ≡ got (some v) = rw j at e in
            let q : (w.0, c ∷ w.1) ≡ v = cc in
            let a = again w j in
            rw (sym q) (record { con = a.con; given = Memᴰ.tail a.given; tried = a.tried; weighs = λ f. omega (arith, a.weighs f) })

  weighed : (cs : List (Con N)) (v : Step N × List (Con N)) → firstStep ν bounded cs ≡ got (some v) → Weighed cs v
  unfolding firstStep
  weighed [] v e = let y : none ≡ some v = cc in absurd (some≢none (sym y))
  weighed (c ∷ cs) v e = let b = bound-step (trySatisfy ν bounded c) _ (some v) e in taken-weighed c cs v (weighed cs) b.0 b.1 b.2

  limited-same : (s s' : State N) → limited bounded s ≡ got s' → (s ≡ s') × (sizeState s' ≤ 2048)
  unfolding limited
  limited-same s s' e =
      let z = sized_same (sizeState s) (depthState s) s bounded s' e in
      (z, rw (sym z) (sized-small (sizeState s) (depthState s) s s' e))

-- what a round leaves: fewer to come, and at most 2,048 records
pub record Falls {N : Type 0} (s s' : State N) : Type 0 where
  pub lower : measure s' < measure s
  pub fits : sizeState s' ≤ 2048

module _ {N : Type 0} (ν : Names N) (held : N → Bool) (w : Bool) where
  performed-falls : (s s' : State N) (step : Step N) (rest : List (Con N)) → (v : Weighed ν s.cons (step, rest)) → (step ≡ stuck → ⊥) → Lighter ν w v.con step
      → perform ν bounded s.binds step rest ≡ got s' → Falls s s'
  unfolding perform sizeState
  performed-falls s s' (bind x t) rest v n l e =
      let a = bound-step (each (replaceCon ν bounded (bindings ν (x ≔ t ∷ []))) rest) _ s' e in
      let b = bound-step (each (replaceBinding ν bounded (bindings ν (x ≔ t ∷ []))) s.binds) _ s' a.2 in
      let z = limited-same ν _ s' b.2 in
      let same : s'.cons ≡ a.0 = ap (λ (u : State N). u.cons) (sym z.0) in
      let fewer : sum_of may s'.cons ≤ sum_of may rest = rw same (all-fewer ν (bindings ν (x ≔ t ∷ [])) rest a.0 a.1) in
      let small = all-small s'.cons in
      record { lower = omega (arith, fewer, v.weighs may, v.weighs weight, l, small.1, z.1); fits = z.1 }
  performed-falls s s' (split new) rest v n l e =
      let z = limited-same ν _ s' e in
      let same : s'.cons ≡ rest ++ new = ap (λ (u : State N). u.cons) (sym z.0) in
      let m : sum_of may s'.cons ≡ sum_of may rest + sum_of may new = ap (sum_of may) same ∙ sums-append may rest new in
      let u : sum_of weight s'.cons ≡ sum_of weight rest + sum_of weight new = ap (sum_of weight) same ∙ sums-append weight rest new in
      record { lower = omega (arith, m, u, v.weighs may, v.weighs weight, l.0, l.1); fits = z.1 }
  performed-falls s s' done rest v n l e =
      let z = limited-same ν _ s' e in
      let same : s'.cons ≡ rest = ap (λ (u : State N). u.cons) (sym z.0) in
      let m : sum_of may s'.cons ≡ sum_of may rest = ap (sum_of may) same in
      let u : sum_of weight s'.cons ≡ sum_of weight rest = ap (sum_of weight) same in
      record { lower = omega (arith, m, u, v.weighs may, v.weighs weight, l); fits = z.1 }
  performed-falls s s' stuck rest v n l e = absurd (n refl)

  pub round-falls : (s s' : State N) → Fit ν held w s → round ν bounded s ≡ got (some s') → Falls s s'
  unfolding round performed
  round-falls s s' k e = let b = bound-step (firstStep ν bounded s.cons) _ (some s') e in go b.0 b.1 b.2
    where
      go : (r : Option (Step N × List (Con N))) → firstStep ν bounded s.cons ≡ got r → performed ν bounded s.binds r ≡ got (some s') → Falls s s'
      go none i j = let y : none ≡ some s' = cc in absurd (some≢none (sym y))
      go (some v) i j =
          let o = one-step (perform ν bounded s.binds v.0 v.1) some (some s') j in
          let same : o.value ≡ s' = cc o.is in
          let q = weighed ν s.cons v i in
          performed-falls s s' v.0 v.1 q (found ν bounded s.cons v i).moves
          (lighter ν w q.con v.0 (wide-wide ν held w q.con (k.cons-wide q.con q.given)) (rule ν bounded q.con v.0 q.tried)) (o.gave ∙ ap got same)
