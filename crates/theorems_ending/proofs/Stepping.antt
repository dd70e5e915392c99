-- What one rule does, proved rule by rule.
use Rattle.std.specs.Prelude.{◌≡◌, Bool}
use Rattle.std.proofs.Math.Path.{refl}
use Rattle.std.proofs.Common.{ap, arith, inl, inr, sym}
use Rattle.std.proofs.Math.Bool.{true, false}
use mathlib.Core.List.{List, [], ◌∷◌, map, Memᴰ}
use Rattle.std.proofs.Math.Option.{Option, none as nothing, some}
use Prim.Native.Nat.{◌+◌, ◌≤◌}
use Rattle.rules.specs.Base.{Got, Limits, is_yes, collect}
use Rattle.rules.specs.Exponents.{Exp}
use Rattle.rules.specs.Trees.{
  Open,
  var,
  quant,
  par,
  free,
  base,
  ◌↑◌,
  Product,
  Names,
  Ty,
  opened,
  basic,
  dim,
  fn,
  struct,
  list,
  Tys,
  nil,
  cons,
  Fields,
  noFields,
  field,
  Con,
  equal,
  isDim,
  is_scalar,
  hasField,
  orderAtom,
  openOfFactor,
}
use Rattle.rules.specs.Products.{just}
use Rattle.rules.specs.Contents.{fieldIn, namesIn}
use Rattle.rules.specs.Rounds.{Step, pairs, dimensions, by_kind, firstRules, orTry, trySatisfy}
use Rattle.laws.specs.Lists.{Every}
use Rattle.laws.specs.Order.{Lawful}
use Rattle.laws.proofs.Lists.{some≢none}
use Rattle.laws.proofs.RuleCases.{
  Reads,
  Sides,
  Rule,
  none-applies,
  equal-records,
  binds,
  two-functions,
  two-lists,
  two-structs,
  as-product,
  two-dimensions,
  dimension,
  no-factor,
  first-factor,
  closed-struct,
  rule,
}
use Rattle.theorems_ending.proofs.Without.{without, stays}
use Rattle.theorems_ending.proofs.Yields.{Yields, yields, next}
use Rattle.theorems_ending.proofs.Products.{Atoms, Neat, Thinned, thin-neat, others-thin, divide-neat}
use Rattle.theorems_ending.proofs.Fine.{Named, Fine, FineTys, FineFields, change, apart, just-neat, behind, apart-atoms}
use Rattle.theorems_ending.proofs.Weights.{weigh, weighFields, weighCon, weighAll}
use Rattle.theorems_ending.proofs.Weighing.{weighty, weigh-pairs}
use Rattle.theorems_ending.proofs.Steps.{In, Ok, Stepped}

-- of what is there
pub data Maybe {A : Type 0} (P : A → Type 0) : Option A → Type 0 where
  absent : Maybe P nothing
  present : {a : A} → P a → Maybe P (some a)

-- a variable of the list that isn't x
pub left : {N : Type 0} (ν : Names N) (x : N) (xs : List N) (o : Open N) → In xs o → (var x ≡ o → ⊥) → In (without ν x xs) o
left ν x xs (var y) m f = stays ν xs m (λ e. f (ap var e))
left ν x xs (quant i) m f = tt
left ν x xs (par y) m f = tt

module _ {N : Type 0} (ν : Names N) (xs : List N) where
  -- ══ The parts of a constraint ══

  -- the two sides of an equality, in either order
  record Both (c : Con N) (s t : Ty N) : Type 0 where
    first : Fine ν (In xs) s
    second : Fine ν (In xs) t
    weight : weighCon c ≡ weigh s + weigh t

  both : (c : Con N) (s t : Ty N) → Sides c s t → Ok ν xs c → Both c s t
  unfolding Ok weighCon
  both c s t (inl i) h = let g : Ok ν xs (equal s t) = rw i at h in record { first = g.0; second = g.1; weight = ap weighCon i }
  both c s t (inr i) h = let g : Ok ν xs (equal t s) = rw i at h in record { first = g.1; second = g.0; weight = omega (arith, ap weighCon i) }

  -- the variable that a side names
  read : (x : N) (t : Ty N) → Reads x t → Fine ν (In xs) t → Memᴰ x xs
  unfolding Fine
  read x t (inl i) h = let g : Fine ν (In xs) (opened (var x)) = rw i at h in g
  read x t (inr i) h = let g : Fine ν (In xs) (dim (just (var x))) = rw i at h in g.atoms.0

  pairs-ok : (ts us : Tys N) → FineTys ν (In xs) ts → FineTys ν (In xs) us → Every (Ok ν xs) (pairs ts us)
  unfolding pairs Fine Ok
  pairs-ok nil us h k = tt
  pairs-ok (cons t ts) nil h k = tt
  pairs-ok (cons t ts) (cons u us) h k = ((h.0, k.0), pairs-ok ts us h.1 k.1)

  -- a field's type is no heavier than the fields
  field_in : (n : N) (fs : Fields N) (u : Ty N) → fieldIn ν n fs ≡ some u → FineFields ν (In xs) fs → Fine ν (In xs) u × (weigh u ≤ weighFields fs)
  unfolding Fine weigh fieldIn
  field_in n noFields u e h = absurd (some≢none (sym e))
  field_in n (field m t fs) u e h = go (is_yes (ν.same n m)) refl (λ k. field_in n fs u k h.1)
    where
      go : (b : Bool) → is_yes (ν.same n m) ≡ b → (fieldIn ν n fs ≡ some u → Fine ν (In xs) u × (weigh u ≤ weighFields fs))
          → Fine ν (In xs) u × (weigh u ≤ weighFields (field m t fs))
      go true q r = let k : some t ≡ some u = rw (q, fieldIn) at e in let z : t ≡ u = cc k in rw (← z) (h.0, omega arith)
      go false q r = let k = r (rw (q, fieldIn) at e) in (k.0, omega (arith, k.1))

  -- is-dimension of a variable weighs nothing
  parts-ok : (names : List N) → Every (Ok ν xs) (map (λ x. isDim (opened (var x))) names) × (weighAll (map (λ x. isDim (opened (var x))) names) ≡ 0)
  unfolding Ok Fine weighCon
  parts-ok [] = (tt, refl)
  parts-ok (x ∷ names) = let r = parts-ok names in ((tt, r.0), omega (arith, r.1))

module _ {N : Type 0} (ν : Names N) (law : Lawful (orderAtom ν)) (l : Limits) (xs : List N) where
  -- the first factor's variable stands in none of the others
  scalar-ok : (x : N) (k : Exp) (p q : Product N) → Neat ν (Named (In xs)) (free (var x) ↑ k ∷ p) → Thinned p q
      → Memᴰ x xs × Neat ν (Named (In (without ν x xs))) q
  scalar-ok x k p q h t = go h.atoms
    where
      go : Atoms (Named (In xs)) (free (var x) ↑ k ∷ p) → Memᴰ x xs × Neat ν (Named (In (without ν x xs))) q
      go a = (a.0, thin-neat t (record { sorted = h.sorted.1; atoms = apart-atoms x (left ν x xs) p a.1 (behind ν law x p h.sorted.0) }))

  -- ══ Each rule ══

  rule-ok : (c : Con N) (s : Step N) → Rule ν l c s → Ok ν xs c → Stepped ν xs (weighCon c) s
  unfolding Ok Fine weighCon weigh
  rule-ok c s (none-applies e) h = rw e tt
  rule-ok c s (equal-records t i e) h = rw (e, i) (omega (arith, weighty t))
  rule-ok c s (binds x side t i r n e) h =
      let b = both ν xs c side t i h in
      rw e (read ν xs x side r b.first, change ν (left ν x xs) t b.second (apart ν x t n))
  rule-ok c s (two-functions ps qs r q n i e) h =
      let b = both ν xs c (fn ps r) (fn qs q) (inl i) h in
      rw e (((b.first.1, b.second.1), pairs-ok ν xs ps qs b.first.0 b.second.0), omega (arith, b.weight, weigh-pairs ps qs))
  rule-ok c s (two-lists t u i e) h =
      let b = both ν xs c (list t) (list u) (inl i) h in
      rw e (((b.first, b.second), tt), omega (arith, b.weight))
  rule-ok c s (two-structs n as' bs fs gs k i e) h =
      let b = both ν xs c (struct n as' fs) (struct n bs gs) (inl i) h in
      rw e (pairs-ok ν xs as' bs b.first.0 b.second.0, omega (arith, b.weight, weigh-pairs as' bs))
  -- the variable weighs 2, as a product 1
  rule-ok c s (as-product x d i m e) h =
      let b = both ν xs c (opened (var x)) (dim d) i h in
      rw e (((just-neat (var x) b.first, b.second), tt), omega (arith, b.weight))
  rule-ok c s (two-dimensions d f q k i e) h =
      let b = both ν xs c (dim d) (dim f) (inl i) h in
      rw e (((divide-neat ν law l b.first b.second).value.holds q k, tt), omega (arith, b.weight))
  rule-ok c s (dimension p i e) h =
      let r = parts-ok ν xs (namesIn (collect openOfFactor p)) in
      rw (e, i) (r.0, omega (arith, r.1))
  rule-ok c s (no-factor i e) h = rw (e, i) (omega arith)
  rule-ok c s (first-factor x k p q m i e) h =
      let g : Ok ν xs (is_scalar (free (var x) ↑ k ∷ p)) = rw i at h in
      rw e (scalar-ok x k p q g ((others-thin l k p).value.holds q m))
  rule-ok c s (closed-struct n m as' fs t u o f i e) h =
      let g : Ok ν xs (hasField n (struct m as' fs) t) = rw i at h in
      let r = field_in ν xs n fs u f g.0.1 in
      rw (e, i) (((r.0, g.1), tt), omega (arith, r.1))

  -- ══ No refusal has the number 0 ══

  kind-numbered : (s t : Ty N) → Fine ν (In xs) s → Fine ν (In xs) t → Yields (by_kind ν l s t) (λ r. Unit {0})
  unfolding by_kind dimensions Fine
  kind-numbered (opened o) t h k = yields tt
  kind-numbered (basic b) t h k = yields tt
  kind-numbered (dim d) (opened o) h k = yields tt
  kind-numbered (dim d) (basic b) h k = yields tt
  kind-numbered (dim d) (dim f) h k = next (divide-neat ν law l h k) (λ q n. yields tt)
  kind-numbered (dim d) (fn ps r) h k = yields tt
  kind-numbered (dim d) (struct n as' fs) h k = yields tt
  kind-numbered (dim d) (list t) h k = yields tt
  kind-numbered (fn ps r) t h k = yields tt
  kind-numbered (struct n as' fs) t h k = yields tt
  kind-numbered (list s) t h k = yields tt

  or-try : (o : Option (Step N)) (m : Got (Step N)) → Yields m (λ r. Unit {0}) → Yields (orTry o m) (λ r. Unit {0})
  or-try nothing m h = h
  or-try (some s) m h = yields tt

  step-numbered : (c : Con N) → Ok ν xs c → Yields (trySatisfy ν l c) (λ r. Unit {0})
  unfolding trySatisfy Ok
  step-numbered (equal s t) h = or-try (firstRules ν s t) (by_kind ν l s t) (kind-numbered s t h.0 h.1)
  step-numbered (isDim t) h = yields tt
  step-numbered (is_scalar []) h = yields tt
  step-numbered (is_scalar (free (var x) ↑ k ∷ p)) h = next (others-thin l k p) (λ q t. yields tt)
  step-numbered (is_scalar (free (quant i) ↑ k ∷ p)) h = yields tt
  step-numbered (is_scalar (free (par x) ↑ k ∷ p)) h = yields tt
  step-numbered (is_scalar (base n ↑ k ∷ p)) h = yields tt
  step-numbered (hasField n s t) h = yields tt

  pub try_ok : (c : Con N) → Ok ν xs c → Yields (trySatisfy ν l c) (Stepped ν xs (weighCon c))
  try_ok c h = record {
    value = record { holds = λ s e. rule-ok c s (rule ν l c s e) h };
    numbered = (step-numbered c h).numbered;
  }
