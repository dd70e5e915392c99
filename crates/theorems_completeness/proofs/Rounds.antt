-- What a round does with wide constraints and with bindings to sides: it keeps them wide, leaves the choices that make all true, and is refused
-- with 7 or 8 alone.
use Rattle.std.specs.Prelude.{◌≡◌, Bool, true, false, ◌&&◌, ◌⊎◌}
use Rattle.std.proofs.Math.Path.{refl, ap, subst}
use Rattle.std.proofs.Common.{◌∙◌, sym, inl, inr}
use Rattle.std.proofs.Math.Option.{Option, none, some}
use mathlib.Core.List.Memᴰ
use mathlib.Core.List.{List, [], ◌∷◌, ◌++◌, Memᴰ}
use Rattle.rules.specs.Base.{got, bounded, each, collect}
use Rattle.rules.specs.Exponents.{Exp, neg, plus}
use Rattle.rules.specs.Trees.{
  Open,
  openOfFactor,
  opensCon,
  var,
  Atom,
  free,
  ◌↑◌,
  Product,
  Names,
  Ty,
  opened,
  dim,
  Con,
  equal,
  isDim,
  is_scalar,
  hasField,
  Binding,
  ◌≔◌,
  orderAtom,
  opens,
}
use Rattle.rules.specs.Products.{just, inverse}
use Rattle.rules.specs.Replacing.{Look, replaceTy, replaceCon, replaceBinding, bindings}
use Rattle.rules.specs.Rounds.{Step, bind, split, done, stuck, State, firstRules, dimensions, by_kind, trySatisfy, firstStep, perform, performed, round}
use Rattle.rules.specs.WellFormed.{goodProduct, goodTy, goodCon}
use Rattle.laws.specs.Order.{Lawful, Tells}
use Rattle.laws.specs.Lists.{and_left, and_right, All, all_nil, all_cons, in_head, Every}
use Rattle.laws.proofs.Lists.{true≢false, and_both, all_append, one-step, every-as, Came, each-came, each-went}
use Rattle.laws.specs.Fractions.{Lowest}
use Rattle.laws.specs.ExactProducts.{mergeE}
use Rattle.laws.proofs.ExactProducts.{divide-value, divide-exact}
use Rattle.laws.proofs.ExactSolve.{con-below}
use Rattle.laws.proofs.Occurs.{OnFactor, each_opens, opens-each, merge_on, inverse-on, other-opens, ty-on, con-on}
use Rattle.laws.proofs.Exact.{divide-below, ty_below}
use Rattle.laws.specs.GoodProducts.{goodAtom}
use Rattle.laws.proofs.GoodProducts.{good-product}
use Rattle.laws.proofs.KeepsGood.{GoodBind, rule-good, other-side-good}
use Rattle.laws.proofs.Refusing.{given as fine, onward}
use Rattle.laws.specs.RuleCases.{After}
use Rattle.laws.proofs.RuleCases.{
  Reads,
  Sides,
  Rule,
  rule,
  part_of,
  not-contained,
  none-applies,
  equal-records,
  binds,
  two-functions,
  two-lists,
  two-structs,
  as-product,
  two-dimensions,
  dimension,
  no-factor,
  first-factor,
  closed-struct,
}
use Rattle.laws.proofs.Turns.{Found, found, Bound, Split, Taken, Turn, bound, parted, dropped}
use Rattle.theorems_completeness.specs.Claims.{◌⇔◌}
use Rattle.theorems_completeness.proofs.Worth.{same-difference, no_difference, worth, worth-just}
use Rattle.theorems_completeness.proofs.Products.{Good, worth-low, divide-worth, first-right, alone}
use Rattle.theorems_completeness.proofs.Limits.{Limited, below, each-limited, or-limited, scalar-limited, taken-limited, state-limited}
use Rattle.theorems_completeness.proofs.Sides.{
  sideIn,
  wideIn,
  Sided,
  a-product,
  a-variable,
  sided,
  sided-good,
  Wide,
  scalar-of,
  equality-of,
  dimension-of,
  widely,
  wide-good,
  wide-wide,
  value,
  RightWide,
  BoundWide,
  type-side,
  con-side,
  type-limits,
  con-limits,
  con-value,
  bound-value,
}

-- ══ Bindings, replaced in order ══

module _ {N : Type 0} (ν : Names N) (look : Look N) (bs bs' : List (Binding N)) (e : each (replaceBinding ν bounded look) bs ≡ got bs') where
  pub binding-came : (y : N) (t' : Ty N) → Memᴰ (y ≔ t') bs' → (t : Ty N) × Memᴰ (y ≔ t) bs × (replaceTy ν bounded look t ≡ got t')
  unfolding replaceBinding
  binding-came y t' m = let c = each-came (replaceBinding ν bounded look) bs bs' e (y ≔ t') m in go c.of c.within c.by
    where
      go : (b : Binding N) → Memᴰ b bs → replaceBinding ν bounded look b ≡ got (y ≔ t') → (t : Ty N) × Memᴰ (y ≔ t) bs × (replaceTy ν bounded look t ≡ got t')
      go (z ≔ u) i j =
          let o = one-step (replaceTy ν bounded look u) (z ≔◌) (y ≔ t') j in
          let same : z ≡ y = cc o.is in
          let type : o.value ≡ t' = cc o.is in
          (u, subst (λ (w : N). Memᴰ (w ≔ u) bs) same i, o.gave ∙ ap got type)

  pub binding-went : (y : N) (t : Ty N) → Memᴰ (y ≔ t) bs → (t' : Ty N) × Memᴰ (y ≔ t') bs' × (replaceTy ν bounded look t ≡ got t')
  unfolding replaceBinding
  binding-went y t m =
      let w = each-went (replaceBinding ν bounded look) bs bs' e (y ≔ t) m in
      let o = one-step (replaceTy ν bounded look t) (y ≔◌) w.to w.by in
      (o.value, subst (λ (b : Binding N). Memᴰ b bs') (sym o.is) w.within, o.gave)

-- ══ What a rule puts in, or binds ══

module _ {N : Type 0} (w : Bool) where
  abbrev pub IsWide : Con N → Type 0
  IsWide c = wideIn w c ≡ true

  pub outside : {A : Type 0} (c d : Con N) → IsWide c → c ≡ d → wideIn w d ≡ false → A
  outside c d h e i = absurd (true≢false (sym h ∙ ap (wideIn w) e ∙ i))

  equality-sides : (c : Con N) (s t : Ty N) → IsWide c → c ≡ equal s t → (sideIn w s ≡ true) × (sideIn w t ≡ true)
  unfolding wideIn
  equality-sides c s t h e = let g : sideIn w s && sideIn w t ≡ true = rw e at h in (and_left (sideIn w s) _ g, and_right (sideIn w s) _ g)

  other-side : (c : Con N) (s t : Ty N) → IsWide c → Sides c s t → sideIn w t ≡ true
  other-side c s t h (inl e) = (equality-sides c s t h e).1
  other-side c s t h (inr e) = (equality-sides c t s h e).0

module _ {N : Type 0} (ν : Names N) (w : Bool) where
  after-wide : (c : Con N) (s : Step N) → IsWide w c → Rule ν bounded c s → After (All (IsWide w)) (λ x t. sideIn w t ≡ true) s
  unfolding wideIn sideIn
  after-wide c s h (none-applies e) = rw e tt
  after-wide c s h (equal-records t i e) = rw e tt
  after-wide c s h (binds x side t i r a e) = rw e (other-side w c side t h i)
  after-wide c s h (two-functions ps qs r q m i e) = outside w c _ h i refl
  after-wide c s h (two-lists t u i e) = outside w c _ h i refl
  after-wide c s h (two-structs m as' bs fs gs k i e) = outside w c _ h i refl
  after-wide c s h (as-product x d i m e) = rw e (all_cons (IsWide w) refl (all_nil (IsWide w)))
  after-wide c s h (two-dimensions d e q k i z) = rw z (all_cons (IsWide w) refl (all_nil (IsWide w)))
  after-wide c s h (dimension p i e) = let v : w ≡ true = and_left w true (rw i at h) in rw e (λ d m. let o = part_of p d m in rw o.1 (and_both v v))
  after-wide c s h (no-factor i e) = rw e tt
  after-wide c s h (first-factor x k p q m i e) = rw e refl
  after-wide c s h (closed-struct m o as' fs t u a f i e) = outside w c _ h i refl

module _ {N : Type 0} (ν : Names N) (law : Lawful (orderAtom ν)) (held : N → Bool) (w : Bool) where
  after-sided : (c : Con N) (s : Step N) → Wide ν held w c → Rule ν bounded c s → After (All (Wide ν held w)) (λ x t. Sided ν held w t) s
  after-sided c s h r = go s (after-wide ν w c s (wide-wide ν held w c h) r) (rule-good ν law held 0 c s r (wide-good ν held w c h))
    where
      go : (s : Step N) → After (All (IsWide w)) (λ x t. sideIn w t ≡ true) s → After (All (λ c. goodCon ν held 0 c ≡ true)) (GoodBind ν law held 0) s
          → After (All (Wide ν held w)) (λ x t. Sided ν held w t) s
      go (bind x t) a b = sided ν held w t b.type a
      go (split new) a b = λ c m. widely ν held w c (b c m) (a c m)
      go done a b = tt
      go stuck a b = tt

-- ══ Open names after a rule ══

module _ {N : Type 0} where
  -- the open names of a constraint that may bind. Is-dimension binds nothing and leads to nothing else: its names don't count
  abbrev pub opensBinding : Con N → List (Open N)
  opensBinding (equal s t) = opensCon (equal s t)
  opensBinding (isDim t) = []
  opensBinding (is_scalar p) = opensCon (is_scalar p)
  opensBinding (hasField n s t) = opensCon (hasField n s t)

  binding-opens : (P : Open N → Type 0) (c : Con N) → All P (opensCon c) → All P (opensBinding c)
  binding-opens P (equal s t) f = f
  binding-opens P (isDim t) f = all_nil P
  binding-opens P (is_scalar p) f = f
  binding-opens P (hasField n s t) f = f

  -- an open name that is no bound variable
  abbrev pub Unbound : List (Binding N) → Open N → Type 0
  Unbound bs o = (y : N) (t : Ty N) → Memᴰ (y ≔ t) bs → o ≡ var y → ⊥

  -- what is bound: a name and a type of names of the constraint, and the name isn't in the type
  abbrev pub Apart : (Open N → Type 0) → N → Ty N → Type 0
  Apart P x t = P (var x) × All P (opens t) × (Memᴰ (var x) (opens t) → ⊥)

  reads-in : (x : N) (side : Ty N) → Reads x side → Memᴰ (var x) (opens side)
  unfolding opens collect
  reads-in x side (inl e) = rw e in_head
  reads-in x side (inr e) = rw e in_head

module _ {N : Type 0} (ν : Names N) (law : Lawful (orderAtom ν)) (held : N → Bool) (w : Bool) (P : Open N → Type 0) where
  after-open : (c : Con N) (s : Step N) → IsWide w c → goodCon ν held 0 c ≡ true → Rule ν bounded c s → All P (opensBinding c)
      → After (All (λ d. All P (opensBinding d))) (Apart P) s
  unfolding opens opensCon collect wideIn sideIn goodCon
  after-open c s h k (none-applies e) f = rw e tt
  after-open c s h k (equal-records t i e) f = rw e tt
  after-open c s h k (binds x side t (inl i) r a e) f =
      let f' : All P (opens side ++ opens t) = rw i at f in
      rw e (f' (var x) (Memᴰ.append_left (opens t) (reads-in x side r)), λ o m. f' o (Memᴰ.append_right (opens side) m), not-contained ν x t a)
  after-open c s h k (binds x side t (inr i) r a e) f =
      let f' : All P (opens t ++ opens side) = rw i at f in
      rw e (f' (var x) (Memᴰ.append_right (opens t) (reads-in x side r)), λ o m. f' o (Memᴰ.append_left (opens side) m), not-contained ν x t a)
  after-open c s h k (two-functions ps qs r q m i e) f = outside w c _ h i refl
  after-open c s h k (two-lists t u i e) f = outside w c _ h i refl
  after-open c s h k (two-structs m as' bs fs gs j i e) f = outside w c _ h i refl
  after-open c s h k (as-product x d (inl i) m e) f =
      let f' : All P (opensCon (equal (opened (var x)) (dim d))) = rw i at f in
      rw e (all_cons (λ d. All P (opensBinding d)) f' (all_nil (λ d. All P (opensBinding d))))
  after-open c s h k (as-product x d (inr i) m e) f =
      let f' : All P (opens (dim d) ++ (var x ∷ [])) = rw i at f in
      let g : All P ((var x ∷ []) ++ opens (dim d)) =
      all_append P (var x ∷ []) (λ o n. f' o (Memᴰ.append_right (opens (dim d)) n)) (λ o n. f' o (Memᴰ.append_left (var x ∷ []) n)) in
      rw e (all_cons (λ d. All P (opensBinding d)) g (all_nil (λ d. All P (opensBinding d))))
  after-open c s h k (two-dimensions p q r j i e) f =
      let f' : All P (opensCon (equal (dim p) (dim q))) = rw i at f in
      let z : r ≡ mergeE ν p (inverse q) = divide-value ν p q r j in
      let left : Every (OnFactor P) p = opens-each P p (λ o m. f' o (Memᴰ.append_left (opens (dim q)) m)) in
      let right : Every (OnFactor P) q = opens-each P q (λ o m. f' o (Memᴰ.append_right (opens (dim p)) m)) in
      let on : Every (OnFactor P) (mergeE ν p (inverse q)) = merge_on P ν p (inverse q) left (inverse-on P ν q right) in
      rw e (all_cons (λ d. All P (opensBinding d)) (rw z (each_opens P (mergeE ν p (inverse q)) on)) (all_nil (λ d. All P (opensBinding d))))
  after-open c s h k (dimension p i e) f = rw e (λ d m. let o = part_of p d m in rw o.1 (all_nil P))
  after-open c s h k (no-factor i e) f = rw e tt
  after-open c s h k (first-factor x j p q n i e) f =
      let f' : All P (opensCon (is_scalar (free (var x) ↑ j ∷ p))) = rw i at f in
      let g = good-product ν law held 0 (free (var x) ↑ j ∷ p) (rw i at k) in
      let same : collect openOfFactor q ≡ collect openOfFactor p = other-opens bounded j p q n in
      rw (e, same) (
        f' (var x) in_head,
        λ o m. f' o (Memᴰ.tail m),
        λ m. each_opens (λ o. o ≡ var x → ⊥) p (every-as (alone ν law x) p g.in_order.0) (var x) m refl,
      )
  after-open c s h k (closed-struct m o as' fs t u a b i e) f = outside w c _ h i refl

-- ══ Truth after a rule ══

module _ {N : Type 0} (ν : Names N) (law : Lawful (orderAtom ν)) (held : N → Bool) (w : Bool) (tells : Tells (λ a. goodAtom ν held 0 a ≡ true) (orderAtom ν))
    (g : Atom N → Exp) (low : (a : Atom N) → Lowest (g a)) where
  -- what a step leaves is as true as the constraint was
  abbrev pub Leaves : Con N → Step N → Type 0
  Leaves c (bind x t) = RightWide g c ⇔ BoundWide g x t
  Leaves c (split new) = RightWide g c ⇔ All (RightWide g) new
  Leaves c done = RightWide g c
  Leaves c stuck = Unit {0}

  just-worth : (x : N) → worth g (just (var x)) ≡ g (free (var x))
  just-worth x = worth-just ν law tells g low (free (var x))

  reads-worth : (x : N) (side : Ty N) → Reads x side → value g side ≡ g (free (var x))
  reads-worth x side (inl e) = rw e refl
  reads-worth x side (inr e) = rw e (just-worth x)

  good-dims : (c : Con N) (p q : Product N) → goodCon ν held 0 c ≡ true → c ≡ equal (dim p) (dim q) → Good ν held p × Good ν held q
  unfolding goodCon goodTy
  good-dims c p q h e = let k = rw e at h
      in (and_left (goodProduct ν held 0 p) (goodProduct ν held 0 q) k, and_right (goodProduct ν held 0 p) (goodProduct ν held 0 q) k)

  good-scalar : (c : Con N) (p : Product N) → goodCon ν held 0 c ≡ true → c ≡ is_scalar p → Good ν held p
  unfolding goodCon
  good-scalar c p h e = rw e at h

  after-leaves : (c : Con N) (s : Step N) → IsWide w c → goodCon ν held 0 c ≡ true → Rule ν bounded c s → Leaves c s
  unfolding worth wideIn sideIn
  after-leaves c s h k (none-applies e) = rw e tt
  after-leaves c s h k (equal-records t i e) = rw (e, i) refl
  after-leaves c s h k (binds x side t (inl i) r a e) = let z = reads-worth x side r in rw (e, i) (λ f. sym z ∙ f, λ f. z ∙ f)
  after-leaves c s h k (binds x side t (inr i) r a e) = let z = reads-worth x side r in rw (e, i) (λ f. sym z ∙ sym f, λ f. sym f ∙ sym z)
  after-leaves c s h k (two-functions ps qs r q m i e) = outside w c _ h i refl
  after-leaves c s h k (two-lists t u i e) = outside w c _ h i refl
  after-leaves c s h k (two-structs m as' bs fs gs o i e) = outside w c _ h i refl
  after-leaves c s h k (as-product x d (inl i) m e) =
      let z = just-worth x in
      rw (e, i) (λ f. all_cons (RightWide g) (z ∙ f) (all_nil (RightWide g)), λ f. sym z ∙ f (equal (dim (just (var x))) (dim d)) in_head)
  after-leaves c s h k (as-product x d (inr i) m e) =
      let z = just-worth x in
      rw (e, i) (λ f. all_cons (RightWide g) (z ∙ sym f) (all_nil (RightWide g)), λ f. sym (sym z ∙ f (equal (dim (just (var x))) (dim d)) in_head))
  after-leaves c s h k (two-dimensions p q r j i e) =
      let o = good-dims c p q k i in
      let z : worth g r ≡ plus (worth g p) (neg (worth g q)) = divide-worth ν law held tells g low p q r o.0 o.1 j in
      let lp = worth-low ν law held tells g low p o.0 in
      let lq = worth-low ν law held tells g low q o.1 in
      rw (e, i) (
        λ f. all_cons (RightWide g) (z ∙ same-difference (worth g p) (worth g q) lp lq f) (all_nil (RightWide g)),
        λ f. no_difference (worth g p) (worth g q) lp lq (sym z ∙ f (is_scalar r) in_head),
      )
  after-leaves c s h k (dimension p i e) = rw (e, i) (λ f d m. let o = part_of p d m in rw o.1 tt, λ f. tt)
  after-leaves c s h k (no-factor i e) = rw (e, i) refl
  after-leaves c s h k (first-factor x j p q n i e) =
      let o = good-scalar c (free (var x) ↑ j ∷ p) k i in
      let m = (other-side-good ν law held 0 j (good-product ν law held 0 (free (var x) ↑ j ∷ p) o).each.0.1 (free (var x)) p o).holds q n in
      rw (e, i) (first-right ν law held tells g low x j p q o m n)
  after-leaves c s h k (closed-struct m o as' fs t u a f i e) = outside w c _ h i refl

-- ══ A round ══

-- constraints that are wide, and bindings to sides
pub record Fit {N : Type 0} (ν : Names N) (held : N → Bool) (w : Bool) (s : State N) : Type 0 where
  pub cons-wide : All (Wide ν held w) s.cons
  pub binds-sided : (y : N) (t : Ty N) → Memᴰ (y ≔ t) s.binds → Sided ν held w t
  -- bound variables occur nowhere else, but in is-dimensions, and are bound once
  pub cons-open : All (λ c. All (Unbound s.binds) (opensBinding c)) s.cons
  pub binds-open : (y : N) (t : Ty N) → Memᴰ (y ≔ t) s.binds → All (Unbound s.binds) (opens t)
  pub once : (y : N) (t u : Ty N) → Memᴰ (y ≔ t) s.binds → Memᴰ (y ≔ u) s.binds → t ≡ u

-- all constraints and bindings are true, where each atom is worth a fraction
pub record AllWide {N : Type 0} (g : Atom N → Exp) (s : State N) : Type 0 where
  pub cons_right : All (RightWide g) s.cons
  pub binds-right : (y : N) (t : Ty N) → Memᴰ (y ≔ t) s.binds → BoundWide g y t

module _ {N : Type 0} (ν : Names N) (law : Lawful (orderAtom ν)) (held : N → Bool) (w : Bool) where
  abbrev K : State N → Type 0
  K = Fit ν held w

  -- ══ The constraint that is taken, and the others ══

  module _ (s : State N) (k : K s) (step : Step N) (rest : List (Con N)) (f : Found ν bounded s.cons step rest) where
    con-wide : Wide ν held w f.con
    con-wide = k.cons-wide f.con f.given

    put : After (All (Wide ν held w)) (λ x t. Sided ν held w t) step
    put = after-sided ν law held w f.con step con-wide (rule ν bounded f.con step f.tried)

    rest-wide : All (Wide ν held w) rest
    rest-wide c m = k.cons-wide c (f.kept c m)

    rest-open : All (λ c. All (Unbound s.binds) (opensBinding c)) rest
    rest-open c m = k.cons-open c (f.kept c m)

    put-open : After (All (λ d. All (Unbound s.binds) (opensBinding d))) (Apart (Unbound s.binds)) step
    put-open =
        after-open ν law held w (Unbound s.binds) f.con step (wide-wide ν held w f.con con-wide) (wide-good ν held w f.con con-wide)
        (rule ν bounded f.con step f.tried) (k.cons-open f.con f.given)

    -- true of all: of the constraint that was taken, and of the others
    apart-right : (g : Atom N → Exp) → All (RightWide g) s.cons ⇔ (RightWide g f.con × All (RightWide g) rest)
    apart-right g = (λ a. (a f.con f.given, λ c m. a c (f.kept c m)), λ p c m. go p c (f.others c m))
      where
        go : RightWide g f.con × All (RightWide g) rest → (c : Con N) → (c ≡ f.con) ⊎ Memᴰ c rest → RightWide g c
        go p c (inl e) = subst (RightWide g) (sym e) p.0
        go p c (inr i) = p.1 c i

  -- ══ A round that binds ══

  module _ (s s' : State N) (k : K s) (b : Bound ν bounded s s') where
    look : Look N
    look = bindings ν (b.x ≔ b.t ∷ [])

    new-sided : Sided ν held w b.t
    new-sided = put s k (bind b.x b.t) b.rest b.found

    -- a binding afterwards: an older one, replaced, or the new one
    abbrev Was : N → Ty N → Type 0
    Was y t' = ((t : Ty N) × Memᴰ (y ≔ t) s.binds × (replaceTy ν bounded (bindings ν (b.x ≔ b.t ∷ [])) t ≡ got t')) ⊎ ((y ≡ b.x) × (t' ≡ b.t))

    bindings-after : (y : N) (t' : Ty N) → Memᴰ (y ≔ t') s'.binds → Was y t'
    bindings-after y t' m = go (Memᴰ.append_cases b.older (subst (λ (l : List (Binding N)). Memᴰ (y ≔ t') l) b.appended m))
      where
        go : Memᴰ (y ≔ t') b.older ⊎ Memᴰ (y ≔ t') (b.x ≔ b.t ∷ []) → Was y t'
        go (inl i) = inl (binding-came ν (bindings ν (b.x ≔ b.t ∷ [])) s.binds b.older b.replacedBinds y t' i)
        go (inr i) = let e : y ≔ t' ≡ b.x ≔ b.t = Memᴰ.eq_of_singleton i in inr (cc, cc)

    older-stays : (y : N) (t' : Ty N) → Memᴰ (y ≔ t') b.older → Memᴰ (y ≔ t') s'.binds
    older-stays y t' m = subst (λ (l : List (Binding N)). Memᴰ (y ≔ t') l) (sym b.appended) (Memᴰ.append_left (b.x ≔ b.t ∷ []) m)

    new-bound : Memᴰ (b.x ≔ b.t) s'.binds
    new-bound = subst (λ (l : List (Binding N)). Memᴰ (b.x ≔ b.t) l) (sym b.appended) (Memᴰ.append_right b.older in_head)

    con-came : (c' : Con N) → Memᴰ c' s'.cons → Came (replaceCon ν bounded (bindings ν (b.x ≔ b.t ∷ []))) c' b.rest
    con-came c' m = each-came (replaceCon ν bounded (bindings ν (b.x ≔ b.t ∷ []))) b.rest s'.cons b.replaced c' m

    new-apart : Apart (Unbound s.binds) b.x b.t
    new-apart = put-open s k (bind b.x b.t) b.rest b.found

    new-good : goodTy ν held 0 b.t ≡ true
    new-good = sided-good ν held w b.t new-sided

    -- what wasn't bound, and isn't the new variable, isn't bound
    still-unbound : (o : Open N) → Unbound s.binds o → (o ≡ var b.x → ⊥) → Unbound s'.binds o
    still-unbound o h n y t' m e = go (bindings-after y t' m)
      where
        go : Was y t' → ⊥
        go (inl i) = h y i.0 i.1 e
        go (inr i) = n (e ∙ ap var i.0)

    type-unbound : All (Unbound s'.binds) (opens b.t)
    type-unbound o m = still-unbound o (new-apart.1 o m) (λ e. new-apart.2 (subst (λ (u : Open N). Memᴰ u (opens b.t)) e m))

    module _ (tells : Tells (λ a. goodAtom ν held 0 a ≡ true) (orderAtom ν)) where
      con-opened : (c c' : Con N) → Wide ν held w c → All (Unbound s.binds) (opensBinding c)
          → replaceCon ν bounded (bindings ν (b.x ≔ b.t ∷ [])) c ≡ got c' → All (Unbound s'.binds) (opensBinding c')
      unfolding replaceCon
      con-opened c c' h f e = go h
        where
          on : All (Unbound s.binds) (opensCon c) → All (Unbound s'.binds) (opensBinding c')
          on f =
              binding-opens (Unbound s'.binds) c'
              (con-on ν law held 0 tells b.x b.t new-good (Unbound s'.binds) c c' (wide-good ν held w c h)
              ((con-below ν (bindings ν (b.x ≔ b.t ∷ [])) c).gives c' e) (λ o i n. still-unbound o (f o i) n) type-unbound)

          go : Wide ν held w c → All (Unbound s'.binds) (opensBinding c')
          go (scalar-of p h i) = on (rw i (rw i at f))
          go (equality-of u v h k i) = on (rw i (rw i at f))
          go (dimension-of u v h i) = let o = one-step (replaceTy ν bounded (bindings ν (b.x ≔ b.t ∷ [])) u) isDim c' (rw i at e)
              in rw (sym o.is) (all_nil (Unbound s'.binds))

      bound-fit : K s'
      bound-fit = record {
        cons-wide = λ c' m. let c = con-came c' m
            in (con-side ν law held w b.x b.t new-sided c.of (rest-wide s k (bind b.x b.t) b.rest b.found c.of c.within)).holds c' c.by;
        binds-sided = λ y t' m. go y t' (bindings-after y t' m);
        cons-open = λ c' m. let c = con-came c' m
            in con-opened c.of c' (rest-wide s k (bind b.x b.t) b.rest b.found c.of c.within)
            (rest-open s k (bind b.x b.t) b.rest b.found c.of c.within) c.by;
        binds-open = λ y t' m. bind-opened y t' (bindings-after y t' m);
        once = λ y t u m n. one_only y t u (bindings-after y t m) (bindings-after y u n);
      }
        where
          go : (y : N) (t' : Ty N) → Was y t' → Sided ν held w t'
          go y t' (inl i) = (type-side ν law held w b.x b.t new-sided i.0 (k.binds-sided y i.0 i.1)).holds t' i.2
          go y t' (inr i) = rw i.1 new-sided

          bind-opened : (y : N) (t' : Ty N) → Was y t' → All (Unbound s'.binds) (opens t')
          bind-opened y t' (inl i) =
              ty-on ν law held 0 tells b.x b.t new-good (Unbound s'.binds) i.0 t' (sided-good ν held w i.0 (k.binds-sided y i.0 i.1))
              ((ty_below ν (bindings ν (b.x ≔ b.t ∷ [])) i.0).gives t' i.2) (λ o m n. still-unbound o (k.binds-open y i.0 i.1 o m) n) type-unbound
          bind-opened y t' (inr i) = rw i.1 type-unbound

          -- the new variable wasn't bound
          new-only : {A : Type 0} (y : N) (t : Ty N) → Memᴰ (y ≔ t) s.binds → y ≡ b.x → A
          new-only y t m e = absurd (new-apart.0 y t m (ap var (sym e)))

          one_only : (y : N) (t u : Ty N) → Was y t → Was y u → t ≡ u
          one_only y t u (inl i) (inl j) =
              let same : i.0 ≡ j.0 = k.once y i.0 j.0 i.1 j.1 in
              let both : got t ≡ got u = sym i.2 ∙ ap (replaceTy ν bounded (bindings ν (b.x ≔ b.t ∷ []))) same ∙ j.2 in cc
          one_only y t u (inl i) (inr j) = new-only y i.0 i.1 j.0
          one_only y t u (inr i) (inl j) = new-only y j.0 j.1 i.0
          one_only y t u (inr i) (inr j) = i.1 ∙ sym j.1

  pub turn-fit : Tells (λ a. goodAtom ν held 0 a ≡ true) (orderAtom ν) → (s s' : State N) → K s → Turn ν bounded s s' → K s'
  turn-fit tells s s' k (bound b) = bound-fit s s' k b tells
  turn-fit tells s s' k (parted b) = record {
    cons-wide = rw b.joined (all_append (Wide ν held w) b.rest (rest-wide s k (split b.new) b.rest b.found) (put s k (split b.new) b.rest b.found));
    binds-sided = rw b.same k.binds-sided;
    cons-open = rw (b.joined, b.same) (all_append (λ c. All (Unbound s.binds) (opensBinding c)) b.rest (rest-open s k (split b.new) b.rest b.found)
        (put-open s k (split b.new) b.rest b.found));
    binds-open = rw b.same k.binds-open;
    once = rw b.same k.once;
  }
  turn-fit tells s s' k (dropped b) = record {
    cons-wide = rest-wide s k done s'.cons b.found;
    binds-sided = rw b.same k.binds-sided;
    cons-open = rw b.same (rest-open s k done s'.cons b.found);
    binds-open = rw b.same k.binds-open;
    once = rw b.same k.once;
  }

  -- ══ What is true stays true, and nothing becomes true ══

  module _ (tells : Tells (λ a. goodAtom ν held 0 a ≡ true) (orderAtom ν)) (g : Atom N → Exp) (low : (a : Atom N) → Lowest (g a)) where
    leaves : (s : State N) (k : K s) (step : Step N) (rest : List (Con N)) (f : Found ν bounded s.cons step rest) → Leaves ν law held w tells g low f.con step
    leaves s k step rest f =
        let h = k.cons-wide f.con f.given in
        after-leaves ν law held w tells g low f.con step (wide-wide ν held w f.con h) (wide-good ν held w f.con h) (rule ν bounded f.con step f.tried)

    bound-wide : (s s' : State N) → K s → Bound ν bounded s s' → AllWide g s ⇔ AllWide g s'
    bound-wide s s' k b = (λ r. record { cons_right = on r; binds-right = on-binds r }, λ r. record { cons_right = back r; binds-right = back-binds r })
      where
        iff : RightWide g b.found.con ⇔ BoundWide g b.x b.t
        iff = leaves s k (bind b.x b.t) b.rest b.found

        parted-right : All (RightWide g) s.cons ⇔ (RightWide g b.found.con × All (RightWide g) b.rest)
        parted-right = apart-right s k (bind b.x b.t) b.rest b.found g

        st : Sided ν held w b.t
        st = new-sided s s' k b

        con-iff : BoundWide g b.x b.t → (c c' : Con N) → Memᴰ c b.rest → replaceCon ν bounded (bindings ν (b.x ≔ b.t ∷ [])) c ≡ got c'
            → RightWide g c ⇔ RightWide g c'
        con-iff h c c' m e = con-value ν law held w b.x b.t st tells g low h c c' (k.cons-wide c (b.found.kept c m)) e

        bind-iff : BoundWide g b.x b.t → (y : N) (t t' : Ty N) → Memᴰ (y ≔ t) s.binds → replaceTy ν bounded (bindings ν (b.x ≔ b.t ∷ [])) t ≡ got t'
            → BoundWide g y t ⇔ BoundWide g y t'
        bind-iff h y t t' m e = bound-value ν law held w b.x b.t st tells g low h y t t' (k.binds-sided y t m) e

        on : AllWide g s → All (RightWide g) s'.cons
        on r c' m =
            let p = parted-right.0 r.cons_right in
            let c = con-came s s' k b c' m in
            (con-iff (iff.0 p.0) c.of c' c.within c.by).0 (p.1 c.of c.within)

        on-binds : AllWide g s → (y : N) (t' : Ty N) → Memᴰ (y ≔ t') s'.binds → BoundWide g y t'
        on-binds r y t' m = go (bindings-after s s' k b y t' m)
          where
            h : BoundWide g b.x b.t
            h = iff.0 (parted-right.0 r.cons_right).0

            go : Was s s' k b y t' → BoundWide g y t'
            go (inl i) = (bind-iff h y i.0 t' i.1 i.2).0 (r.binds-right y i.0 i.1)
            go (inr i) = rw (i.0, i.1) h

        new-right : AllWide g s' → BoundWide g b.x b.t
        new-right r = r.binds-right b.x b.t (new-bound s s' k b)

        back : AllWide g s' → All (RightWide g) s.cons
        back r = parted-right.1 (
          iff.1 (new-right r),
          λ c m.
              let v = each-went (replaceCon ν bounded (bindings ν (b.x ≔ b.t ∷ []))) b.rest s'.cons b.replaced c m in
              (con-iff (new-right r) c v.to m v.by).1 (r.cons_right v.to v.within),
        )

        back-binds : AllWide g s' → (y : N) (t : Ty N) → Memᴰ (y ≔ t) s.binds → BoundWide g y t
        back-binds r y t m =
            let v = binding-went ν (bindings ν (b.x ≔ b.t ∷ [])) s.binds b.older b.replacedBinds y t m in
            (bind-iff (new-right r) y t v.0 m v.2).1 (r.binds-right y v.0 (older-stays s s' k b y v.0 v.1))

    split-wide : (s s' : State N) → K s → Split ν bounded s s' → AllWide g s ⇔ AllWide g s'
    split-wide s s' k b = (
      λ r. let p = parted-right.0 r.cons_right
          in record { cons_right = rw b.joined (all_append (RightWide g) b.rest p.1 (iff.0 p.0)); binds-right = rw b.same r.binds-right },
      λ r. record {
        cons_right = parted-right.1 (iff.1 (λ c m. there r c (Memᴰ.append_right b.rest m)), λ c m. there r c (Memᴰ.append_left b.new m));
        binds-right = rw (sym b.same) r.binds-right;
      },
    )
      where
        iff : RightWide g b.found.con ⇔ All (RightWide g) b.new
        iff = leaves s k (split b.new) b.rest b.found

        parted-right : All (RightWide g) s.cons ⇔ (RightWide g b.found.con × All (RightWide g) b.rest)
        parted-right = apart-right s k (split b.new) b.rest b.found g

        there : AllWide g s' → (c : Con N) → Memᴰ c (b.rest ++ b.new) → RightWide g c
        there r c m = r.cons_right c (subst (λ (l : List (Con N)). Memᴰ c l) (sym b.joined) m)

    taken-wide : (s s' : State N) → K s → Taken ν bounded s s' → AllWide g s ⇔ AllWide g s'
    taken-wide s s' k b = (
      λ r. record { cons_right = (parted-right.0 r.cons_right).1; binds-right = rw b.same r.binds-right },
      λ r. record { cons_right = parted-right.1 (leaves s k done s'.cons b.found, r.cons_right); binds-right = rw (sym b.same) r.binds-right },
    )
      where
        parted-right : All (RightWide g) s.cons ⇔ (RightWide g b.found.con × All (RightWide g) s'.cons)
        parted-right = apart-right s k done s'.cons b.found g

    pub turn-wide : (s s' : State N) → K s → Turn ν bounded s s' → AllWide g s ⇔ AllWide g s'
    turn-wide s s' k (bound b) = bound-wide s s' k b
    turn-wide s s' k (parted b) = split-wide s s' k b
    turn-wide s s' k (dropped b) = taken-wide s s' k b

  -- ══ Refused with 7 or 8 alone ══

  kind-limited : (s t : Ty N) → Sided ν held w s → Sided ν held w t → Limited (by_kind ν bounded s t)
  unfolding by_kind dimensions
  kind-limited s t (a-variable y v h e) k = rw e fine
  kind-limited s t (a-product p h e) (a-variable y v i j) = rw (e, j) fine
  kind-limited s t (a-product p h e) (a-product q i j) = rw (e, j) (onward (below (divide-below ν p q) (divide-exact ν p q)) (λ r i. fine))

  module _ (tells : Tells (λ a. goodAtom ν held 0 a ≡ true) (orderAtom ν)) where
    try-limits : (c : Con N) → Wide ν held w c → Limited (trySatisfy ν bounded c)
    unfolding trySatisfy
    try-limits c (scalar-of p h e) = rw e (scalar-limited ν law held tells p)
    try-limits c (dimension-of t v h e) = rw e fine
    try-limits c (equality-of s t h k e) = rw e (or-limited ν law held tells (firstRules ν s t) (by_kind ν bounded s t) (kind-limited s t h k))

    first-limits : (cs : List (Con N)) → All (Wide ν held w) cs → Limited (firstStep ν bounded cs)
    unfolding firstStep
    first-limits [] h = fine
    first-limits (c ∷ cs) h = onward (try-limits c (h c in_head)) (λ s i. taken-limited ν law held tells s c cs (first-limits cs (λ d m. h d (Memᴰ.tail m))))

    binding-limits : (x : N) (t : Ty N) → Sided ν held w t → (b : Binding N) → ((y : N) (u : Ty N) → b ≡ y ≔ u → Sided ν held w u)
        → Limited (replaceBinding ν bounded (bindings ν (x ≔ t ∷ [])) b)
    unfolding replaceBinding
    binding-limits x t st (y ≔ u) h = onward (type-limits ν law held w x t st u (h y u refl)) (λ v i. fine)

    perform-limits : (s : State N) → K s → (step : Step N) (rest : List (Con N)) → Found ν bounded s.cons step rest
        → Limited (perform ν bounded s.binds step rest)
    unfolding perform
    perform-limits s k (split new) rest f = state-limited ν law held tells _
    perform-limits s k done rest f = state-limited ν law held tells _
    perform-limits s k stuck rest f = fine
    perform-limits s k (bind x t) rest f =
        let st : Sided ν held w t = put s k (bind x t) rest f in
        onward (each-limited _ rest (λ c m. con-limits ν law held w x t st c (k.cons-wide c (f.kept c m)))) (λ cs' i.
        onward (each-limited _ s.binds (λ b m. binding-limits x t st b (λ y u e. k.binds-sided y u (rw e at m)))) (λ bs' j. state-limited ν law held tells _))

    pub round-limits : (s : State N) → K s → Limited (round ν bounded s)
    unfolding round performed
    round-limits s k = onward (first-limits s.cons k.cons-wide) go
      where
        go : (r : Option (Step N × List (Con N))) → firstStep ν bounded s.cons ≡ got r → Limited (performed ν bounded s.binds r)
        go none e = fine
        go (some v) e = onward (perform-limits s k v.0 v.1 (found ν bounded s.cons v e)) (λ s' i. fine)
