-- A choice of the open variables, completed by bindings to sides that are in solved form.
use Rattle.std.proofs.Math.Path.{◌≡◌, refl, ap, sym}
use Rattle.std.proofs.Common.{◌∙◌, inl, inr}
use Rattle.std.specs.Prelude.{Bool, ◌⊎◌}
use Rattle.std.proofs.Math.Bool.{true, false}
use Rattle.std.proofs.Math.Option.{some, get_or}
use mathlib.Core.List.Memᴰ
use mathlib.Core.List.{List, [], ◌∷◌, Memᴰ}
use Rattle.rules.specs.Base.{is_yes, all}
use Rattle.rules.specs.Trees.{var, free, Product, Names, Ty, dim, Con, Binding, ◌≔◌, orderAtom, opens}
use Rattle.rules.specs.Choices.{Fixed, Dimension, rationalPart, Choice, Rational, power, Same, chosenFor, comesTo, sideComesTo, MakesWideTrue, completedWide}
use Rattle.laws.specs.Order.{Lawful}
use Rattle.laws.specs.Lists.{in_head, Every}
use Rattle.laws.proofs.Lists.{yes-is, no-is}
use Rattle.laws.specs.GoodProducts.{goodAtom}
use Rattle.laws.proofs.GoodProducts.{good-proper}
use Rattle.theorems_completeness.specs.Claims.{◌⇔◌}
use Rattle.theorems_completeness.proofs.Chosen.{Reduced, measured, good-worth, all-reduced, reduced-all, comes-reduced}
use Rattle.std.proofs.Math.Path.{ap₂}
use Rattle.rules.specs.Base.{collect}
use Rattle.rules.specs.Exponents.{Exp, plus, mul}
use Rattle.rules.specs.Trees.{quant, par, Atom, base, ◌↑◌}
use Rattle.theorems_completeness.proofs.Worth.{worth}
use Rattle.theorems_completeness.proofs.Sides.{Sided, a-product, a-variable, sided-is, Wide, scalar-of, equality-of, dimension-of, value, RightWide, BoundWide}

module _ {N : Type 0} where
  -- no binding has this variable
  abbrev pub OpenIn : List (Binding N) → N → Type 0
  OpenIn bs x = (t : Ty N) → Memᴰ (x ≔ t) bs → ⊥

-- ══ Products of open variables ══

module _ {N : Type 0} (same : Discrete N) (c d : Choice N) (u : Fixed N) where
  measured-same : (a : Atom N) → ((x : N) → a ≡ free (var x) → power same u (c x) ≡ power same u (d x)) → measured same c u a ≡ measured same d u a
  unfolding chosenFor
  measured-same (free (var x)) h = h x refl
  measured-same (free (quant i)) h = refl
  measured-same (free (par x)) h = refl
  measured-same (base n) h = refl

  -- choices that agree on the variables of a product make it worth the same
  pub worth-same : (p : Product N) → ((x : N) → Memᴰ (var x) (opens (dim p)) → power same u (c x) ≡ power same u (d x))
      → worth (measured same c u) p ≡ worth (measured same d u) p
  unfolding worth opens collect
  worth-same [] h = refl
  worth-same (free o ↑ e ∷ p) h = ap₂ (λ (y z : Exp). plus (mul y e) z)
      (measured-same (free o) (λ x i. h x (let j : o ≡ var x = cc in rw j in_head))) (worth-same p (λ x m. h x (Memᴰ.tail m)))
  worth-same (base n ↑ e ∷ p) h = ap₂ (λ (y z : Exp). plus (mul y e) z)
      (measured-same (base n) (λ x i. absurd (cc))) (worth-same p h)

-- ══ What a side comes to ══

module _ {N : Type 0} (ν : Names N) (law : Lawful (orderAtom ν)) (held : N → Bool) (w : Bool) (c : Choice N) (r : Rational c) where
  pub record Comes (t : Ty N) : Type 0 where
    pub dimension : Dimension N
    pub is : sideComesTo c t ≡ some dimension
    pub reduced : Every Reduced dimension
    pub powers : (u : Fixed N) → power ν.same u dimension ≡ value (measured ν.same c u) t

  pub comes : (t : Ty N) → Sided ν held w t → Comes t
  unfolding sideComesTo chosenFor
  comes t (a-product p h e) = record {
    dimension = comesTo c p;
    is = rw e;
    reduced = comes-reduced c r (λ a. goodAtom ν held 0 a ≡ true) p (good-proper ν law held 0 p h).each;
    powers = λ u. rw e (good-worth ν.same c r ν law held u p h);
  }
  comes t (a-variable y v h e) = record { dimension = c y; is = rw e; reduced = all-reduced (c y) (r y); powers = λ u. rw e refl }

  -- a choice makes a constraint true when it is right for each parameter and base dimension
  pub makes-wide : (k : Con N) → Wide ν held w k → MakesWideTrue ν.same c k ⇔ ((u : Fixed N) → RightWide (measured ν.same c u) k)
  unfolding MakesWideTrue
  makes-wide k (scalar-of p h e) = rw e (λ f u. sym (good-worth ν.same c r ν law held u p h) ∙ f u, λ f u. good-worth ν.same c r ν law held u p h ∙ f u)
  makes-wide k (equality-of s t h i e) =
      let a = comes s h in
      let b = comes t i in
      rw (e, a.is, b.is) (λ f u. sym (a.powers u) ∙ f u ∙ b.powers u, λ f u. a.powers u ∙ f u ∙ sym (b.powers u))
  makes-wide k (dimension-of t v h e) = rw e (λ f u. tt, λ f. sided-is ν held w t h)

-- ══ A variable is bound or open ══

module _ {N : Type 0} (same : Discrete N) (c : Choice N) (P : N → Dimension N → Type 0) where
  -- what holds of each bound variable and of each open one holds of what it gets
  pub by-side : (bs : List (Binding N)) (x : N) → ((t : Ty N) → Memᴰ (x ≔ t) bs → P x (get_or (sideComesTo c t) (c x))) → (OpenIn bs x → P x (c x))
      → P x (completedWide same bs c x)
  unfolding completedWide
  by-side [] x f g = g (λ t m. Memᴰ.not-nil m)
  by-side (y ≔ u ∷ bs) x f g = go (is_yes (same x y)) refl (by-side bs x)
    where
      go : (b : Bool) → is_yes (same x y) ≡ b
          → (((t : Ty N) → Memᴰ (x ≔ t) bs → P x (get_or (sideComesTo c t) (c x))) → (OpenIn bs x → P x (c x)) → P x (completedWide same bs c x))
          → P x (completedWide same (y ≔ u ∷ bs) c x)
      go true i r = rw (i, completedWide) (f u (let e : x ≡ y = yes-is (same x y) i in rw e in_head))
      go false i r = rw (i, completedWide) (r (λ t m. f t (Memᴰ.tail m)) (λ n. g (λ t m. other n t (Memᴰ.cases_cons m))))
        where
          other : OpenIn bs x → (t : Ty N) → (x ≔ t ≡ y ≔ u) ⊎ Memᴰ (x ≔ t) bs → ⊥
          other n t (inl e) = no-is (same x y) i (cc)
          other n t (inr m) = n t m

module _ {N : Type 0} (ν : Names N) (held : N → Bool) (w : Bool) (c d : Choice N) (u : Fixed N) where
  -- choices that agree on the variables of a side make it worth the same
  value-same : (t : Ty N) → Sided ν held w t → ((y : N) → Memᴰ (var y) (opens t) → power ν.same u (c y) ≡ power ν.same u (d y))
      → value (measured ν.same c u) t ≡ value (measured ν.same d u) t
  unfolding opens chosenFor
  value-same t (a-product p h e) f = rw e (worth-same ν.same c d u p (rw e at f))
  value-same t (a-variable y v h e) f = let g : (z : N) → Memᴰ (var z) (var y ∷ [])
      → power ν.same u (c z) ≡ power ν.same u (d z) = rw e at f in rw e (g y in_head)

-- ══ Bindings in solved form ══

module _ {N : Type 0} (ν : Names N) (law : Lawful (orderAtom ν)) (held : N → Bool) (w : Bool) (bs : List (Binding N))
    (sides : (x : N) (t : Ty N) → Memᴰ (x ≔ t) bs → Sided ν held w t) (once : (x : N) (t u : Ty N) → Memᴰ (x ≔ t) bs → Memᴰ (x ≔ u) bs → t ≡ u)
    (apart : (x y : N) (t u : Ty N) → Memᴰ (x ≔ t) bs → Memᴰ (y ≔ u) bs → Memᴰ (var x) (opens u) → ⊥) where
  abbrev same : Discrete N
  same = ν.same

  abbrev full : Choice N → Choice N
  full c = completedWide ν.same bs c

  pub open-gets : (c : Choice N) (x : N) → OpenIn bs x → full c x ≡ c x
  open-gets c x n = by-side same c (λ y d. d ≡ c x) bs x (λ t m. absurd (n t m)) (λ i. refl)

  module _ (c : Choice N) (r : Rational c) where
    abbrev gives_of : (t : Ty N) → Sided ν held w t → Comes ν law held w c r t
    gives_of t h = comes ν law held w c r t h

    -- a bound variable gets what its side comes to
    bound-gets : (x : N) (t : Ty N) (m : Memᴰ (x ≔ t) bs) → full c x ≡ (gives_of t (sides x t m)).dimension
    bound-gets x t m =
        let s = gives_of t (sides x t m) in
        by-side same c (λ y d. d ≡ s.dimension) bs x (λ u n. let e : u ≡ t = once x u t n m in rw (e, s.is) refl) (λ n. absurd (n t m))

    pub full-rational : Rational (full c)
    full-rational x =
        by-side same c (λ y d. all rationalPart d ≡ true) bs x
        (λ t m. let s = gives_of t (sides x t m) in rw s.is (reduced-all s.dimension s.reduced)) (λ n. r x)

    -- completing makes the bindings true
    pub full-right : (u : Fixed N) (x : N) (t : Ty N) → Memᴰ (x ≔ t) bs → BoundWide (measured same (full c) u) x t
    unfolding chosenFor
    full-right u x t m =
        ap (power same u) (bound-gets x t m) ∙ (gives_of t (sides x t m)).powers u
        ∙ sym (value-same ν held w (full c) c u t (sides x t m) (λ y n. ap (power same u) (open-gets c y (λ q i. apart y x q t i m n))))

    -- where the bindings are true, each bound variable is what its side comes to
    pub right-sides : ((u : Fixed N) (x : N) (t : Ty N) → Memᴰ (x ≔ t) bs → BoundWide (measured same c u) x t)
        → (x : N) (t : Ty N) → Memᴰ (x ≔ t) bs → (d : Dimension N) → sideComesTo c t ≡ some d → Same same (c x) d
    unfolding chosenFor
    right-sides f x t m d e u =
        let s = gives_of t (sides x t m) in
        let z : some s.dimension ≡ some d = sym s.is ∙ e in
        let y : s.dimension ≡ d = cc in
        f u x t m ∙ sym (s.powers u) ∙ ap (power same u) y

    -- and completing changes nothing
    pub right-full : ((x : N) (t : Ty N) → Memᴰ (x ≔ t) bs → (d : Dimension N) → sideComesTo c t ≡ some d → Same same (c x) d) → (x : N)
        → Same same (c x) (full c x)
    right-full f x =
        by-side same c (λ y d. Same same (c x) d) bs x
        (λ t m. let s = gives_of t (sides x t m) in rw s.is (f x t m s.dimension s.is)) (λ n u. refl)

  -- the open variables decide
  pub open-decide : (c d : Choice N) → Rational c → Rational d → ((x : N) → OpenIn bs x → Same same (c x) (d x)) → (x : N) → Same same (full c x) (full d x)
  open-decide c d rc rd f x =
      by-side same c (λ y e. Same same e (full d x)) bs x alike (λ n u. f x n u ∙ ap (power same u) (sym (open-gets d x n)))
    where
      alike : (t : Ty N) → Memᴰ (x ≔ t) bs → Same same (get_or (sideComesTo c t) (c x)) (full d x)
      alike t m =
          let s = comes ν law held w c rc t (sides x t m) in
          let z = comes ν law held w d rd t (sides x t m) in
          rw s.is (λ u.
          s.powers u ∙ value-same ν held w c d u t (sides x t m) (λ y n. f y (λ q i. apart y x q t i m n) u) ∙ sym (z.powers u)
          ∙ ap (power same u) (sym (bound-gets d rd x t m)))
