-- What a product comes to under a choice, one parameter or base dimension at a time: a worth.
use Rattle.std.proofs.Math.Path.{◌≡◌, refl, ap, ap₂, sym}
use Rattle.std.proofs.Common.{◌∙◌, leb-true, le-leb, eqb-true, eq-eqb}
use Rattle.std.specs.Prelude.{Bool, leb, nat_abs}
use Rattle.std.proofs.Math.Bool.{true, false}
use Rattle.std.proofs.Math.Option.{Option, none, some}
use mathlib.Core.List.{[], ◌∷◌, ◌++◌}
use Prim.Native.Nat.{Ordering}
use Rattle.rules.specs.Base.{is_yes, all}
use Rattle.rules.specs.Exponents.{Exp, frac, gcd, nought, one, plus, mul}
use Rattle.rules.specs.Trees.{var, quant, par, Atom, free, base, ◌↑◌, Product, Names, orderOpen, orderAtom}
use Rattle.rules.specs.Choices.{
  Fixed,
  parameter,
  baseDimension,
  Fixed-discrete,
  Part,
  ◌to◌,
  Dimension,
  rationalPart,
  Choice,
  Rational,
  power,
  scaled,
  chosenFor,
  comesTo,
}
use Rattle.laws.specs.Order.{Lawful}
use Rattle.laws.proofs.Order.{self}
use Rattle.laws.specs.Lists.{and_left, and_right, Every}
use Rattle.laws.proofs.Lists.{some≢none, and_both, no-is, yes-is, every_append}
use Rattle.laws.specs.Fractions.{Lowest}
use Rattle.laws.proofs.Fractions.{
  lowest-terms,
  terms-lowest,
  coprime-terms,
  nought-lowest,
  one-lowest,
  plus-in-lowest,
  mul-in-lowest,
  plus_assoc,
  plus-nought,
  nought-plus,
  plus-mul,
  nought-mul,
  mul-comm',
  mul-one',
}
use Rattle.laws.specs.Powers.{Sound}
use Rattle.laws.specs.Sorted.{Before}
use Rattle.laws.specs.GoodProducts.{goodAtom}
use Rattle.laws.proofs.GoodProducts.{good-proper}
use Rattle.theorems_completeness.proofs.Worth.{worth}
use Rattle.theorems_completeness.proofs.Products.{Good}

-- ══ Rational powers are fractions in lowest terms ══

module _ {N : Type 0} where
  abbrev pub Reduced : Part N → Type 0
  Reduced (u to e) = Lowest e

  part-reduced : (f : Part N) → rationalPart f ≡ true → Reduced f
  unfolding rationalPart
  part-reduced (u to frac n d) h = terms-lowest n d
      (coprime-terms n d (leb-true 1 d (and_left (leb 1 d) _ h)) (eqb-true (gcd (nat_abs n) d) 1 (and_right (leb 1 d) _ h)))

  reduced-part : (f : Part N) → Reduced f → rationalPart f ≡ true
  unfolding rationalPart
  reduced-part (u to frac n d) h = let t = lowest-terms n d h in and_both (le-leb 1 d t.positive) (eq-eqb (gcd (nat_abs n) d) 1 t.coprime)

  pub all-reduced : (d : Dimension N) → all rationalPart d ≡ true → Every Reduced d
  unfolding all
  all-reduced [] h = tt
  all-reduced (f ∷ d) h = (part-reduced f (and_left (rationalPart f) _ h), all-reduced d (and_right (rationalPart f) _ h))

  pub reduced-all : (d : Dimension N) → Every Reduced d → all rationalPart d ≡ true
  unfolding all
  reduced-all [] h = refl
  reduced-all (f ∷ d) h = and_both (reduced-part f h.0) (reduced-all d h.1)

  scaled-reduced : (d : Dimension N) (k : Exp) → Every Reduced d → Lowest k → Every Reduced (scaled d k)
  unfolding scaled
  scaled-reduced [] k h l = tt
  scaled-reduced (u to e ∷ d) k h l = (mul-in-lowest e k h.0 l, scaled-reduced d k h.1 l)

  module _ (c : Choice N) (r : Rational c) where
    chosen-reduced : (a : Atom N) → Every Reduced (chosenFor c a)
    unfolding chosenFor
    chosen-reduced (free (var x)) = all-reduced (c x) (r x)
    chosen-reduced (free (quant i)) = tt
    chosen-reduced (free (par x)) = (one-lowest, tt)
    chosen-reduced (base n) = (one-lowest, tt)

    pub comes-reduced : (Held : Atom N → Type 0) (p : Product N) → Every (Sound Held) p → Every Reduced (comesTo c p)
    unfolding comesTo
    comes-reduced Held [] h = tt
    comes-reduced Held (a ↑ e ∷ p) h = every_append Reduced (scaled (chosenFor c a) e) (comesTo c p)
        (scaled-reduced (chosenFor c a) e (chosen-reduced a) h.0.1) (comes-reduced Held p h.1)

-- ══ One parameter or base dimension ══

module _ {N : Type 0} (same : Discrete N) (u : Fixed N) where
  -- one part more: it counts, or it is of another
  pub at_part : (P : Exp → Type 0) (v : Fixed N) (e : Exp) (d : Dimension N) → ((u ≡ v) → P (plus e (power same u d)))
      → (¬ (u ≡ v) → P (power same u d)) → P (power same u (v to e ∷ d))
  unfolding power
  at_part P v e d f g = go (is_yes (Fixed-discrete same u v)) refl
    where
      go : (b : Bool) → is_yes (Fixed-discrete same u v) ≡ b → P (power same u (v to e ∷ d))
      go true i = rw (i, power) (f (yes-is (Fixed-discrete same u v) i))
      go false i = rw (i, power) (g (λ h. no-is (Fixed-discrete same u v) i h))

  pub power-lowest : (d : Dimension N) → Every Reduced d → Lowest (power same u d)
  unfolding power
  power-lowest [] h = nought-lowest
  power-lowest (v to e ∷ d) h = at_part Lowest v e d (λ i. plus-in-lowest e (power same u d) h.0 (power-lowest d h.1)) (λ i. power-lowest d h.1)

  power-there : (v : Fixed N) (e : Exp) (d : Dimension N) → ¬ (u ≡ v) → power same u (v to e ∷ d) ≡ power same u d
  power-there v e d n = at_part (λ x. x ≡ power same u d) v e d (λ i. absurd (n i)) (λ i. refl)

  power-here : (v : Fixed N) (e : Exp) (d : Dimension N) → u ≡ v → power same u (v to e ∷ d) ≡ plus e (power same u d)
  power-here v e d i = at_part (λ x. x ≡ plus e (power same u d)) v e d (λ j. refl) (λ n. absurd (n i))

  power-append : (d e : Dimension N) → Every Reduced d → Every Reduced e → power same u (d ++ e) ≡ plus (power same u d) (power same u e)
  unfolding power
  power-append [] e h k = sym (nought-plus (power same u e) (power-lowest e k))
  power-append (v to x ∷ d) e h k = go (power-append d e h.1 k)
    where
      go : power same u (d ++ e) ≡ plus (power same u d) (power same u e) → power same u (v to x ∷ (d ++ e)) ≡ plus (power same u (v to x ∷ d)) (power same u e)
      go r =
          at_part (λ y. y ≡ plus (power same u (v to x ∷ d)) (power same u e)) v x (d ++ e)
          (λ i. ap (plus x) r ∙ sym (plus_assoc x (power same u d) (power same u e) h.0 (power-lowest d h.1) (power-lowest e k))
          ∙ ap (λ (y : Exp). plus y (power same u e)) (sym (power-here v x d i)))
          (λ n. r ∙ ap (λ (y : Exp). plus y (power same u e)) (sym (power-there v x d n)))

  power-scaled : (d : Dimension N) (k : Exp) → Every Reduced d → Lowest k → power same u (scaled d k) ≡ mul (power same u d) k
  unfolding power scaled
  power-scaled [] k h l = sym (nought-mul k l)
  power-scaled (v to e ∷ d) k h l = go (power-scaled d k h.1 l)
    where
      go : power same u (scaled d k) ≡ mul (power same u d) k → power same u (v to mul e k ∷ scaled d k) ≡ mul (power same u (v to e ∷ d)) k
      go r =
          at_part (λ y. y ≡ mul (power same u (v to e ∷ d)) k) v (mul e k) (scaled d k)
          (λ i. ap (plus (mul e k)) r ∙ sym (plus-mul e (power same u d) k h.0 (power-lowest d h.1) l) ∙ ap (λ (y : Exp). mul y k) (sym (power-here v e d i)))
          (λ n. r ∙ ap (λ (y : Exp). mul y k) (sym (power-there v e d n)))

-- ══ A choice as a worth ══

module _ {N : Type 0} (same : Discrete N) (c : Choice N) where
  -- what an atom is worth: the power of u in what was chosen for it
  abbrev pub measured : Fixed N → Atom N → Exp
  measured u a = power same u (chosenFor c a)

module _ {N : Type 0} (same : Discrete N) (c : Choice N) (r : Rational c) where
  pub measured-lowest : (u : Fixed N) (a : Atom N) → Lowest (measured same c u a)
  measured-lowest u a = power-lowest same u (chosenFor c a) (chosen-reduced c r a)

  pub comes-worth : (Held : Atom N → Type 0) (u : Fixed N) (p : Product N) → Every (Sound Held) p → power same u (comesTo c p) ≡ worth (measured same c u) p
  unfolding power comesTo worth
  comes-worth Held u [] h = refl
  comes-worth Held u (a ↑ e ∷ p) h =
      power-append same u (scaled (chosenFor c a) e) (comesTo c p) (scaled-reduced (chosenFor c a) e (chosen-reduced c r a) h.0.1)
      (comes-reduced c r Held p h.1)
      ∙ ap₂ plus (power-scaled same u (chosenFor c a) e (chosen-reduced c r a) h.0.1) (comes-worth Held u p h.1)

  module _ (ν : Names N) (law : Lawful (orderAtom ν)) (held : N → Bool) where
    pub good-worth : (u : Fixed N) (p : Product N) → Good ν held p → power same u (comesTo c p) ≡ worth (measured same c u) p
    good-worth u p h = comes-worth (λ a. goodAtom ν held 0 a ≡ true) u p (good-proper ν law held 0 p h).each

-- ══ A product without variables, with a power that isn't 0 ══

module _ {N : Type 0} where
  -- the parameter or base dimension of an atom
  abbrev pub fixed_of : Atom N → Option (Fixed N)
  fixed_of (free (var x)) = none
  fixed_of (free (quant i)) = none
  fixed_of (free (par x)) = some (parameter x)
  fixed_of (base n) = some (baseDimension n)

module _ {N : Type 0} (ν : Names N) (law : Lawful ν.order) (c : Choice N) where
  itself : (u : Fixed N) → power ν.same u (u to one ∷ []) ≡ one
  unfolding power
  itself u = power-here ν.same u u one [] refl ∙ plus-nought one one-lowest

  other : (u v : Fixed N) → ¬ (u ≡ v) → power ν.same u (v to one ∷ []) ≡ nought
  unfolding power
  other u v n = power-there ν.same u v one [] n

  own_power : (a : Atom N) (u : Fixed N) → fixed_of a ≡ some u → measured ν.same c u a ≡ one
  unfolding chosenFor
  own_power (free (var x)) u e = absurd (some≢none (sym e))
  own_power (free (quant i)) u e = absurd (some≢none (sym e))
  own_power (free (par x)) u e = let z : parameter x ≡ u = cc in rw (sym z) (itself (parameter x))
  own_power (base n) u e = let z : baseDimension n ≡ u = cc in rw (sym z) (itself (baseDimension n))

  unordered : (x y : N) → ν.order x y ≡ Ordering.lt → ¬ (x ≡ y)
  unordered x y o e = let i : ν.order x y ≡ Ordering.eq = rw (sym e) (self law x) in cc

  -- behind an atom that is no variable there are none, and none of its name
  later-power : (a b : Atom N) (u : Fixed N) → fixed_of a ≡ some u → orderAtom ν a b ≡ Ordering.lt → measured ν.same c u b ≡ nought
  unfolding chosenFor orderAtom orderOpen
  later-power (free (var x)) b u e o = absurd (some≢none (sym e))
  later-power (free (quant i)) b u e o = absurd (some≢none (sym e))
  later-power (free (par x)) (free (var y)) u e o = absurd (cc)
  later-power (free (par x)) (free (quant j)) u e o = absurd (cc)
  later-power (free (par x)) (free (par y)) u e o = let z : parameter x ≡ u = cc in rw (sym z) (other (parameter x) (parameter y) (λ i. unordered x y o (cc)))
  later-power (free (par x)) (base m) u e o = let z : parameter x ≡ u = cc
      in rw (sym z) (other (parameter x) (baseDimension m) (λ i. cc))
  later-power (base n) (free p) u e o = absurd (cc)
  later-power (base n) (base m) u e o = let z : baseDimension n ≡ u = cc in rw (sym z) (other (baseDimension n) (baseDimension m) (λ i. unordered n m o (cc)))

  later-worth : (Held : Atom N → Type 0) (a : Atom N) (u : Fixed N) (p : Product N) → fixed_of a ≡ some u → Before ν a p → Every (Sound Held) p
      → worth (measured ν.same c u) p ≡ nought
  unfolding worth
  later-worth Held a u [] e h k = refl
  later-worth Held a u (b ↑ j ∷ p) e h k =
      ap₂ plus (ap (λ (x : Exp). mul x j) (later-power a b u e h.0) ∙ nought-mul j k.0.1) (later-worth Held a u p e h.1 k.1)
      ∙ plus-nought nought nought-lowest

  -- the first power stands alone
  pub first-worth : (Held : Atom N → Type 0) (a : Atom N) (u : Fixed N) (k : Exp) (p : Product N) → fixed_of a ≡ some u → Before ν a p
      → Every (Sound Held) (a ↑ k ∷ p)
      → worth (measured ν.same c u) (a ↑ k ∷ p) ≡ k
  unfolding worth
  first-worth Held a u k p e h s =
      ap₂ plus (ap (λ (x : Exp). mul x k) (own_power a u e) ∙ mul-comm' one k ∙ mul-one' k s.0.1) (later-worth Held a u p e h s.1) ∙ plus-nought k s.0.1
