-- Products and what they are worth: quotients, a variable replaced by a dimension, and the first variable of an equal-scalar.
use Rattle.std.specs.Prelude.{◌≡◌, Bool, true, ◌⊎◌}
use Rattle.std.proofs.Math.Path.{refl, ap, sym}
use Rattle.std.proofs.Common.{ap₂, ◌∙◌, inl, inr, arith}
use Rattle.std.proofs.Math.Option.{none, some}
use mathlib.Core.List.{[], ◌∷◌}
use Rattle.rules.specs.Base.{got, bounded}
use Rattle.rules.specs.Exponents.{Exp, nought, neg, plus, mul}
use Rattle.rules.specs.Trees.{Open, var, Atom, free, base, ◌↑◌, Product, Names, dim, ◌≔◌, orderAtom}
use Rattle.rules.specs.Products.{inverse, multiply, divide, raise}
use Rattle.rules.specs.Replacing.{Look, asProduct, replaceFactors, replaceProduct, bindings}
use Rattle.rules.specs.WellFormed.{goodProduct}
use Rattle.laws.specs.Order.{Lawful, Tells}
use Rattle.laws.specs.Lists.{Every}
use Rattle.laws.proofs.Value.{Gives, gives, next, weaken, together, its_own}
use Rattle.laws.specs.Fractions.{Lowest}
use Rattle.laws.proofs.Fractions.{neg-lowest, mul-in-lowest, plus_comm, plus_assoc, plus-nought, plus-neg}
use Rattle.laws.proofs.ExactProducts.{multiply-value, divide-value, raise-value}
use Rattle.laws.specs.Powers.{Proper}
use Rattle.laws.proofs.Powers.{inverse-proper}
use Rattle.laws.specs.GoodProducts.{goodAtom}
use Rattle.laws.proofs.GoodProducts.{GoodFactor, good-product, product-good, good-proper, multiply_good, divide-good, raise-good}
use Rattle.laws.proofs.Ranges.{stored-good, good-lowest}
use Rattle.laws.proofs.Occurs.{one-bound}
use Rattle.theorems_completeness.specs.Claims.{◌⇔◌}
use Rattle.theorems_completeness.proofs.Worth.{same-difference, no_difference, worth, worth-lowest, worth-merge, worth-raise, worth-inverse}
use Prim.Native.Nat.{Ordering}
use Rattle.rules.specs.Base.{each}
use Rattle.rules.specs.Exponents.{inverted}
use Rattle.rules.specs.Trees.{Factor}
use Rattle.rules.specs.Rounds.{otherSide}
use Rattle.rules.specs.WellFormed.{atomOf}
use Rattle.laws.proofs.Order.{self}
use Rattle.laws.proofs.Fractions.{neg-neg, inverted-lowest, mul-inverted, mul-assoc', mul-one'}
use Rattle.laws.proofs.ExactSolve.{others_below}
use Rattle.laws.proofs.Evaluation.{rest-proper, other-raised}
use Rattle.laws.proofs.KeepsGood.{has-inverse}
use Rattle.laws.proofs.Occurs.{OnFactor}

module _ {N : Type 0} (ν : Names N) (held : N → Bool) where
  abbrev pub Good : Product N → Type 0
  Good p = goodProduct ν held 0 p ≡ true

-- ══ What is worth what ══

there_and_back : (w x : Exp) → Lowest w → Lowest x → plus (plus w (neg x)) x ≡ w
there_and_back w x p q = plus_assoc w (neg x) x p (neg-lowest x q) q ∙ ap (plus w) (plus_comm (neg x) x ∙ plus-neg x q) ∙ plus-nought w p

module _ {N : Type 0} (ν : Names N) (law : Lawful (orderAtom ν)) (held : N → Bool) (tells : Tells (λ a. goodAtom ν held 0 a ≡ true) (orderAtom ν))
    (g : Atom N → Exp) (low : (a : Atom N) → Lowest (g a)) where
  abbrev Held : Atom N → Type 0
  Held a = goodAtom ν held 0 a ≡ true

  proper : (p : Product N) → Good ν held p → Proper ν Held p
  proper p h = good-proper ν law held 0 p h

  pub worth-low : (p : Product N) → Good ν held p → Lowest (worth g p)
  worth-low p h = worth-lowest ν law tells g low p (proper p h).each

  -- a quotient is worth the difference
  pub divide-worth : (p q r : Product N) → Good ν held p → Good ν held q → divide ν bounded p q ≡ got r → worth g r ≡ plus (worth g p) (neg (worth g q))
  divide-worth p q r h k e =
      ap (worth g) (divide-value ν p q r e)
      ∙ worth-merge ν law tells g low p (inverse q) (proper p h).each (inverse-proper ν law tells q (proper q k)).each
      ∙ ap (plus (worth g p)) (worth-inverse ν law tells g low q (proper q k))

  module _ (x : N) (d : Product N) (gd : Good ν held d) (keeps : g (free (var x)) ≡ worth g d) where
    abbrev look_up : Look N
    look_up = bindings ν (x ≔ dim d ∷ [])

    one-factor : (o : Open N) (e : Exp) → GoodFactor ν held 0 (free o ↑ e) → Good ν held (free o ↑ e ∷ [])
    one-factor o e h = product-good ν law held 0 (free o ↑ e ∷ []) (record { in_order = (tt, tt); each = (h, tt); few = omega arith })

    factor-worth : (o : Open N) (e : Exp) → GoodFactor ν held 0 (free o ↑ e) → worth g (free o ↑ e ∷ []) ≡ mul (g (free o)) e
    unfolding worth
    factor-worth o e h = plus-nought (mul (g (free o)) e) (mul-in-lowest (g (free o)) e (low (free o)) (good-lowest e (stored-good e h.1)))

    -- dividing by the variable to a power and multiplying by its dimension to that power
    step-worth : (o : Open N) (e : Exp) → GoodFactor ν held 0 (free o ↑ e) → g (free o) ≡ worth g d → (acc left more r : Product N) → Good ν held acc
        → Good ν held left → Good ν held more
        → divide ν bounded acc (free o ↑ e ∷ []) ≡ got left → raise ν bounded d e ≡ got more → multiply ν bounded left more ≡ got r → worth g r ≡ worth g acc
    step-worth o e h same acc left more r ga gl gm i j k =
        let f = one-factor o e h in
        let le = good-lowest e (stored-good e h.1) in
        let X = mul (g (free o)) e in
        let lX : Lowest X = mul-in-lowest (g (free o)) e (low (free o)) le in
        let more-worth : worth g more ≡ X = ap (worth g) (raise-value ν d e more j) ∙ worth-raise ν law tells g low d e (proper d gd).each le
        ∙ ap (λ (y : Exp). mul y e) (sym same) in
        let left-worth : worth g left ≡ plus (worth g acc) (neg X) = divide-worth acc (free o ↑ e ∷ []) left ga f i
        ∙ ap (λ (y : Exp). plus (worth g acc) (neg y)) (factor-worth o e h) in
        ap (worth g) (multiply-value ν left more r k)
        ∙ worth-merge ν law tells g low left more (proper left gl).each (proper more gm).each
        ∙ ap₂ plus left-worth more-worth
        ∙ there_and_back (worth g acc) X (worth-low acc ga) lX

    factors-worth : (p acc : Product N) → Every (GoodFactor ν held 0) p → Good ν held acc
        → Gives (replaceFactors ν bounded look_up p acc) (λ r. worth g r ≡ worth g acc)
    unfolding replaceFactors asProduct
    factors-worth [] acc h k = gives refl
    factors-worth (base n ↑ e ∷ p) acc h k = factors-worth p acc h.1 k
    factors-worth (free o ↑ e ∷ p) acc h k = go (one-bound ν x (dim d) o) (λ acc' i. factors-worth p acc' h.1 i)
      where
        go : ((o ≡ var x) × (look_up o ≡ some (dim d))) ⊎ ((o ≡ var x → ⊥) × (look_up o ≡ none))
            → ((acc' : Product N) → Good ν held acc' → Gives (replaceFactors ν bounded look_up p acc') (λ r. worth g r ≡ worth g acc'))
            → Gives (replaceFactors ν bounded look_up (free o ↑ e ∷ p) acc) (λ r. worth g r ≡ worth g acc)
        go (inr i) f = rw (i.1, replaceFactors) (f acc k)
        go (inl i) f =
            rw (i.1, replaceFactors)
            (next (together (divide-good ν law held 0 acc (free o ↑ e ∷ []) k (one-factor o e h.0))
            (its_own (divide ν bounded acc (free o ↑ e ∷ [])))) (λ left m.
            next (together (raise-good ν law held 0 d e gd (stored-good e h.0.1)) (its_own (raise ν bounded d e))) (λ more n.
            next (together (multiply_good ν law held 0 left more m.0 n.0) (its_own (multiply ν bounded left more))) (λ acc' j.
            weaken (f acc' j.0) (λ r z. z ∙ step-worth o e h.0 (ap (λ (u : Open N). g (free u)) i.0 ∙ keeps) acc left more acc' k m.0 n.0 m.1 n.1 j.1)))))

    pub product-worth : (p : Product N) → Good ν held p → Gives (replaceProduct ν bounded look_up p) (λ r. worth g r ≡ worth g p)
    unfolding replaceProduct
    product-worth p h = factors-worth p p (good-product ν law held 0 p h).each h

module _ {N : Type 0} (ν : Names N) (law : Lawful (orderAtom ν)) where
  -- a variable stands before none of its own name
  pub alone : (x : N) (f : Factor N) → orderAtom ν (free (var x)) (atomOf f) ≡ Ordering.lt → OnFactor (λ o. o ≡ var x → ⊥) f
  alone x (base n ↑ e) h = tt
  alone x (free o ↑ e) h = λ i. let j : orderAtom ν (free (var x)) (free o) ≡ Ordering.eq = rw i (self law (free (var x)))
      in cc

-- ══ An equal-scalar, and what its first variable is bound to ══

cancel : (a b k i : Exp) → Lowest a → Lowest b → Lowest k → inverted k ≡ some i → mul a k ≡ mul b k → a ≡ b
cancel a b k i la lb lk e h = sym (undone a la) ∙ ap (λ (x : Exp). mul x i) h ∙ undone b lb
  where
    undone : (c : Exp) → Lowest c → mul (mul c k) i ≡ c
    undone c lc = mul-assoc' c k i lc lk (inverted-lowest k i lk e) ∙ ap (mul c) (mul-inverted k i lk e) ∙ mul-one' c lc

-- a sum that is 0: one part is the other's negative
module _ (a b : Exp) (p : Lowest a) (q : Lowest b) where
  negative : plus a b ≡ nought → a ≡ neg b
  negative h = no_difference a (neg b) p (neg-lowest b q) (ap (plus a) (neg-neg b) ∙ h)

  adds-up : a ≡ neg b → plus a b ≡ nought
  adds-up h = ap (plus a) (sym (neg-neg b)) ∙ same-difference a (neg b) p (neg-lowest b q) h

module _ {N : Type 0} (ν : Names N) (law : Lawful (orderAtom ν)) (held : N → Bool) (tells : Tells (λ a. goodAtom ν held 0 a ≡ true) (orderAtom ν))
    (g : Atom N → Exp) (low : (a : Atom N) → Lowest (g a)) where
  pub first-right : (x : N) (k : Exp) (p q : Product N) → Good ν held (free (var x) ↑ k ∷ p) → Good ν held q → each (otherSide bounded k) p ≡ got q
      → (worth g (free (var x) ↑ k ∷ p) ≡ nought) ⇔ (g (free (var x)) ≡ worth g q)
  unfolding worth
  first-right x k p q h m n =
      let whole = good-proper ν law held 0 (free (var x) ↑ k ∷ p) h in
      let hp = rest-proper ν law tells (free (var x)) k p whole in
      let hq = good-proper ν law held 0 q m in
      let lk : Lowest k = whole.each.0.1 in
      let inv = has-inverse k lk whole.each.0.2 in
      let G = g (free (var x)) in
      let lG : Lowest G = low (free (var x)) in
      let lp : Lowest (worth g p) = worth-lowest ν law tells g low p hp.each in
      let lq : Lowest (worth g q) = worth-lowest ν law tells g low q hq.each in
      let W : mul (worth g q) k ≡ neg (worth g p) =
      sym (worth-raise ν law tells g low q k hq.each lk)
      ∙ ap (worth g) (other-raised ν law tells k inv.0 lk inv.1 p q hp.each ((others_below ν k p).gives q n))
      ∙ worth-inverse ν law tells g low p hp in (
        λ e. cancel G (worth g q) k inv.0 lG lq lk inv.1 (negative (mul G k) (worth g p) (mul-in-lowest G k lG lk) lp e ∙ sym W),
        λ e. adds-up (mul G k) (worth g p) (mul-in-lowest G k lG lk) lp (ap (λ (y : Exp). mul y k) e ∙ W),
      )
