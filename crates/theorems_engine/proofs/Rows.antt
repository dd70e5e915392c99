-- Rows and the products that they stand for: each step on rows is the solver's step on the products.
use Rattle.std.proofs.Math.Path.{◌≡◌, refl, ap, sym}
use Rattle.std.proofs.Common.{◌∙◌, subst, inl, inr, le-leb}
use Rattle.std.specs.Prelude.{Bool, ◌⊎◌}
use Rattle.std.proofs.Math.Bool.{true, false}
use Rattle.std.proofs.Math.Option
use Rattle.std.proofs.Math.Option.{Option, none, some}
use mathlib.Core.List.{List, [], ◌∷◌, map}
use Prim.Native.Nat.{ℕ, zero, suc, ◌≤◌, Ordering}
use native.Mathlib.Omega.{arith}
use Rattle.std.proofs.Math.ListN.{length, get_or, set}
use Rattle.rules.specs.Base.{Got, got, refused, ◌>>=◌, bounded, within, each}
use Rattle.rules.specs.Exponents.{Exp, nought, one, isZero, neg, sum, times, quotient}
use Rattle.rules.specs.Trees.{Open, var, quant, par, Atom, free, base, ◌↑◌, Product, Names, dim, is_scalar, ◌≔◌, orderOpen, orderAtom}
use Rattle.rules.specs.Products.{put, just, single, inverse, mergeOne, merge, multiply, divide, raise}
use Rattle.rules.specs.Replacing.{Look, asProduct, replaceFactors, replaceProduct, replaceDim, replaceTy, bindings}
use Rattle.rules.specs.Rounds.{bind, stuck, otherSide, trySatisfy}
use Rattle.laws.proofs.KeepsGood.{quotient-not-zero}
use Rattle.laws.specs.Lists.{Every}
use Rattle.laws.proofs.Lists.{bracket, same_after}
use Rattle.laws.proofs.Ranges.{good-lowest}
use Rattle.laws.specs.Order.{Lawful, turned}
use Rattle.laws.proofs.Order.{self, before_differs}
use Rattle.laws.proofs.Value.{together, its_own}
use Rattle.laws.proofs.Ranges.{nought-good, one-good, neg-good, sum-good, times-good, quotient-good}
use Rattle.laws.specs.Sorted.{Before}
use Rattle.laws.proofs.Sorted.{merge-nil}
use Rattle.laws.proofs.SortedNames.{Rises}
use Rattle.laws.proofs.RuleCases.{single-is}
use Rattle.laws.proofs.Occurs.{one-bound}
use Rattle.rules.specs.Elimination.{Row, solvedFor, timesRow, plusRow, putInRow, Fate, gone, stays, binds, atColumn, oneFurther, fate, factors, atomNames}
use Rattle.laws.proofs.Alike.{Alike, both, onward, one_more, other-more, same_step, other-is, other-there}
use Rattle.theorems_engine.proofs.Powers.{Good, zero_is, nought-times, times-nought, times-one, sum-nought, nought-sum, sum-neg, nought-quotient}

-- ══ Powers and columns ══

-- a power is 0, or it isn't
by-power : (Q : Exp → Type 0) (e : Exp) → Good e → Q nought → (isZero e ≡ false → Q e) → Q e
by-power Q e h f g = go (isZero e) refl
  where
    go : (b : Bool) → isZero e ≡ b → Q e
    go true z = subst Q (sym (zero_is e h z)) f
    go false z = g z

set_same : (r : Row) (c : ℕ) → get_or r c nought ≡ nought → set r c nought ≡ r
set_same [] c h = refl
set_same (e ∷ r) zero h = ap (λ (x : Exp). x ∷ r) (sym h)
set_same (e ∷ r) (suc c) h = ap (e ∷◌) (set_same r c h)

module _ {N : Type 0} where
  -- a power for each column, each well formed; past the columns there is nothing but zeros
  abbrev pub Fit : List (Atom N) → Row → Type 0
  Fit [] [] = Unit {0}
  Fit [] (e ∷ r) = (e ≡ nought) × Fit [] r
  Fit (a ∷ cols) [] = ⊥
  Fit (a ∷ cols) (e ∷ r) = Good e × Fit cols r

  pub record Stands (cols : List (Atom N)) (r : Row) (p : Product N) : Type 0 where
    pub fit : Fit cols r
    pub is : p ≡ factors cols r

  -- what stands in a column
  abbrev pub At : List (Atom N) → ℕ → Atom N → Type 0
  At [] c a = ⊥
  At (b ∷ cols) zero a = b ≡ a
  At (b ∷ cols) (suc c) a = At cols c a

  pub at_every : (P : Atom N → Type 0) (cols : List (Atom N)) (c : ℕ) (a : Atom N) → Every P cols → At cols c a → P a
  at_every P [] c a h k = absurd k
  at_every P (b ∷ cols) zero a h k = subst P k h.0
  at_every P (b ∷ cols) (suc c) a h k = at_every P cols c a h.1 k

  pub fit_at : (cols : List (Atom N)) (r : Row) (c : ℕ) → Fit cols r → Good (get_or r c nought)
  fit_at [] [] c h = nought-good
  fit_at [] (e ∷ r) zero h = rw h.0 nought-good
  fit_at [] (e ∷ r) (suc c) h = fit_at [] r c h.1
  fit_at (a ∷ cols) [] c h = absurd h
  fit_at (a ∷ cols) (e ∷ r) zero h = h.0
  fit_at (a ∷ cols) (e ∷ r) (suc c) h = fit_at cols r c h.1

  fit-set : (cols : List (Atom N)) (r : Row) (c : ℕ) → Fit cols r → Fit cols (set r c nought)
  fit-set [] [] c h = tt
  fit-set [] (e ∷ r) zero h = (refl, h.1)
  fit-set [] (e ∷ r) (suc c) h = (h.0, fit-set [] r c h.1)
  fit-set (a ∷ cols) [] c h = absurd h
  fit-set (a ∷ cols) (e ∷ r) zero h = (nought-good, h.1)
  fit-set (a ∷ cols) (e ∷ r) (suc c) h = (h.0, fit-set cols r c h.1)

  put-kept : (a : Atom N) (e : Exp) (p : Product N) → isZero e ≡ false → put a e p ≡ a ↑ e ∷ p
  put-kept a e p z = rw (z, put)

  pub factors-kept : (a : Atom N) (cols : List (Atom N)) (e : Exp) (r : Row) → isZero e ≡ false → factors (a ∷ cols) (e ∷ r) ≡ a ↑ e ∷ factors cols r
  unfolding factors
  factors-kept a cols e r z = put-kept a e (factors cols r) z

  pub factors-few : (cols : List (Atom N)) (r : Row) → length (factors cols r) ≤ length cols
  unfolding factors
  factors-few [] r = omega arith
  factors-few (a ∷ cols) [] = omega arith
  factors-few (a ∷ cols) (e ∷ r) = go (isZero e) refl (factors-few cols r)
    where
      go : (b : Bool) → isZero e ≡ b → length (factors cols r) ≤ length cols → length (put a e (factors cols r)) ≤ suc (length cols)
      go true z i = rw (z, put) (omega arith)
      go false z i = rw (z, put) (omega arith)

  -- ══ Rows of zeros ══

  times-zeros : (cols : List (Atom N)) (w : Row) → Fit cols w → timesRow nought w ≡ got (map (λ (_ : Exp). nought) w)
  unfolding timesRow each
  times-zeros [] [] h = refl
  times-zeros [] (e ∷ w) h = rw (h.0, times-nought nought nought-good) (rw (times-zeros [] w h.1) refl)
  times-zeros (a ∷ cols) [] h = absurd h
  times-zeros (a ∷ cols) (e ∷ w) h = rw (times-nought e h.0) (rw (times-zeros cols w h.1) refl)

  times-ones : (cols : List (Atom N)) (w : Row) → Fit cols w → timesRow one w ≡ got w
  unfolding timesRow each
  times-ones [] [] h = refl
  times-ones [] (e ∷ w) h = rw (h.0, times-one nought nought-good) (rw (times-ones [] w h.1) refl)
  times-ones (a ∷ cols) [] h = absurd h
  times-ones (a ∷ cols) (e ∷ w) h = rw (times-one e h.0) (rw (times-ones cols w h.1) refl)

  plus-zeros : (cols : List (Atom N)) (r w : Row) → Fit cols r → Fit cols w → plusRow r (map (λ (_ : Exp). nought) w) ≡ got r
  unfolding plusRow
  plus-zeros [] [] w h k = refl
  plus-zeros [] (e ∷ r) [] h k = refl
  plus-zeros [] (e ∷ r) (d ∷ w) h k = rw (h.0, sum-nought nought nought-good) (rw (plus-zeros [] r w h.1 k.1) refl)
  plus-zeros (a ∷ cols) [] w h k = absurd h
  plus-zeros (a ∷ cols) (e ∷ r) [] h k = absurd k
  plus-zeros (a ∷ cols) (e ∷ r) (d ∷ w) h k = rw (sum-nought e h.0) (rw (plus-zeros cols r w h.1 k.1) refl)

  -- a row without the variable stays as it is
  pub untouched : (cols : List (Atom N)) (c : ℕ) (w r : Row) → Fit cols w → Fit cols r → isZero (get_or r c nought) ≡ true → putInRow c w r ≡ got r
  unfolding putInRow
  untouched cols c w r h k z =
      let e : get_or r c nought ≡ nought = zero_is (get_or r c nought) (fit_at cols r c k) z in
      rw (e, set_same r c e, times-zeros cols w h) (plus-zeros cols r w k h)

-- ══ Merging ══

module _ {N : Type 0} (ν : Names N) where
  abbrev pub Rising : List (Atom N) → Type 0
  Rising cols = Rises (atomNames ν) cols

  before-factors : (a : Atom N) (cols : List (Atom N)) (r : Row) → Every (λ b. orderAtom ν a b ≡ Ordering.lt) cols → Before ν a (factors cols r)
  unfolding factors
  before-factors a [] r h = tt
  before-factors a (b ∷ cols) [] h = tt
  before-factors a (b ∷ cols) (e ∷ r) h = go (isZero e) refl (before-factors a cols r h.1)
    where
      go : (t : Bool) → isZero e ≡ t → Before ν a (factors cols r) → Before ν a (put b e (factors cols r))
      go true z i = rw (z, put) i
      go false z i = rw (z, put) (h.0, i)

  merge-first : (a : Atom N) (e : Exp) (p q : Product N) → Before ν a q → merge ν bounded (a ↑ e ∷ p) q ≡ (merge ν bounded p q >>= λ r. got (a ↑ e ∷ r))
  unfolding merge mergeOne
  merge-first a e p [] h = rw (merge-nil ν bounded p) refl
  merge-first a e p (b ↑ d ∷ q) h = rw (h.0, mergeOne) refl

module _ {N : Type 0} (ν : Names N) (law : Lawful (orderAtom ν)) where
  merge-second : (a : Atom N) (d : Exp) (p q : Product N) → Before ν a p → merge ν bounded p (a ↑ d ∷ q) ≡ (merge ν bounded p q >>= λ r. got (a ↑ d ∷ r))
  unfolding merge mergeOne
  merge-second a d [] q h = refl
  merge-second a d (b ↑ e ∷ p) q h = let o : orderAtom ν b a ≡ Ordering.gt = law.turn a b ∙ ap turned h.0 in rw (o, mergeOne) refl

  merge-both : (a : Atom N) (e d : Exp) (p q : Product N)
      → merge ν bounded (a ↑ e ∷ p) (a ↑ d ∷ q) ≡ (sum bounded e d >>= λ s. merge ν bounded p q >>= λ r. got (put a s r))
  unfolding merge mergeOne
  merge-both a e d p q = rw (self law a, mergeOne) refl

  -- power x value
  times-row : (cols : List (Atom N)) (r : Row) (k : Exp) → Fit cols r → Good k → Alike (Stands cols) (timesRow k r) (raise ν bounded (factors cols r) k)
  unfolding timesRow each raise factors
  times-row [] [] k h g = both (record { fit = tt; is = refl })
  times-row [] (e ∷ r) k h g = rw (h.0, nought-times k g) (one_more _ (times-row [] r k h.1 g) (λ s q t. both (record { fit = (refl, t.fit); is = t.is })))
  times-row (a ∷ cols) [] k h g = absurd h
  times-row (a ∷ cols) (e ∷ r) k h g =
      let more : Alike (Stands cols) (timesRow k r) (raise ν bounded (factors cols r) k) = times-row cols r k h.1 g in
      by-power (λ e. Alike (Stands (a ∷ cols)) (timesRow k (e ∷ r)) (raise ν bounded (factors (a ∷ cols) (e ∷ r)) k)) e h.0
      (rw (nought-times k g) (one_more _ more (λ s q t. both (record { fit = (nought-good, t.fit); is = t.is }))))
      (λ z. rw (factors-kept a cols e r z)
      (same_step (times bounded e k) _ _ (times-good e k h.0 g)
      (λ s i. onward _ _ more (λ rs q t. both (record { fit = (i, t.fit); is = ap (put a s) t.is })))))

  -- row + row, a column further
  module _ (a : Atom N) (cols : List (Atom N)) (r m : Row) (u : Rising ν (a ∷ cols))
      (more : Alike (Stands cols) (plusRow r m) (merge ν bounded (factors cols r) (factors cols m))) where
    abbrev Sum : Exp → Exp → Type 0
    Sum e d = Alike (Stands (a ∷ cols)) (plusRow (e ∷ r) (d ∷ m)) (merge ν bounded (factors (a ∷ cols) (e ∷ r)) (factors (a ∷ cols) (d ∷ m)))

    none-there : Sum nought nought
    unfolding plusRow factors
    none-there = rw (sum-nought nought nought-good) (one_more _ more (λ s q t. both (record { fit = (nought-good, t.fit); is = t.is })))

    second-there : (d : Exp) → Good d → isZero d ≡ false → Sum nought d
    unfolding plusRow factors
    second-there d g z =
        rw (nought-sum d g, factors-kept a cols d m z, merge-second a d (factors cols r) (factors cols m) (before-factors ν a cols r u.0))
        (onward _ _ more (λ s q t. both (record { fit = (g, t.fit); is = ap (a ↑ d ∷◌) t.is ∙ sym (factors-kept a cols d s z) })))

    first-there : (e : Exp) → Good e → isZero e ≡ false → Sum e nought
    unfolding plusRow factors
    first-there e g z =
        rw (sum-nought e g, factors-kept a cols e r z, merge-first ν a e (factors cols r) (factors cols m) (before-factors ν a cols m u.0))
        (onward _ _ more (λ s q t. both (record { fit = (g, t.fit); is = ap (a ↑ e ∷◌) t.is ∙ sym (factors-kept a cols e s z) })))

    both-there : (e d : Exp) → Good e → Good d → isZero e ≡ false → isZero d ≡ false → Sum e d
    unfolding plusRow factors
    both-there e d g i y z =
        rw (factors-kept a cols e r y, factors-kept a cols d m z, merge-both a e d (factors cols r) (factors cols m))
        (same_step (sum bounded e d) _ _ (sum-good e d g i) (λ s j. onward _ _ more (λ rs q t. both (record { fit = (j, t.fit); is = ap (put a s) t.is }))))

    column-sum : (e d : Exp) → Good e → Good d → Sum e d
    column-sum e d g i =
        by-power (λ e. Sum e d) e g (by-power (λ d. Sum nought d) d i none-there (second-there d i))
        (λ y. by-power (λ d. Sum e d) d i (first-there e g y) (λ z. both-there e d g i y z))

  plus-row : (cols : List (Atom N)) (r m : Row) → Rising ν cols → Fit cols r → Fit cols m
      → Alike (Stands cols) (plusRow r m) (merge ν bounded (factors cols r) (factors cols m))
  unfolding plusRow factors merge
  plus-row [] [] [] u h k = both (record { fit = tt; is = refl })
  plus-row [] [] (d ∷ m) u h k = both (record { fit = tt; is = refl })
  plus-row [] (e ∷ r) [] u h k = both (record { fit = h; is = refl })
  plus-row [] (e ∷ r) (d ∷ m) u h k = rw (h.0, k.0, sum-nought nought nought-good)
      (one_more _ (plus-row [] r m u h.1 k.1) (λ s q t. both (record { fit = (refl, t.fit); is = t.is })))
  plus-row (a ∷ cols) [] m u h k = absurd h
  plus-row (a ∷ cols) (e ∷ r) [] u h k = absurd k
  plus-row (a ∷ cols) (e ∷ r) (d ∷ m) u h k = column-sum a cols r m u (plus-row cols r m u.1 h.1 k.1) e d h.0 k.0

  -- ══ Replacing ══

  -- multiplying never passes 64 factors over at most 64 columns
  within-few : (cols : List (Atom N)) (r : Row) (p : Product N) → length cols ≤ 64 → p ≡ factors cols r → within bounded (length p) 64 p ≡ got p
  within-few cols r p few e = let l : length p ≤ 64 = rw e (omega (arith, factors-few cols r)) in rw (le-leb (length p) 64 l)

  multiply-row : (cols : List (Atom N)) (r m : Row) → length cols ≤ 64 → Rising ν cols → Fit cols r → Fit cols m
      → Alike (Stands cols) (plusRow r m) (multiply ν bounded (factors cols r) (factors cols m))
  unfolding multiply
  multiply-row cols r m few u h k = other-more _ (plus-row cols r m u h k) (λ s p t. rw (within-few cols s p few t.is) (both t))

  -- dividing by the variable to its power clears its column
  cleared : (cols : List (Atom N)) (r : Row) (c : ℕ) (a : Atom N) → Rising ν cols → Fit cols r → At cols c a → isZero (get_or r c nought) ≡ false
      → merge ν bounded (factors cols r) (a ↑ neg (get_or r c nought) ∷ []) ≡ got (factors cols (set r c nought))
  unfolding factors
  cleared [] r c a u h k z = absurd k
  cleared (b ∷ cols) [] c a u h k z = absurd h
  cleared (b ∷ cols) (e ∷ r) zero a u h k z =
      rw (factors-kept b cols e r z, k, merge-both a e (neg e) (factors cols r) [], sum-neg e h.0, merge-nil ν bounded (factors cols r)) refl
  cleared (b ∷ cols) (e ∷ r) (suc c) a u h k z =
      let o : orderAtom ν b a ≡ Ordering.lt = at_every (λ x. orderAtom ν b x ≡ Ordering.lt) cols c a u.0 k in
      let more = cleared cols r c a u.1 h.1 k z in
      by-power (λ e. merge ν bounded (factors (b ∷ cols) (e ∷ r)) (a ↑ neg (get_or r c nought) ∷ []) ≡ got (factors (b ∷ cols) (e ∷ set r c nought))) e h.0 more
      (λ y. rw (factors-kept b cols e r y, merge-first ν b e (factors cols r) (a ↑ neg (get_or r c nought) ∷ []) (o, tt), more)
      (ap got (sym (factors-kept b cols e (set r c nought) y))))

  divided : (cols : List (Atom N)) (r : Row) (c : ℕ) (a : Atom N) → length cols ≤ 64 → Rising ν cols → Fit cols r → At cols c a
      → isZero (get_or r c nought) ≡ false
      → divide ν bounded (factors cols r) (a ↑ get_or r c nought ∷ []) ≡ got (factors cols (set r c nought))
  unfolding divide multiply inverse
  divided cols r c a few u h k z = rw (cleared cols r c a u h k z) (within-few cols (set r c nought) _ few refl)

  -- ══ A variable, put in as the product of a row ══

  -- a variable x, put in as the product of a row
  module _ (x : N) (q : Product N) where
    abbrev look : Look N
    look = bindings ν (x ≔ dim q ∷ [])

    -- 'divide by variable^p, multiply by the bound dimension^p'
    exchanged : Exp → Product N → Got (Product N)
    exchanged e acc = divide ν bounded acc (free (var x) ↑ e ∷ []) >>= λ left. raise ν bounded q e >>= λ more. multiply ν bounded left more

    look-x : look (var x) ≡ some (dim q)
    look-x = go (one-bound ν x (dim q) (var x))
      where
        go : ((var x ≡ var x) × (look (var x) ≡ some (dim q))) ⊎ ((var x ≡ var x → ⊥) × (look (var x) ≡ none)) → look (var x) ≡ some (dim q)
        go (inl i) = i.1
        go (inr i) = absurd (i.0 refl)

    look-other : (o : Open N) → (o ≡ var x → ⊥) → look o ≡ none
    look-other o f = go (one-bound ν x (dim q) o)
      where
        go : ((o ≡ var x) × (look o ≡ some (dim q))) ⊎ ((o ≡ var x → ⊥) × (look o ≡ none)) → look o ≡ none
        go (inl i) = absurd (f i.0)
        go (inr i) = i.1

    passed-by : (a : Atom N) (e : Exp) (fs acc : Product N) → (a ≡ free (var x) → ⊥)
        → replaceFactors ν bounded look (a ↑ e ∷ fs) acc ≡ replaceFactors ν bounded look fs acc
    unfolding replaceFactors
    passed-by (base n) e fs acc f = refl
    passed-by (free o) e fs acc f = rw (look-other o (λ i. f (ap free i)), replaceFactors) refl

    skipped : (fs acc : Product N) → Before ν (free (var x)) fs → replaceFactors ν bounded look fs acc ≡ got acc
    unfolding replaceFactors
    skipped [] acc h = refl
    skipped (a ↑ e ∷ fs) acc h = passed-by a e fs acc (λ i. before_differs law (free (var x)) a h.0 (sym i)) ∙ skipped fs acc h.1

    passing : (o : Open N) → (o ≡ var x → ⊥) → replaceProduct ν bounded look (just o) ≡ got (just o)
    unfolding replaceProduct replaceFactors
    passing o f = passed-by (free o) one [] (just o) (λ i. f (cc))

    met : (e : Exp) (fs acc : Product N) → Before ν (free (var x)) fs → replaceFactors ν bounded look (free (var x) ↑ e ∷ fs) acc ≡ exchanged e acc
    unfolding replaceFactors exchanged asProduct
    met e fs acc h =
        rw (look-x, replaceFactors)
        (same_after (divide ν bounded acc (free (var x) ↑ e ∷ [])) _ _
        (λ left. same_after (raise ν bounded q e) _ _ (λ more. last (multiply ν bounded left more))))
      where
        last : (m : Got (Product N)) → (m >>= λ acc'. replaceFactors ν bounded look fs acc') ≡ m
        last (got p) = skipped fs p h
        last (refused n) = refl

    walked : (cols : List (Atom N)) (r : Row) (c : ℕ) (acc : Product N) → Rising ν cols → Fit cols r → At cols c (free (var x))
        → (isZero (get_or r c nought) ≡ true → replaceFactors ν bounded look (factors cols r) acc ≡ got acc)
        × (isZero (get_or r c nought) ≡ false → replaceFactors ν bounded look (factors cols r) acc ≡ exchanged (get_or r c nought) acc)
    unfolding factors
    walked [] r c acc u h k = absurd k
    walked (b ∷ cols) [] c acc u h k = absurd h
    walked (b ∷ cols) (e ∷ r) zero acc u h k =
        let before : Before ν (free (var x)) (factors cols r) =
        before-factors ν (free (var x)) cols r (subst (λ (a : Atom N). Every (λ y. orderAtom ν a y ≡ Ordering.lt) cols) k u.0) in
        (λ z. rw (zero_is e h.0 z) (skipped (factors cols r) acc before), λ z. rw (factors-kept b cols e r z, k) (met e (factors cols r) acc before))
    walked (b ∷ cols) (e ∷ r) (suc c) acc u h k =
        let o : orderAtom ν b (free (var x)) ≡ Ordering.lt = at_every (λ y. orderAtom ν b y ≡ Ordering.lt) cols c (free (var x)) u.0 k in
        let same : replaceFactors ν bounded look (factors (b ∷ cols) (e ∷ r)) acc ≡ replaceFactors ν bounded look (factors cols r) acc
        = by-power (λ e. replaceFactors ν bounded look (factors (b ∷ cols) (e ∷ r)) acc ≡ replaceFactors ν bounded look (factors cols r) acc) e h.0 refl
        (λ y. rw (factors-kept b cols e r y) (passed-by b e (factors cols r) acc (before_differs law b (free (var x)) o))) in
        let more = walked cols r c acc u.1 h.1 k in
        (λ z. same ∙ more.0 z, λ z. same ∙ more.1 z)

  -- ══ The same on the row ══

  -- a variable put into a row, and into the product that the row stands for
  module _ (cols : List (Atom N)) (few : length cols ≤ 64) (rise : Rising ν cols) (c : ℕ) (x : N) (at : At cols c (free (var x))) (w : Row)
      (fw : Fit cols w) where
    abbrev Q : Product N
    Q = factors cols w

    pub product-row : (r : Row) → Fit cols r → Alike (Stands cols) (putInRow c w r) (replaceProduct ν bounded (look x Q) (factors cols r))
    unfolding putInRow replaceProduct exchanged
    product-row r h = go (isZero (get_or r c nought)) refl
      where
        k : Exp
        k = get_or r c nought

        go : (b : Bool) → isZero (get_or r c nought) ≡ b → Alike (Stands cols) (putInRow c w r) (replaceProduct ν bounded (look x Q) (factors cols r))
        go true z = rw (untouched cols c w r fw h z, (walked x Q cols r c (factors cols r) rise h at).0 z) (both (record { fit = h; is = refl }))
        go false z =
            rw ((walked x Q cols r c (factors cols r) rise h at).1 z, divided cols r c (free (var x)) few rise h at z)
            (onward _ _ (times-row cols w (get_or r c nought) fw (fit_at cols r c h))
            (λ m p t. rw t.is (multiply-row cols (set r c nought) m few rise (fit-set cols r c h) t.fit)))

    -- raised to the power 1
    raise-one : raise ν bounded Q one ≡ got Q
    raise-one = let o = other-there w (times-row cols w one fw one-good) (times-ones cols w fw) in o.1 ∙ ap got o.2.is

    -- x to the power 1, replaced as a product, is the product that x is bound to
    single-product : replaceProduct ν bounded (look x Q) (just (var x)) ≡ got Q
    unfolding replaceProduct exchanged divide multiply inverse merge
    single-product =
        met x Q one [] (just (var x)) tt
        ∙ rw (merge-both (free (var x)) one (neg one) [] [], sum-neg one one-good, raise-one) (within-few cols w Q few refl)

    -- so a dimension is replaced as its product is, even one variable to the power 1
    pub as-product : (r : Row) → Fit cols r
        → replaceTy ν bounded (look x Q) (dim (factors cols r)) ≡ (replaceProduct ν bounded (look x Q) (factors cols r) >>= λ p. got (dim p))
    unfolding replaceTy replaceDim
    as-product r h = go (single (factors cols r)) refl
      where
        alone : (o : Open N) → factors cols r ≡ just o → ((o ≡ var x) × (look x Q o ≡ some (dim Q))) ⊎ ((o ≡ var x → ⊥) × (look x Q o ≡ none))
            → got (Option.get_or (look x Q o) (dim (factors cols r))) ≡ (replaceProduct ν bounded (look x Q) (factors cols r) >>= λ p. got (dim p))
        alone o e (inl i) = rw (i.1, e, i.0, single-product) refl
        alone o e (inr i) = rw (i.1, e, passing x Q o i.0) refl

        go : (s : Option (Open N)) → single (factors cols r) ≡ s
            → replaceDim ν bounded (look x Q) s (factors cols r) ≡ (replaceProduct ν bounded (look x Q) (factors cols r) >>= λ p. got (dim p))
        go none e = refl
        go (some o) e = alone o (single-is (factors cols r) o e) (one-bound ν x (dim Q) o)

    pub dimension-row : (r : Row) → Fit cols r
        → Alike (λ s t. Fit cols s × (t ≡ dim (factors cols s))) (putInRow c w r) (replaceTy ν bounded (look x Q) (dim (factors cols r)))
    dimension-row r h = other-is (sym (as-product r h)) (other-more _ (product-row r h) (λ s p t. both (t.fit, ap dim t.is)))

  -- ══ What becomes of a row ══

  -- the other side of a row
  other_row : (cols : List (Atom N)) (r : Row) (k : Exp) → Fit cols r → Good k → isZero k ≡ false
      → Alike (Stands cols) (each (λ j. quotient bounded (neg j) k) r) (each (otherSide bounded k) (factors cols r))
  unfolding each otherSide factors
  other_row [] [] k h g z = both (record { fit = tt; is = refl })
  other_row [] (e ∷ r) k h g z = rw (h.0, nought-quotient k g z)
      (one_more _ (other_row [] r k h.1 g z) (λ s q t. both (record { fit = (refl, t.fit); is = t.is })))
  other_row (a ∷ cols) [] k h g z = absurd h
  other_row (a ∷ cols) (e ∷ r) k h g z =
      let more : Alike (Stands cols) (each (λ j. quotient bounded (neg j) k) r) (each (otherSide bounded k) (factors cols r)) = other_row cols r k h.1 g z in
      by-power (λ e. Alike (Stands (a ∷ cols)) (each (λ j. quotient bounded (neg j) k) (e ∷ r)) (each (otherSide bounded k) (factors (a ∷ cols) (e ∷ r)))) e h.0
      (rw (nought-quotient k g z) (one_more _ more (λ s q t. both (record { fit = (nought-good, t.fit); is = t.is }))))
      (λ y. rw (factors-kept a cols e r y, bracket (quotient bounded (neg e) k) (λ s. got (a ↑ s)) _)
      (same_step (quotient bounded (neg e) k) _ _ (together (quotient-good (neg e) k (neg-good e h.0) g) (its_own (quotient bounded (neg e) k)))
      (λ s i. onward _ _ more (λ rs q t. both
      (record {
        fit = (i.0, t.fit);
        is = ap (a ↑ s ∷◌) t.is
            ∙ sym (factors-kept a cols s rs (quotient-not-zero e k s (good-lowest e h.0) (good-lowest k g) y i.1));
      })))))

  -- a row's fate is what the solver does with its product
  pub data Does (cols : List (Atom N)) (r : Row) : Fate N → Type 0 where
    is-gone : factors cols r ≡ [] → Does cols r gone
    is_stuck : trySatisfy ν bounded (is_scalar (factors cols r)) ≡ got stuck
        → ((c : ℕ) (x : N) → At cols c (free (var x)) → isZero (get_or r c nought) ≡ true) → Does cols r stays
    is_bound : {c : ℕ} {x : N} → At cols c (free (var x)) → isZero (get_or r c nought) ≡ false
        → Alike (λ w s. Fit cols w × (s ≡ bind x (dim (factors cols w)))) (solvedFor c r) (trySatisfy ν bounded (is_scalar (factors cols r)))
        → Does cols r (binds c x)

  further : (a : Atom N) (cols : List (Atom N)) (r : Row) → Fit cols r → (f : Fate N) → Does cols r f → Does (a ∷ cols) (nought ∷ r) (oneFurther f)
  unfolding oneFurther factors solvedFor each
  further a cols r h gone (is-gone e) = is-gone e
  further a cols r h stays (is_stuck e z) = is_stuck e zero-at
    where
      zero-at : (c : ℕ) (x : N) → At (a ∷ cols) c (free (var x)) → isZero (get_or (nought ∷ r) c nought) ≡ true
      zero-at zero x k = refl
      zero-at (suc c) x k = z c x k
  further a cols r h (binds c x) (is_bound k z i) =
      is_bound {c = suc c} {x = x} k z (rw (nought-quotient (get_or r c nought) (fit_at cols r c h) z) (one_more _ i (λ w s t. both ((nought-good, t.0), t.1))))

  -- behind an atom that is no variable, there is none
  no-variable : (a : Atom N) (cols : List (Atom N)) (e : Exp) (r : Row) → Every (λ b. orderAtom ν a b ≡ Ordering.lt) cols
      → ((x : N) → a ≡ free (var x) → ⊥) → ((x : N) → orderAtom ν a (free (var x)) ≡ Ordering.lt → ⊥)
      → (c : ℕ) (x : N) → At (a ∷ cols) c (free (var x)) → isZero (get_or (e ∷ r) c nought) ≡ true
  no-variable a cols e r u f g zero x k = absurd (f x k)
  no-variable a cols e r u f g (suc c) x k = absurd (g x (at_every (λ b. orderAtom ν a b ≡ Ordering.lt) cols c (free (var x)) u k))

  here : (a : Atom N) (cols : List (Atom N)) (e : Exp) (r : Row) → Rising ν (a ∷ cols) → Fit (a ∷ cols) (e ∷ r) → isZero e ≡ false
      → Does (a ∷ cols) (e ∷ r) (atColumn a)
  unfolding atColumn trySatisfy solvedFor each orderAtom orderOpen factors
  here (free (var x)) cols e r u h z =
      is_bound {c = 0} {x = x} refl z (rw (factors-kept (free (var x)) cols e r z, nought-quotient e h.0 z)
      (onward _ _ (other_row cols r e h.1 h.0 z) (λ w q t. both ((nought-good, t.fit), ap (λ (p : Product N). bind x (dim p)) t.is))))
  here (free (quant i)) cols e r u h z = is_stuck (rw (factors-kept (free (quant i)) cols e r z))
      (no-variable (free (quant i)) cols e r u.0 (λ x k. cc)
      (λ x k. cc))
  here (free (par y)) cols e r u h z = is_stuck (rw (factors-kept (free (par y)) cols e r z))
      (no-variable (free (par y)) cols e r u.0 (λ x k. cc)
      (λ x k. cc))
  here (base n) cols e r u h z = is_stuck (rw (factors-kept (base n) cols e r z))
      (no-variable (base n) cols e r u.0 (λ x k. cc) (λ x k. cc))

  pub does : (cols : List (Atom N)) (r : Row) → Rising ν cols → Fit cols r → Does cols r (fate cols r)
  unfolding fate factors
  does [] [] u h = is-gone refl
  does [] (e ∷ r) u h = is-gone refl
  does (a ∷ cols) [] u h = absurd h
  does (a ∷ cols) (e ∷ r) u h = go (isZero e) refl (does cols r u.1 h.1)
    where
      go : (b : Bool) → isZero e ≡ b → Does cols r (fate cols r) → Does (a ∷ cols) (e ∷ r) (fate (a ∷ cols) (e ∷ r))
      go true z d = rw (zero_is e h.0 z) (further a cols r h.1 (fate cols r) d)
      go false z d = rw (z, fate) (here a cols e r u h z)
