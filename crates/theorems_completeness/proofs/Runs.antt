-- How a run on a wide set ends: refused with 7 or 8, out of rounds, with a constraint that no choice makes true, or with bindings and bounds alone.
use Rattle.std.proofs.Math.Path.{◌≡◌, refl, ap}
use Rattle.std.proofs.Common.{◌∙◌, sym, inl, inr}
use Rattle.std.specs.Prelude.{Bool, true, false, not, ◌⊎◌}
use Rattle.std.proofs.Math.Option.{Option, none, some}
use mathlib.Core.List.Memᴰ
use mathlib.Core.List.{List, [], ◌∷◌, Memᴰ}
use Prim.Native.Nat.{ℕ, zero, suc, ◌<◌}
use native.Mathlib.Omega.{arith}
use Rattle.rules.specs.Base.{Got, got, refused, bounded, only_if, ◌or_else◌, is_yes, is_none, keep}
use Rattle.rules.specs.Exponents.{Exp}
use Rattle.rules.specs.Trees.{var, Atom, Product, Names, Ty, opened, dim, Con, equal, isDim, is_scalar, hasField, ty-dec, orderAtom, opens}
use Rattle.rules.specs.Contents.{contains}
use Rattle.rules.specs.Rounds.{
  Step,
  bind,
  split,
  done,
  stuck,
  State,
  bindTo,
  firstRules,
  orTry,
  dimensions,
  by_kind,
  dimensionParts,
  variableLeft,
  asProducts,
  trySatisfy,
  round,
}
use Rattle.rules.specs.Solving.{Answer, accepted, remaining, stopped, boundOf, finished, finish, after, run, solve}
use Rattle.rules.specs.Choices.{Fixed, Choice, Rational}
use Rattle.laws.specs.Order.{Lawful, Tells}
use Rattle.laws.proofs.ByteOrder.{atom-lawful}
use Rattle.std.proofs.lemmas.Bool.{not-false}
use Rattle.laws.specs.Lists.{All, all_nil, all_cons, in_head}
use Rattle.laws.proofs.Lists.{true≢false, some≢none, keep-none, is-yes}
use Rattle.laws.specs.Fractions.{Lowest}
use Rattle.laws.specs.Exact.{OfLimits}
use Rattle.laws.specs.GoodProducts.{goodAtom}
use Rattle.laws.proofs.GoodProducts.{atom-tells}
use Rattle.laws.proofs.RuleCases.{contained, or-none}
use Rattle.laws.proofs.Turns.{turn}
use Rattle.theorems_completeness.specs.Claims.{◌⇔◌}
use Rattle.theorems_completeness.proofs.Chosen.{measured, measured-lowest, fixed_of, first-worth}
use Rattle.theorems_completeness.proofs.Sides.{Sided, a-product, a-variable, Wide, scalar-of, equality-of, dimension-of, RightWide}
use Rattle.theorems_completeness.proofs.Rounds.{Fit, AllWide, turn-fit, turn-wide, round-limits}
use Rattle.theorems_completeness.proofs.Weights.{measure, measure-small, Falls, round-falls}
use Rattle.std.proofs.Math.Option.{some}
use borrow.Author.Tests.{ltb-true}
use Rattle.rules.specs.Base.{◌or_else◌, and_then, each}
use Rattle.rules.specs.Exponents.{nought, isZero}
use Rattle.rules.specs.Trees.{quant, par, free, base, ◌↑◌}
use Rattle.rules.specs.Views.{asVar, asPower}
use Rattle.rules.specs.Products.{divide}
use Rattle.rules.specs.Rounds.{otherSide, taken, firstStep, performed, perform}
use Rattle.rules.specs.WellFormed.{goodOpen}
use Rattle.laws.proofs.Lists.{one-step, bound-step}
use Rattle.laws.proofs.GoodProducts.{good-product, good-proper}
use Rattle.laws.proofs.RuleCases.{only-if, and-then}
use Rattle.theorems_completeness.proofs.Worth.{worth}
use Rattle.theorems_completeness.proofs.Products.{Good}

-- ══ Where no rule applies ══

module _ {N : Type 0} (ν : Names N) where
  taken_none : (s : Step N) (c : Con N) (cs : List (Con N)) → taken s c cs (λ _. firstStep ν bounded cs) ≡ got none
      → (s ≡ stuck) × (firstStep ν bounded cs ≡ got none)
  unfolding taken
  taken_none (bind x t) c cs e = absurd (cc)
  taken_none (split new) c cs e = absurd (cc)
  taken_none done c cs e = absurd (cc)
  taken_none stuck c cs e = let o = one-step (firstStep ν bounded cs) (λ r. and_then r (λ v. some (v.0, c ∷ v.1))) none e
      in (refl, o.gave ∙ ap got (go o.value o.is))
    where
      go : (r : Option (Step N × List (Con N))) → and_then {B = Step N × List (Con N)} r (λ v. some (v.0, c ∷ v.1)) ≡ none → r ≡ none
      go none i = refl
      go (some v) i = absurd (some≢none i)

  pub none_moves : (cs : List (Con N)) → firstStep ν bounded cs ≡ got none → All (λ c. trySatisfy ν bounded c ≡ got stuck) cs
  unfolding firstStep
  none_moves [] e = all_nil (λ c. trySatisfy ν bounded c ≡ got stuck)
  none_moves (c ∷ cs) e =
      let b = bound-step (trySatisfy ν bounded c) _ none e in
      let t = taken_none b.0 c cs b.2 in
      all_cons (λ c. trySatisfy ν bounded c ≡ got stuck) (b.1 ∙ ap got t.0) (none_moves cs t.1)

  pub round-none : (s : State N) → round ν bounded s ≡ got none → firstStep ν bounded s.cons ≡ got none
  unfolding round performed
  round-none s e = let b = bound-step (firstStep ν bounded s.cons) _ none e in b.1 ∙ ap got (go b.0 b.2)
    where
      go : (r : Option (Step N × List (Con N))) → performed ν bounded s.binds r ≡ got none → r ≡ none
      go none i = refl
      go (some v) i = let o = one-step (perform ν bounded s.binds v.0 v.1) some none i in absurd (some≢none o.is)

  -- the first three rules never leave a constraint where it is
  unfoldable pub Moving : Option (Step N) → Type 0
  Moving o = o ≡ some stuck → ⊥

  or-moving : (a b : Option (Step N)) → Moving a → Moving b → Moving (a or_else b)
  unfolding Moving
  or-moving none b f g = g
  or-moving (some a) b f g = f

  binding-moves : (x : Option N) (t : Ty N) → Moving (bindTo ν x t)
  unfolding Moving bindTo
  binding-moves x t e =
      let a = and-then x _ stuck e in
      let o = only-if (not (contains ν a.0 t)) (bind a.0 t) stuck a.2 in
      let i : bind a.0 t ≡ stuck = o.1 in
      cc

  pub first-moves : (s t : Ty N) → Moving (firstRules ν s t)
  unfolding firstRules Moving
  first-moves s t =
      or-moving (only_if (is_yes (ty-dec ν s t)) done) _
      (λ e. let o = only-if (is_yes (ty-dec ν s t)) done stuck e in let i : done ≡ stuck = o.1 in cc)
      (or-moving (bindTo ν (asVar s) t) _ (binding-moves (asVar s) t)
      (or-moving (bindTo ν (asVar t) s) _ (binding-moves (asVar t) s)
      (or-moving (bindTo ν (asPower s) t) (bindTo ν (asPower t) s) (binding-moves (asPower s) t) (binding-moves (asPower t) s))))

  -- an equality of two dimensions is never stuck
  pub equality-moves : (p q : Product N) → trySatisfy ν bounded (equal (dim p) (dim q)) ≡ got stuck → ⊥
  unfolding trySatisfy by_kind dimensions Moving
  equality-moves p q e = go (firstRules ν (dim p) (dim q)) (first-moves (dim p) (dim q)) e
    where
      go : (o : Option (Step N)) → Moving o → orTry o (by_kind ν bounded (dim p) (dim q)) ≡ got stuck → ⊥
      go (some s) f i = f (cc)
      go none f i =
          let o = one-step (divide ν bounded p q) (λ r. split (is_scalar r ∷ [])) stuck i in
          let j : split (is_scalar o.value ∷ []) ≡ stuck = o.is in
          cc

-- what is left over: a product whose first factor is a parameter or a base dimension
module _ {N : Type 0} (ν : Names N) (held : N → Bool) (ord : Lawful ν.order) where
  abbrev atoms : Lawful (orderAtom ν)
  atoms = atom-lawful ν ord

  -- a choice that makes c true, for each parameter and base dimension
  abbrev pub AllPowers : Choice N → Con N → Type 0
  AllPowers c k = (u : Fixed N) → RightWide (measured ν.same c u) k

  fixed-first : (c : Choice N) (a : Atom N) (u : Fixed N) (k : Exp) (p : Product N) → fixed_of a ≡ some u → Good ν held (a ↑ k ∷ p)
      → worth (measured ν.same c u) (a ↑ k ∷ p) ≡ nought → ⊥
  fixed-first c a u k p i h e =
      let w = good-proper ν atoms held 0 (a ↑ k ∷ p) h in
      let z : k ≡ nought = sym (first-worth ν ord c (λ b. goodAtom ν held 0 b ≡ true) a u k p i w.in_order.0 w.each) ∙ e in
      true≢false (sym (ap isZero z) ∙ w.each.0.2)

  pub scalar-stuck : (c : Choice N) (p : Product N) → Good ν held p → trySatisfy ν bounded (is_scalar p) ≡ got stuck → AllPowers c (is_scalar p) → ⊥
  unfolding trySatisfy goodOpen
  scalar-stuck c [] h e f = cc
  scalar-stuck c (free (var x) ↑ k ∷ p) h e f =
      let o = one-step (each (otherSide bounded k) p) (λ q. bind x (dim q)) stuck e in
      let j : bind x (dim o.value) ≡ stuck = o.is in
      cc
  scalar-stuck c (free (quant i) ↑ k ∷ p) h e f = omega (arith, ltb-true i 0 (good-product ν atoms held 0 (free (quant i) ↑ k ∷ p) h).each.0.0)
  scalar-stuck c (free (par x) ↑ k ∷ p) h e f = fixed-first c (free (par x)) _ k p refl h (f _)
  scalar-stuck c (base n ↑ k ∷ p) h e f = fixed-first c (base n) _ k p refl h (f _)

-- ══ Which constraints a rule applies to ══

only-none : {A : Type 0} (b : Bool) (a : A) → only_if b a ≡ none → b ≡ false
only-none true a e = absurd (some≢none e)
only-none false a e = refl

module _ {N : Type 0} (ν : Names N) where
  -- of two variables one is bound, or they are the same
  variables-move : (x y : N) → firstRules ν (opened (var x)) (opened (var y)) ≡ none → ⊥
  unfolding firstRules bindTo opens
  variables-move x y e =
      let a = or-none (only_if (is_yes (ty-dec ν (opened (var x)) (opened (var y)))) done) _ e in
      let b = or-none (bindTo ν (some x) (opened (var y))) _ a.1 in
      let n = only-none (is_yes (ty-dec ν (opened (var x)) (opened (var y)))) done a.0 in
      let c = not-false (contains ν x (opened (var y))) (only-none (not (contains ν x (opened (var y)))) (bind x (opened (var y))) b.0) in
      let q : var x ≡ var y = Memᴰ.eq_of_singleton (contained ν x (opened (var y)) c) in
      true≢false (sym (is-yes (ty-dec ν (opened (var x)) (opened (var y))) (ap opened q)) ∙ n)

  -- what the rules behind the first three do with a variable
  left-moves : (x : N) (q : Product N) → by_kind ν bounded (opened (var x)) (dim q) ≡ got stuck → ⊥
  unfolding by_kind variableLeft asProducts
  left-moves x q e = cc

  right-moves : (p : Product N) (y : N) → by_kind ν bounded (dim p) (opened (var y)) ≡ got stuck → ⊥
  unfolding by_kind dimensions asProducts
  right-moves p y e = cc

  orTry-moves : (s t : Ty N) → (firstRules ν s t ≡ none → by_kind ν bounded s t ≡ got stuck → ⊥) → trySatisfy ν bounded (equal s t) ≡ got stuck → ⊥
  unfolding trySatisfy Moving
  orTry-moves s t more e = go (firstRules ν s t) refl (first-moves ν s t) e
    where
      go : (o : Option (Step N)) → firstRules ν s t ≡ o → Moving ν o → orTry o (by_kind ν bounded s t) ≡ got stuck → ⊥
      go (some r) i f j = f (cc)
      go none i f j = more i j

  module _ (held : N → Bool) (w : Bool) where
    -- an equality of sides is never stuck
    sides-move : (s t : Ty N) → Sided ν held w s → Sided ν held w t → trySatisfy ν bounded (equal s t) ≡ got stuck → ⊥
    sides-move s t (a-product p h i) (a-product q k j) e = equality-moves ν p q (rw (i, j) at e)
    sides-move s t (a-product p h i) (a-variable y v k j) e = orTry-moves (dim p) (opened (var y)) (λ n. right-moves p y) (rw (i, j) at e)
    sides-move s t (a-variable x v h i) (a-product q k j) e = orTry-moves (opened (var x)) (dim q) (λ n. left-moves x q) (rw (i, j) at e)
    sides-move s t (a-variable x v h i) (a-variable y u k j) e = orTry-moves (opened (var x)) (opened (var y)) (λ n m. variables-move x y n) (rw (i, j) at e)

    -- is-dimension of a dimension is never stuck, that of a variable becomes a bound
    dimension-moves : (t : Ty N) → Sided ν held w t → trySatisfy ν bounded (isDim t) ≡ got stuck → is_none (boundOf (isDim t)) ≡ true → ⊥
    unfolding trySatisfy dimensionParts boundOf
    dimension-moves t (a-product p h i) e n = let j = rw i at e in cc
    dimension-moves t (a-variable y v h i) e n = true≢false (sym (rw i at n))

-- ══ What is kept ══

pub kept-in : {A : Type 0} (p : A → Bool) (xs : List A) (a : A) → Memᴰ a (keep p xs) → Memᴰ a xs × (p a ≡ true)
unfolding keep
kept-in p [] a m = absurd (Memᴰ.not-nil m)
kept-in p (x ∷ xs) a m = go (p x) refl (kept-in p xs a)
  where
    go : (b : Bool) → p x ≡ b → (Memᴰ a (keep p xs) → Memᴰ a xs × (p a ≡ true)) → Memᴰ a (x ∷ xs) × (p a ≡ true)
    go true i r = more (Memᴰ.cases_cons (rw (i, keep) at m))
      where
        more : (a ≡ x) ⊎ Memᴰ a (keep p xs) → Memᴰ a (x ∷ xs) × (p a ≡ true)
        more (inl e) = (Memᴰ.head e, ap p e ∙ i)
        more (inr n) = let s = r n in (Memᴰ.tail s.0, s.1)
    go false i r = let s = r (rw (i, keep) at m) in (Memᴰ.tail s.0, s.1)

-- a bound is always true
bound-true : {N : Type 0} (g : Atom N → Exp) (c : Con N) → is_none (boundOf c) ≡ false → RightWide g c
unfolding boundOf
bound-true g (equal s t) e = absurd (true≢false e)
bound-true g (isDim t) e = tt
bound-true g (is_scalar p) e = absurd (true≢false e)
bound-true g (hasField n s t) e = absurd (true≢false e)

-- ══ The end of a run ══

module _ {N : Type 0} (ν : Names N) (held : N → Bool) (w : Bool) (ord : Lawful ν.order) (apart : Tells (λ n. held n ≡ true) ν.order) where
  abbrev law : Lawful (orderAtom ν)
  law = atom-lawful ν ord

  abbrev tells : Tells (λ a. goodAtom ν held 0 a ≡ true) (orderAtom ν)
  tells = atom-tells ν held 0 apart

  stuck-false : (c : Choice N) (k : Con N) → Wide ν held w k → trySatisfy ν bounded k ≡ got stuck → is_none (boundOf k) ≡ true
      → ((u : Fixed N) → RightWide (measured ν.same c u) k) → ⊥
  stuck-false c k (scalar-of p h i) e n f = scalar-stuck ν held ord c p h (rw i at e) (λ u. rw i at (f u))
  stuck-false c k (equality-of s t h m i) e n f = sides-move ν held w s t h m (rw i at e)
  stuck-false c k (dimension-of t v h i) e n f = dimension-moves ν held w t h (rw i at e) (rw i at n)

  -- what a run from s answered
  pub data Outcome (s : State N) (a : Answer N) : Type 0 where
    limits : (n k : ℕ) → OfLimits n → a ≡ stopped n k → Outcome s a
    refuted : (cs : List (Con N)) (k : ℕ) → a ≡ remaining cs k
        → ((c : Choice N) → Rational c → ((u : Fixed N) → AllWide (measured ν.same c u) s) → ⊥) → Outcome s a
    settled : (e : State N) (ns : List N) (k : ℕ) → a ≡ accepted e.binds ns k → Fit ν held w e
        → ((g : Atom N → Exp) → All (RightWide g) e.cons)
        → ((g : Atom N → Exp) → ((b : Atom N) → Lowest (g b)) → AllWide g s ⇔ AllWide g e) → Outcome s a

  finish-outcome : (k : ℕ) (s : State N) → Fit ν held w s → round ν bounded s ≡ got none → Outcome s (finish ν k s)
  unfolding finish finished
  finish-outcome k s h e = go (keep (λ c. is_none (boundOf c)) s.cons) refl
    where
      stays : All (λ c. trySatisfy ν bounded c ≡ got stuck) s.cons
      stays = none_moves ν s.cons (round-none ν s e)

      go : (l : List (Con N)) → keep (λ c. is_none (boundOf c)) s.cons ≡ l → Outcome s (finished ν l k s)
      go [] i = settled s _ k refl h (λ g c m. bound-true g c (keep-none (λ c. is_none (boundOf c)) s.cons i c m)) (λ g low. (λ r. r, λ r. r))
      go (c ∷ cs) i =
          refuted (c ∷ cs) k refl (λ d r f.
          let m : Memᴰ c (keep (λ c. is_none (boundOf c)) s.cons) = rw i in_head in
          let n = kept-in (λ c. is_none (boundOf c)) s.cons c m in
          stuck-false d c (h.cons-wide c n.0) (stays c n.0) n.1 (λ u. (f u).cons_right c n.0))

  -- a round back
  before : (s s' : State N) (a : Answer N) → ((g : Atom N → Exp) → ((b : Atom N) → Lowest (g b)) → AllWide g s ⇔ AllWide g s') → Outcome s' a → Outcome s a
  before s s' a iff (limits n k h e) = limits n k h e
  before s s' a iff (refuted cs k e f) = refuted cs k e (λ c r g. f c r (λ u. (iff (measured ν.same c u) (measured-lowest ν.same c r u)).0 (g u)))
  before s s' a iff (settled z ns k e h t f) = settled z ns k e h t (λ g l. (λ r. (f g l).0 ((iff g l).0 r), λ r. (iff g l).1 ((f g l).1 r)))

  -- one round, and what follows it
  turn-outcome : (f k : ℕ) (s : State N) → Fit ν held w s → ((s' : State N) → Fit ν held w s' → Falls s s' → Outcome s' (run ν bounded f (suc k) s'))
      → Outcome s (run ν bounded (suc f) k s)
  unfolding run after
  turn-outcome f k s h = go (round ν bounded s) refl
    where
      go : (r : Got (Option (State N))) → round ν bounded s ≡ r → ((s' : State N) → Fit ν held w s' → Falls s s' → Outcome s' (run ν bounded f (suc k) s'))
          → Outcome s (after ν r k s (λ s'. run ν bounded f (suc k) s'))
      go (refused n) e again = limits n k ((round-limits ν law held w tells s h).only n e) refl
      go (got none) e again = finish-outcome k s h e
      go (got (some s')) e again =
          let t = turn ν bounded s s' e in
          before s s' _ (λ g l. turn-wide ν law held w tells g l s s' h t) (again s' (turn-fit ν law held w tells s s' h t) (round-falls ν held w s s' h e))

  run-outcome : (f k : ℕ) (s : State N) → Fit ν held w s → measure s < f → Outcome s (run ν bounded f k s)
  run-outcome zero k s h m = absurd (omega arith)
  run-outcome (suc f) k s h m = turn-outcome f k s h (λ s' h' d. run-outcome f (suc k) s' h' (omega (arith, d.lower)))

  -- of any size: the first round leaves at most 2,048 records
  pub solve-outcome : (cs : List (Con N)) → Fit ν held w (record { cons = cs; binds = [] }) → Outcome (record { cons = cs; binds = [] }) (solve ν bounded cs)
  unfolding solve
  solve-outcome cs h = turn-outcome 1_579_264 0 _ h (λ s' h' d. run-outcome 1_579_264 1 s' h' (measure-small s' d.fits))
