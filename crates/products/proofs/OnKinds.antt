-- What follows from the definitions of specs/Kinds: the kinds of factors: which atoms they are, and the order of factors by kind and name.
use Rattle.std.specs.Prelude.{◌≡◌, Bool, false, cond, ◌&&◌, ◌⊎◌, eqb}
use Rattle.std.proofs.Math.Path.{refl}
use Rattle.std.proofs.Common.{◌∙◌, sym, subst, inl, inr, arith}
use Rattle.std.proofs.Math.Bool.{true, and-eq-true_iff}
use Rattle.std.proofs.Math.Option.{Option, none, some}
use Prim.Native.Nat.{ℕ, ◌≤◌, ◌<◌, compare}
use Rattle.std.proofs.Math.Decide.{ℕ_discrete}
use borrow.Author.Tests.{eqb-true, ne_eqb, lt-ltb}
use Rattle.rules.specs.Base.{and'}
use Rattle.rules.specs.Exponents.{Exp, goodStored}
use Rattle.rules.specs.Names.{then}
use Rattle.rules.specs.Trees.{Atom, free, base, ◌↑◌, Names, orderOpen, orderAtom}
use Rattle.rules.specs.Values.{kind_of, number_in, atomIn, value_of, factorIn}
use Rattle.rules.specs.WellFormed.{goodOpen, goodFactor}
use Rattle.laws.specs.GoodProducts.{goodAtom}
use Rattle.exponents.specs.Answers.{expOf}
use Rattle.products.specs.declared.Factor.{Factor}
use Rattle.products.specs.Told.{valueIn, atomAt, tree_of, fine, rank_of}
use Rattle.products.specs.Kinds.{Kind, variable, parameter, dimension, quantified, atomBy, Fine}

-- a kind, or no atom
pub kind-of : (k x : ℕ) → Kind k ⊎ (atomIn k x ≡ none)
unfolding atomIn
kind-of k x = go (eqb k 11) (eqb k 12) (eqb k 13) (eqb k 15) refl refl refl refl
  where
    go : (a b c d : Bool) → eqb k 11 ≡ a → eqb k 12 ≡ b → eqb k 13 ≡ c → eqb k 15 ≡ d → Kind k ⊎ (atomIn k x ≡ none)
    go true b c d p q r s = inl (subst Kind (sym (eqb-true k 11 p)) variable)
    go false true c d p q r s = inl (subst Kind (sym (eqb-true k 12 q)) parameter)
    go false false true d p q r s = inl (subst Kind (sym (eqb-true k 13 r)) dimension)
    go false false false true p q r s = inl (subst Kind (sym (eqb-true k 15 s)) quantified)
    go false false false false p q r s = inr (rw (p, q, r, s))

-- the kinds that bear a name, and no kind
pub between : (k : ℕ) → 11 ≤ k → k ≤ 13 → Kind k
between k h l = go (ℕ_discrete k 11) (ℕ_discrete k 12)
  where
    go : Dec (k ≡ 11) → Dec (k ≡ 12) → Kind k
    go (yes e) d = subst Kind (sym e) variable
    go (no f) (yes e) = subst Kind (sym e) parameter
    go (no f) (no g) = subst Kind (sym (third f g)) dimension
      where
        third : ¬ (k ≡ 11) → ¬ (k ≡ 12) → k ≡ 13
        third f g = omega arith

pub no_kind : (k x : ℕ) → ¬ (k ≡ 11) → ¬ (k ≡ 12) → ¬ (k ≡ 13) → ¬ (k ≡ 15) → atomIn k x ≡ none
unfolding atomIn
no_kind k x a b c d = rw (ne_eqb k 11 a, ne_eqb k 12 b, ne_eqb k 13 c, ne_eqb k 15 d)

module _ (x : ℕ) where
  pub kind-atom : {k : ℕ} → Kind k → atomIn k x ≡ some (atomBy k x)
  unfolding atomIn
  kind-atom variable = refl
  kind-atom parameter = refl
  kind-atom dimension = refl
  kind-atom quantified = refl

  kind-back : {k : ℕ} → Kind k → kind_of (atomBy k x) ≡ k
  unfolding atomIn kind_of
  kind-back variable = refl
  kind-back parameter = refl
  kind-back dimension = refl
  kind-back quantified = refl

  number-back : {k : ℕ} → Kind k → number_in (atomBy k x) ≡ x
  unfolding atomIn number_in
  number-back variable = refl
  number-back parameter = refl
  number-back dimension = refl
  number-back quantified = refl

-- a factor of a known kind is the value of its tree
pub value-back : (f : Factor) → Kind f.kind → valueIn f ≡ value_of (tree_of f)
unfolding value_of
value-back f k =
    let a = sym (kind-back f.name k) in
    let b = sym (number-back f.name k) in
    λ i. record { kind = a i; name = b i; exp = expOf f.exp }

pub factor-back : (f : Factor) → Kind f.kind → factorIn (valueIn f) ≡ some (tree_of f)
unfolding factorIn
factor-back f k = rw (kind-atom f.name k)

-- a factor of another kind is none
pub factor-none : (f : Factor) → atomIn f.kind f.name ≡ none → factorIn (valueIn f) ≡ none
unfolding factorIn
factor-none f h = rw h

module _ (ν : Names ℕ) (held : ℕ → Bool) where
  -- the test of a factor, by its parts
  pub tree-good : (a : Atom ℕ) (e : Exp) → goodFactor ν held 4_294_967_296 (a ↑ e) ≡ (goodAtom ν held 4_294_967_296 a && goodStored e)
  unfolding goodFactor
  tree-good (free o) e = refl
  tree-good (base n) e = refl

  pub fine-by : (f : Factor) → fine ν held f ≡ (and' (atomIn f.kind f.name) (goodAtom ν held 4_294_967_296) && goodStored (expOf f.exp))
  unfolding fine factorIn
  fine-by f = go (atomIn f.kind f.name) refl
    where
      go : (o : Option (Atom ℕ)) → atomIn f.kind f.name ≡ o
          → fine ν held f ≡ (and' (atomIn f.kind f.name) (goodAtom ν held 4_294_967_296) && goodStored (expOf f.exp))
      go none e = rw e
      go (some a) e = rw e (tree-good a (expOf f.exp))

  pub fine-facts : (f : Factor) → fine ν held f ≡ true → Fine ν held f
  fine-facts f h = go (kind-of f.kind f.name)
      ((and-eq-true_iff (and' (atomIn f.kind f.name) (goodAtom ν held 4_294_967_296)) (goodStored (expOf f.exp))).0 (sym (fine-by f) ∙ h))
    where
      go : Kind f.kind ⊎ (atomIn f.kind f.name ≡ none) → (and' (atomIn f.kind f.name) (goodAtom ν held 4_294_967_296) ≡ true)
          × (goodStored (expOf f.exp) ≡ true) → Fine ν held f
      go (inl k) r = record { kind = k; atom = rw (kind-atom f.name k) at r.0; stored = r.1 }
      go (inr n) r = let z : false ≡ true = rw n at r.0 in absurd (cc)

  pub fine-test : (f : Factor) → Fine ν held f → fine ν held f ≡ true
  fine-test f g = fine-by f ∙ rw (kind-atom f.name g.kind, g.stored) ((and-eq-true_iff _ _).1 (g.atom, refl))

  pub not-fine : (f : Factor) → fine ν held f ≡ false → Fine ν held f → ⊥
  not-fine f h g = let e = fine-test f g in cc

  -- an atom that bears a name is good where its name is held
  pub named-held : (k x : ℕ) → 11 ≤ k → k ≤ 13 → and' (atomIn k x) (goodAtom ν held 4_294_967_296) ≡ held x
  unfolding atomIn goodOpen
  named-held k x h l = go (between k h l) l
    where
      go : {k : ℕ} → Kind k → k ≤ 13 → and' (atomIn k x) (goodAtom ν held 4_294_967_296) ≡ held x
      go variable l = refl
      go parameter l = refl
      go dimension l = refl
      go quantified l = absurd (omega arith)

  pub named-index : (x : ℕ) → x < 4_294_967_296 → and' (atomIn 15 x) (goodAtom ν held 4_294_967_296) ≡ true
  unfolding atomIn goodOpen
  named-index x h = lt-ltb x 4_294_967_296 h

  -- the order of factors: by kind, then by index or by name
  pub order-by : (k j x y : ℕ) → Kind k → Kind j
      → orderAtom ν (atomBy k x) (atomBy j y) ≡ then (compare (rank_of k) (rank_of j)) (cond (eqb k 15) (compare x y) (ν.order x y))
  unfolding atomIn orderAtom orderOpen rank_of
  order-by k j x y variable variable = refl
  order-by k j x y variable parameter = refl
  order-by k j x y variable dimension = refl
  order-by k j x y variable quantified = refl
  order-by k j x y parameter variable = refl
  order-by k j x y parameter parameter = refl
  order-by k j x y parameter dimension = refl
  order-by k j x y parameter quantified = refl
  order-by k j x y dimension variable = refl
  order-by k j x y dimension parameter = refl
  order-by k j x y dimension dimension = refl
  order-by k j x y dimension quantified = refl
  order-by k j x y quantified variable = refl
  order-by k j x y quantified parameter = refl
  order-by k j x y quantified dimension = refl
  order-by k j x y quantified quantified = refl

-- the order of two factors that are held in a table
module _ {names : Names ℕ} {held : ℕ → Bool} where
  pub by_rank : (f g : Factor) → Fine names held f → Fine names held g → orderAtom names (atomAt f) (atomAt g)
      ≡ then (compare (rank_of f.kind) (rank_of g.kind)) (cond (eqb f.kind 15) (compare f.name g.name) (names.order f.name g.name))
  by_rank f g h k = order-by names held f.kind g.kind f.name g.name h.kind k.kind
