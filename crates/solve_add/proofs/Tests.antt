-- The test of a constraint, from what the code finds of its types.
use Rattle.std.specs.Prelude.{◌≡◌, Bool, true, false, ◌&&◌, ◌||◌, List, [], ◌∷◌, ◌++◌, ℕ, eqb, length, refl}
use Rattle.std.proofs.Common.{arith, ap, sym, ◌∙◌}
use Rattle.rules.specs.Adding.{Added, satisfied, unknown, satisfiedIf, violatedIf, countsDiffer, kindsDiffer, addEqual, addDim, addTest}
use Rattle.rules.specs.Base.{collect, isNil, is_yes, to_list}
use Rattle.rules.specs.Exponents.{Exp}
use Rattle.rules.specs.Contents.{closed, variablesIn}
use Rattle.rules.specs.Names.{Bytes, numbered}
use Rattle.rules.specs.Trees.{◌↑◌, Atom, free, base, Open, Ty, is_scalar, Product, openOfFactor, ty-dec}
use Rattle.rules.specs.Views.{fn_of, kind, variable}
use Rattle.laws.proofs.Contents.{collect-append}
use Rattle.laws.proofs.Lists.{true≢false}
use Rattle.queries.specs.Scans.{opensAtom}

module _ (names : List Bytes) (l r : Ty ℕ) {v : Added} (b : Bool) where
  pub equal-closed : (closed l && closed r) ≡ true → v ≡ satisfiedIf b → b ≡ is_yes (ty-dec (numbered names) l r)
      → v ≡ addEqual (numbered names) (closed l && closed r) l r
  unfolding addEqual
  equal-closed e h q = rw (e, ← q) h

  pub equal-open : (closed l && closed r) ≡ false → v ≡ violatedIf b → b ≡ (countsDiffer (fn_of l) (fn_of r) || kindsDiffer l r)
      → v ≡ addEqual (numbered names) (closed l && closed r) l r
  unfolding addEqual
  equal-open e h q = rw (e, ← q) h

module _ (names : List Bytes) (t : Ty ℕ) where
  pub dim-closed : {v : Added} → closed t ≡ true → v ≡ satisfiedIf (eqb (kind t) 3) → v ≡ addDim (numbered names) (closed t) t
  unfolding addDim
  dim-closed e h = rw e h

  pub dim-open : closed t ≡ false → unknown ≡ addDim (numbered names) (closed t) t
  unfolding addDim
  dim-open e = rw e refl

-- ══ Equal-scalar ══

nil-hit : (xs ys : List ℕ) → isNil xs ≡ false → false ≡ isNil (xs ++ ys)
nil-hit [] ys e = absurd (true≢false e)
nil-hit (x ∷ xs) ys e = refl

nil-miss : (xs ys : List ℕ) → isNil xs ≡ true → isNil ys ≡ isNil (xs ++ ys)
nil-miss [] ys e = refl
nil-miss (x ∷ xs) ys e = absurd (true≢false (sym e))

-- is no factor a power of a variable
abbrev pub constant : Product ℕ → Bool
constant p = isNil (variablesIn (collect openOfFactor p))

variables-both : (a b : List (Open ℕ)) → variablesIn (a ++ b) ≡ variablesIn a ++ variablesIn b
unfolding variablesIn
variables-both a b = collect-append (λ o. to_list (variable o)) a b

module _ (a : Atom ℕ) (e : Exp) (p q : Product ℕ) where
  -- by the first factor, and those after it
  factor-first : q ≡ a ↑ e ∷ p → isNil (variablesIn (opensAtom a) ++ variablesIn (collect openOfFactor p)) ≡ constant q
  unfolding collect
  factor-first i = go a ∙ ap constant (sym i)
    where
      go : (a : Atom ℕ) → isNil (variablesIn (opensAtom a) ++ variablesIn (collect openOfFactor p)) ≡ constant (a ↑ e ∷ p)
      go (free o) = ap isNil (sym (variables-both (o ∷ []) (collect openOfFactor p)))
      go (base x) = ap isNil (sym (variables-both [] (collect openOfFactor p)))

  pub variable-here : q ≡ a ↑ e ∷ p → isNil (variablesIn (opensAtom a)) ≡ false → false ≡ constant q
  variable-here i h = nil-hit (variablesIn (opensAtom a)) (variablesIn (collect openOfFactor p)) h ∙ factor-first i

  pub variable-later : q ≡ a ↑ e ∷ p → isNil (variablesIn (opensAtom a)) ≡ true → constant p ≡ constant q
  variable-later i h = nil-miss (variablesIn (opensAtom a)) (variablesIn (collect openOfFactor p)) h ∙ factor-first i

pub no-variable : (p : Product ℕ) → p ≡ [] → true ≡ constant p
unfolding variablesIn collect
no-variable p e = ap constant (sym e)

module _ (names : List Bytes) (p : Product ℕ) {n : ℕ} (many : length p ≡ n) where
  pub scalar-none : n ≡ 0 → satisfied ≡ addTest (numbered names) (is_scalar p)
  unfolding addTest
  scalar-none e = go p many
    where
      go : (p : Product ℕ) → length p ≡ n → satisfied ≡ addTest (numbered names) (is_scalar p)
      go [] l = refl
      go (f ∷ p) l = absurd (omega (arith, l))

  pub scalar-some : {v : Added} → (n ≡ 0 → ⊥) → v ≡ violatedIf (constant p) → v ≡ addTest (numbered names) (is_scalar p)
  unfolding addTest
  scalar-some {v} f h = go p many h
    where
      go : (p : Product ℕ) → length p ≡ n → v ≡ violatedIf (constant p) → v ≡ addTest (numbered names) (is_scalar p)
      go [] l h = absurd (f (sym l))
      go (g ∷ p) l h = h
