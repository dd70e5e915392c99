-- The columns of a set are its variables, then its parameters, then its base dimensions, each sorted.
use Rattle.std.specs.Prelude.{◌≡◌, not, length}
use Rattle.std.proofs.Math.Path.{refl, ap, ap₂, sym}
use Rattle.std.proofs.Common.{◌∙◌}
use mathlib.Core.List.{List, [], ◌∷◌, ◌++◌, map, append-nil}
use Prim.Native.Nat.{ℕ, suc, ◌+◌, Ordering}
use native.Mathlib.Omega.{arith}
use Rattle.rules.specs.Base.{keep, collect}
use Rattle.rules.specs.Trees.{Open, var, quant, par, Atom, free, base, ◌↑◌, Product, Names, is_scalar, orderOpen, orderAtom, openOfFactor, opens, opensCon}
use Rattle.rules.specs.Contents.{sorted, sort, variablesIn, parametersIn}
use Rattle.rules.specs.WellFormed.{atomOf}
use Rattle.laws.specs.Lists.{Every}
use Rattle.laws.proofs.Contents.{collect-append}
use Rattle.rules.specs.Elimination.{atomNames, isVariable}
use Rattle.engine_matrix.specs.Machine.{atomsFrom}

module _ {N : Type 0} where
  abbrev openOf : Atom N → List (Open N)
  openOf (free o) = o ∷ []
  openOf (base n) = []

  abbrev baseOf : Atom N → List N
  baseOf (free o) = []
  baseOf (base n) = n ∷ []

  abbrev pub opensOf : List (Atom N) → List (Open N)
  opensOf as' = collect openOf as'

  abbrev pub basesOf : List (Atom N) → List N
  basesOf as' = collect baseOf as'

  -- no quantified variable: those stand in schemes only
  abbrev pub Named : Atom N → Type 0
  Named (free (var x)) = Unit {0}
  Named (free (quant i)) = ⊥
  Named (free (par x)) = Unit {0}
  Named (base n) = Unit {0}

  abbrev pub in_turn : List N → List N → List N → List (Atom N)
  in_turn xs ys zs = map (λ x. free (var x)) xs ++ (map (λ y. free (par y)) ys ++ map base zs)

module _ {N : Type 0} (ν : Names N) where
  -- a kind of atoms: k has the atom of a name
  module _ (k : N → Atom N) where
    -- an atom goes past all of a kind that comes first
    past : (a : Atom N) → ((y : N) → orderAtom ν a (k y) ≡ Ordering.gt) → (ys : List N) (rest : List (Atom N))
        → sorted (atomNames ν) a (map k ys ++ rest) ≡ map k ys ++ sorted (atomNames ν) a rest
    unfolding sorted
    past a h [] rest = refl
    past a h (y ∷ ys) rest = rw (h y, sorted) (ap (k y ∷◌) (past a h ys rest))

    -- it stays in front of all of a kind that comes later
    in_front : (a : Atom N) → ((y : N) → orderAtom ν a (k y) ≡ Ordering.lt) → (ys : List N) (rest : List (Atom N))
        → sorted (atomNames ν) a rest ≡ a ∷ rest → sorted (atomNames ν) a (map k ys ++ rest) ≡ a ∷ map k ys ++ rest
    unfolding sorted
    in_front a h [] rest r = r
    in_front a h (y ∷ ys) rest r = rw (h y, sorted) refl

    -- and it goes to its place among its own
    among : ((x y : N) → orderAtom ν (k x) (k y) ≡ ν.order x y) → (x : N) (xs : List N) (rest : List (Atom N))
        → sorted (atomNames ν) (k x) rest ≡ k x ∷ rest → sorted (atomNames ν) (k x) (map k xs ++ rest) ≡ map k (sorted ν x xs) ++ rest
    unfolding sorted
    among h x [] rest r = r
    among h x (w ∷ xs) rest r = go (ν.order x w) refl (among h x xs rest r)
      where
        go : (o : Ordering) → ν.order x w ≡ o → sorted (atomNames ν) (k x) (map k xs ++ rest) ≡ map k (sorted ν x xs) ++ rest
            → sorted (atomNames ν) (k x) (map k (w ∷ xs) ++ rest) ≡ map k (sorted ν x (w ∷ xs)) ++ rest
        go Ordering.lt e m = rw (h x w, e, sorted) refl
        go Ordering.eq e m = rw (h x w, e, sorted) refl
        go Ordering.gt e m = rw (h x w, e, sorted) (ap (k w ∷◌) m)

  put-base : (z : N) (zs : List N) → sorted (atomNames ν) (base z) (map base zs) ≡ map base (sorted ν z zs)
  unfolding sorted orderAtom
  put-base z zs = let e = among base (λ x y. refl) z zs [] refl in rw (append-nil (map base zs), append-nil (map base (sorted ν z zs))) at e

  before-bases : (a : Atom N) → ((z : N) → orderAtom ν a (base z) ≡ Ordering.lt) → (zs : List N) → sorted (atomNames ν) a (map base zs) ≡ a ∷ map base zs
  unfolding sorted
  before-bases a h zs = let e = in_front base a h zs [] refl in rw (append-nil (map base zs)) at e

  pub in-turn : (as' : List (Atom N)) → Every Named as'
      → sort (atomNames ν) as' ≡ in_turn (sort ν (variablesIn (opensOf as'))) (sort ν (parametersIn (opensOf as'))) (sort ν (basesOf as'))
  unfolding sort collect variablesIn parametersIn orderAtom orderOpen
  in-turn [] h = refl
  in-turn (free (var x) ∷ as') h =
      let xs = sort ν (variablesIn (opensOf as')) in
      let ys = sort ν (parametersIn (opensOf as')) in
      let zs = sort ν (basesOf as') in
      let last = before-bases (free (var x)) (λ z. refl) zs in
      ap (sorted (atomNames ν) (free (var x))) (in-turn as' h.1)
      ∙ among (λ x. free (var x)) (λ x y. refl) x xs _ (in_front (λ y. free (par y)) (free (var x)) (λ y. refl) ys (map base zs) last)
  in-turn (free (quant i) ∷ as') h = absurd h.0
  in-turn (free (par y) ∷ as') h =
      let xs = sort ν (variablesIn (opensOf as')) in
      let ys = sort ν (parametersIn (opensOf as')) in
      let zs = sort ν (basesOf as') in
      ap (sorted (atomNames ν) (free (par y))) (in-turn as' h.1)
      ∙ past (λ x. free (var x)) (free (par y)) (λ x. refl) xs _
      ∙ ap (map (λ x. free (var x)) xs ++◌) (among (λ y. free (par y)) (λ x y. refl) y ys (map base zs) (before-bases (free (par y)) (λ z. refl) zs))
  in-turn (base z ∷ as') h =
      let xs = sort ν (variablesIn (opensOf as')) in
      let ys = sort ν (parametersIn (opensOf as')) in
      let zs = sort ν (basesOf as') in
      ap (sorted (atomNames ν) (base z)) (in-turn as' h.1)
      ∙ past (λ x. free (var x)) (base z) (λ x. refl) xs _
      ∙ ap (map (λ x. free (var x)) xs ++◌)
      (past (λ y. free (par y)) (base z) (λ y. refl) ys _ ∙ ap (map (λ y. free (par y)) ys ++◌) (put-base z zs))

-- ══ As the code has them ══

pub from-names : (xs ys zs : List ℕ) → atomsFrom (length xs) (length ys) ((xs ++ ys) ++ zs) ≡ in_turn xs ys zs
unfolding atomsFrom
from-names [] [] [] = refl
from-names [] [] (z ∷ zs) = ap (base z ∷◌) (from-names [] [] zs)
from-names [] (y ∷ ys) zs = ap (free (par y) ∷◌) (from-names [] ys zs)
from-names (x ∷ xs) ys zs = ap (free (var x) ∷◌) (from-names xs ys zs)

-- ══ How many there are ══

module _ {N : Type 0} where
  pub variables-kept : (xs ys zs : List N) → length (keep isVariable (in_turn xs ys zs)) ≡ length xs
  unfolding keep
  variables-kept [] [] [] = refl
  variables-kept [] [] (z ∷ zs) = variables-kept [] [] zs
  variables-kept [] (y ∷ ys) zs = variables-kept [] ys zs
  variables-kept (x ∷ xs) ys zs = ap suc (variables-kept xs ys zs)

  pub others-kept : (xs ys zs : List N) → length (keep (λ a. not (isVariable a)) (in_turn xs ys zs)) ≡ length ys + length zs
  unfolding keep
  others-kept [] [] [] = omega arith
  others-kept [] [] (z ∷ zs) = omega (arith, others-kept [] [] zs)
  others-kept [] (y ∷ ys) zs = omega (arith, others-kept [] ys zs)
  others-kept (x ∷ xs) ys zs = others-kept xs ys zs

-- ══ From the constraints ══

module _ {N : Type 0} where
  pub bases-append : (as' bs : List (Atom N)) → basesOf (as' ++ bs) ≡ basesOf as' ++ basesOf bs
  bases-append as' bs = collect-append baseOf as' bs

  product-opens : (p : Product N) → collect openOfFactor p ≡ opensOf (map atomOf p)
  unfolding collect
  product-opens [] = refl
  product-opens (free o ↑ e ∷ p) = ap (o ∷◌) (product-opens p)
  product-opens (base n ↑ e ∷ p) = product-opens p

  pub set-opened : (ps : List (Product N)) → collect opensCon (map is_scalar ps) ≡ opensOf (collect (λ p. map atomOf p) ps)
  unfolding collect opensCon opens
  set-opened [] = refl
  set-opened (p ∷ ps) =
      ap₂ ◌++◌ (product-opens p) (set-opened ps) ∙ sym (collect-append openOf (map atomOf p) (collect (λ p. map atomOf p) ps))
