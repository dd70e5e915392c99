-- The exact product and power of products, as functions: exact arithmetic always gives a value, and the bounded rules give that value or a refusal.
use mathlib.Core.List.{[], ◌∷◌}
use Prim.Native.Nat.{Ordering}
use Rattle.rules.specs.Exponents.{Exp, plus, mul}
use Rattle.rules.specs.Trees.{Atom, ◌↑◌, Product, Names, orderAtom}
use Rattle.rules.specs.Products.{put}

module _ {N : Type 0} where
  -- the exact power
  unfoldable pub raiseE : Product N → Exp → Product N
  raiseE [] k = []
  raiseE (a ↑ e ∷ p) k = put a (mul e k) (raiseE p k)

module _ {N : Type 0} (ν : Names N) where
  unfoldable pub mergeOneE : Atom N → Exp → Product N → (Product N → Product N) → Product N → Product N
  mergeOneE a e p more [] = a ↑ e ∷ p
  mergeOneE a e p more (b ↑ d ∷ q) = elim (orderAtom ν a b) [
    | Ordering.lt ↦ a ↑ e ∷ more (b ↑ d ∷ q)
    | Ordering.eq ↦ put a (plus e d) (more q)
    | Ordering.gt ↦ b ↑ d ∷ mergeOneE a e p more q
  ]

  -- the exact product
  unfoldable pub mergeE : Product N → Product N → Product N
  mergeE [] q = q
  mergeE (a ↑ e ∷ p) q = mergeOneE a e p (mergeE p) q
