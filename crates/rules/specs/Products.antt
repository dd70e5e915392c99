-- Multiplying, dividing and raising products of factors.
use Rattle.std.specs.Prelude.{true, false, [], ◌∷◌, length}
use Rattle.std.proofs.Math.Option.{Option, none}
use Prim.Native.Nat.{Ordering}
use Rattle.rules.specs.Base.{Got, got, ◌>>=◌, Limits, within, only_if, is_yes}
use Rattle.rules.specs.Exponents.{Exp, Exp-dec, one, isZero, neg, sum, times}
use Rattle.rules.specs.Trees.{Open, var, quant, par, Atom, free, base, ◌↑◌, Product, Names, orderAtom}

module _ {N : Type 0} where
  -- 'drops zeros': a power in front of a product, unless it is 0
  abbrev pub put : Atom N → Exp → Product N → Product N
  put a e p = elim (isZero e) [ true ↦ p | false ↦ a ↑ e ∷ p ]

  -- 'scalar': no factors
  abbrev pub scalar : Product N
  scalar = []

  unfoldable pub inverse : Product N → Product N
  inverse [] = []
  inverse (a ↑ e ∷ p) = a ↑ neg e ∷ inverse p

  -- an open name to the power 1
  abbrev pub just : Open N → Product N
  just o = free o ↑ one ∷ []

  -- the variable, named or quantified, of a product that is one variable to the power 1
  unfoldable pub single : Product N → Option (Open N)
  single [] = none
  single (a ↑ e ∷ f ∷ p) = none
  single (free (var x) ↑ e ∷ []) = only_if (is_yes (Exp-dec e one)) (var x)
  single (free (quant i) ↑ e ∷ []) = only_if (is_yes (Exp-dec e one)) (quant i)
  single (free (par x) ↑ e ∷ []) = none
  single (base n ↑ e ∷ []) = none

module _ {N : Type 0} (ν : Names N) (l : Limits) where
  -- 'multiplying merges two factor lists, adds exponents, drops zeros'. `merge` takes the first list apart, `mergeOne` the second
  unfoldable pub mergeOne : Atom N → Exp → Product N → (Product N → Got (Product N)) → Product N → Got (Product N)
  mergeOne a e p more [] = got (a ↑ e ∷ p)
  mergeOne a e p more (b ↑ d ∷ q) = elim (orderAtom ν a b) [
    | Ordering.lt ↦ (more (b ↑ d ∷ q) >>= λ r. got (a ↑ e ∷ r))
    | Ordering.eq ↦ (sum l e d >>= λ s. more q >>= λ r. got (put a s r))
    | Ordering.gt ↦ (mergeOne a e p more q >>= λ r. got (b ↑ d ∷ r))
  ]

  unfoldable pub merge : Product N → Product N → Got (Product N)
  merge [] q = got q
  merge (a ↑ e ∷ p) q = mergeOne a e p (λ q'. merge p q') q

  -- 'over 64 factors left is 8, after 7'
  unfoldable pub multiply : Product N → Product N → Got (Product N)
  multiply p q = merge p q >>= λ r. within l (length r) 64 r

  -- 'dividing multiplies by the inverse'
  unfoldable pub divide : Product N → Product N → Got (Product N)
  divide p q = multiply p (inverse q)

  -- 'raising multiplies each exponent and drops zeros'
  unfoldable pub raise : Product N → Exp → Got (Product N)
  raise [] k = got []
  raise (a ↑ e ∷ p) k = do
    s ← times l e k
    q ← raise p k
    got (put a s q)
