-- In a set of dimensions a round is refused with 7 or 8 alone: nothing but a dimension is ever bound, so 6 can't come.
use Rattle.std.specs.Prelude.{◌≡◌, Bool, true, ◌⊎◌, ℕ}
use Rattle.std.proofs.Math.Path.{refl}
use Rattle.std.proofs.Common.{◌∙◌, sym, inl, inr}
use Rattle.std.proofs.Math.Option.{Option, none, some}
use mathlib.Core.List.Memᴰ
use mathlib.Core.List.{List, [], ◌∷◌}
use Rattle.rules.specs.Base.{Got, got, refused, bounded, each}
use Rattle.rules.specs.Exponents.{Exp, neg, inverted, times, timesInverse, quotient}
use Rattle.rules.specs.Trees.{var, quant, par, free, base, Factor, ◌↑◌, Product, Names, dim, Con, is_scalar, ◌≔◌, orderAtom}
use Rattle.rules.specs.Replacing.{Look, asProduct, replaceFactors, replaceProduct, bindings}
use Rattle.rules.specs.Rounds.{Step, bind, split, done, stuck, State, orTry, otherSide, trySatisfy, taken, firstStep, sizeState, depthState, limited}
use Rattle.laws.specs.Order.{Lawful, Tells}
use Rattle.laws.specs.Lists.{All, in_head}
use Rattle.laws.proofs.Lists.{got≢refused}
use Rattle.laws.specs.Exact.{OfLimits, Below}
use Rattle.laws.proofs.Exact.{times_below, multiply-below, divide-below, raise-below, sized-below}
use Rattle.laws.proofs.ExactProducts.{multiply-exact, divide-exact, raise-exact}
use Rattle.laws.specs.GoodProducts.{goodAtom}
use Rattle.laws.proofs.Refusing.{Refuses, given as fine, refusing, onward}
use Rattle.laws.proofs.Occurs.{one-bound}

-- with 7 or 8
abbrev pub Limited : {A : Type 0} → Got A → Type 0
Limited m = Refuses OfLimits m

-- what exact arithmetic gives a value for
pub below : {A : Type 0} {m n : Got A} {a : A} → Below m n → n ≡ got a → Limited m
below {m} {n} {a} b e = record { only = λ k i. go k (b.refuses k i) }
  where
    go : (k : ℕ) → (n ≡ refused k) ⊎ OfLimits k → OfLimits k
    go k (inl j) = absurd (got≢refused (sym e ∙ j))
    go k (inr j) = j

pub each-limited : {A B : Type 0} (f : A → Got B) (xs : List A) → All (λ a. Limited (f a)) xs → Limited (each f xs)
unfolding each
each-limited f [] h = fine
each-limited f (x ∷ xs) h = onward (h x in_head) (λ y i. onward (each-limited f xs (λ a m. h a (Memᴰ.tail m))) (λ ys j. fine))

-- ══ Replacing one variable by a dimension ══

module _ {N : Type 0} (ν : Names N) (x : N) (d : Product N) where
  abbrev look : Look N
  look = bindings ν (x ≔ dim d ∷ [])

  factors-limited : (p acc : Product N) → Limited (replaceFactors ν bounded look p acc)
  unfolding replaceFactors asProduct
  factors-limited [] acc = fine
  factors-limited (base n ↑ e ∷ p) acc = factors-limited p acc
  factors-limited (free o ↑ e ∷ p) acc = go (one-bound ν x (dim d) o) (λ acc'. factors-limited p acc')
    where
      go : ((o ≡ var x) × (look o ≡ some (dim d))) ⊎ ((o ≡ var x → ⊥) × (look o ≡ none)) → ((acc' : Product N) → Limited (replaceFactors ν bounded look p acc'))
          → Limited (replaceFactors ν bounded look (free o ↑ e ∷ p) acc)
      go (inr i) f = rw (i.1, replaceFactors) (f acc)
      go (inl i) f =
          rw (i.1, replaceFactors)
          (onward (below (divide-below ν acc (free o ↑ e ∷ [])) (divide-exact ν acc (free o ↑ e ∷ []))) (λ left m.
          onward (below (raise-below ν d e) (raise-exact ν d e)) (λ more n.
          onward (below (multiply-below ν left more) (multiply-exact ν left more)) (λ acc' j. f acc'))))

  pub product-limited : (p : Product N) → Limited (replaceProduct ν bounded look p)
  unfolding replaceProduct
  product-limited p = factors-limited p p

-- ══ The rules ══

quotient-limited : (a b : Exp) → Limited (quotient bounded a b)
unfolding quotient times
quotient-limited a b = go (inverted b)
  where
    go : (i : Option Exp) → Limited (timesInverse bounded a i)
    go none = refusing (inl refl)
    go (some c) = below (times_below a c) refl

module _ {N : Type 0} (ν : Names N) (law : Lawful (orderAtom ν)) (held : N → Bool) (tells : Tells (λ a. goodAtom ν held 0 a ≡ true) (orderAtom ν)) where
  other-limited : (k : Exp) (f : Factor N) → Limited (otherSide bounded k f)
  unfolding otherSide
  other-limited k (a ↑ j) = onward (quotient-limited (neg j) k) (λ e i. fine)

  pub or-limited : (o : Option (Step N)) (m : Got (Step N)) → Limited m → Limited (orTry o m)
  or-limited none m h = h
  or-limited (some r) m h = fine

  pub scalar-limited : (p : Product N) → Limited (trySatisfy ν bounded (is_scalar p))
  unfolding trySatisfy
  scalar-limited [] = fine
  scalar-limited (free (var x) ↑ k ∷ p) = onward (each-limited (otherSide bounded k) p (λ f m. other-limited k f)) (λ q i. fine)
  scalar-limited (free (quant i) ↑ k ∷ p) = fine
  scalar-limited (free (par x) ↑ k ∷ p) = fine
  scalar-limited (base n ↑ k ∷ p) = fine

  pub taken-limited : (s : Step N) (c : Con N) (cs : List (Con N)) → Limited (firstStep ν bounded cs) → Limited (taken s c cs (λ _. firstStep ν bounded cs))
  unfolding taken
  taken-limited (bind x t) c cs h = fine
  taken-limited (split new) c cs h = fine
  taken-limited done c cs h = fine
  taken-limited stuck c cs h = onward h (λ r i. fine)

  pub state-limited : (s : State N) → Limited (limited bounded s)
  unfolding limited
  state-limited s = below (sized-below (sizeState s) (depthState s) s) refl
