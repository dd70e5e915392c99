-- Products in exact arithmetic: a product is its powers, atom by atom. Products are a commutative group, raising is a homomorphism.
use Rattle.std.specs.Prelude.{◌≡◌, false}
use mathlib.Core.List.{[], ◌∷◌}
use Rattle.rules.specs.Exponents.{Exp, nought, isZero}
use Rattle.rules.specs.Trees.{Atom, Atom-discrete, Factor, ◌↑◌, Product, Names, open-dec}
use Rattle.laws.specs.Lists.{Every}
use Rattle.laws.specs.Fractions.{Lowest}
use Rattle.laws.specs.Sorted.{Sorted}

-- ══ The power of an atom in a product ══

abbrev pub pick : {A : Type 0} → Dec A → Exp → Exp → Exp
pick (yes h) e d = e
pick (no f) e d = d

module _ {N : Type 0} (ν : Names N) where
  unfoldable pub atom-dec : Discrete (Atom N)
  unfolding open-dec
  atom-dec = Atom-discrete (open-dec ν) ν.same

  -- the exponent of an atom in a product; 0 where it doesn't occur
  unfoldable pub powerOf : Atom N → Product N → Exp
  powerOf a [] = nought
  powerOf a (b ↑ e ∷ p) = pick (atom-dec a b) e (powerOf a p)

-- ══ Products as exact arithmetic has them ══

module _ {N : Type 0} (Held : Atom N → Type 0) where
  -- a factor: an atom that is held, and a power in lowest terms that isn't 0
  abbrev pub Sound : Factor N → Type 0
  Sound (a ↑ e) = Held a × Lowest e × (isZero e ≡ false)

pub record Proper {N : Type 0} (ν : Names N) (Held : Atom N → Type 0) (p : Product N) : Type 0 where
  pub in_order : Sorted ν p
  pub each : Every (Sound Held) p
