-- The kinds of factors: which atoms they are, and the order of factors by kind and name.
use Rattle.std.specs.Prelude.{◌≡◌, Bool}
use Rattle.std.proofs.Math.Bool.{true}
use Rattle.std.proofs.Math.Option.{get_or}
use Prim.Native.Nat.{ℕ}
use Rattle.rules.specs.Exponents.{goodStored}
use Rattle.rules.specs.Trees.{Atom, base, Names}
use Rattle.rules.specs.Values.{atomIn}
use Rattle.laws.specs.GoodProducts.{goodAtom}
use Rattle.exponents.specs.Answers.{expOf}
use Rattle.products.specs.declared.Factor.{Factor}
use Rattle.products.specs.Told.{atomAt}

-- the kinds of factors
pub data Kind : ℕ → Type 0 where
  variable : Kind 11
  parameter : Kind 12
  dimension : Kind 13
  quantified : Kind 15

-- the atom of a kind
abbrev pub atomBy : ℕ → ℕ → Atom ℕ
atomBy k x = get_or (atomIn k x) (base x)

-- what is known of a factor that passed the test
pub record Fine (ν : Names ℕ) (held : ℕ → Bool) (f : Factor) : Type 0 where
  pub kind : Kind f.kind
  pub atom : goodAtom ν held 4_294_967_296 (atomAt f) ≡ true
  pub stored : goodStored (expOf f.exp) ≡ true
