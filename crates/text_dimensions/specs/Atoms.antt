-- What a factor is a power of: a mark, and its name, which is entered.
use Rattle.std.specs.Prelude.{◌≡◌, true, List, [], ℕ}
use Rattle.rules.specs.Trees.{Atom, Names}
use Rattle.rules.specs.Writing.{Rec}
use Rattle.laws.specs.GoodProducts.{goodAtom}
use Rattle.products.specs.Told.{heldIn}
use Rattle.products.specs.Kinds.{Kind, atomBy}

-- the kind that a mark begins
pub data KindFor (b : ℕ) : ℕ → Type 0 where
  forVariable : b ≡ 63 → KindFor b 11
  forParameter : b ≡ 33 → KindFor b 12
  forBase : b ≡ 35 → KindFor b 13
  forNone : (b ≡ 63 → ⊥) → (b ≡ 33 → ⊥) → (b ≡ 35 → ⊥) → KindFor b 0

-- a kind with a name that is held
pub record AtomHeld (table : List ℕ) (kind number : ℕ) : Type 0 where
  pub known : Kind kind
  pub good : (ν : Names ℕ) → goodAtom ν (heldIn table) 4_294_967_296 (atomBy kind number) ≡ true

-- an atom told by its kind and its number; nothing is written
pub record AtomTold (table : List ℕ) (kind number : ℕ) (a : Atom ℕ) (rs : List Rec) : Type 0 where
  pub is : a ≡ atomBy kind number
  pub held : AtomHeld table kind number
  pub none : rs ≡ []
