-- Well formed products: what the test says, and that the bounded steps give well formed products again.
use Rattle.std.specs.Prelude.{Bool}
use Prim.Native.Nat.{ℕ}
use Rattle.rules.specs.Trees.{Atom, free, base, Names}
use Rattle.rules.specs.WellFormed.{goodOpen}

module _ {N : Type 0} (ν : Names N) (held : N → Bool) (q : ℕ) where
  -- an atom whose name is held, or whose index is below the count
  abbrev pub goodAtom : Atom N → Bool
  goodAtom (free o) = goodOpen ν held q o
  goodAtom (base n) = held n
