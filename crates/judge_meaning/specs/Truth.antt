-- What the tests of a constraint answer.
use Rattle.std.specs.Prelude.{◌≡◌, Bool, List, ℕ}
use Rattle.rules.specs.Names.{Bytes, numbered}
use Rattle.rules.specs.Trees.{Ty, Con, opens, opensCon}
use Rattle.rules.specs.Meaning.{holds}
use Rattle.queries.specs.declared.name_set.NameSet.{NameSet}
use Rattle.queries.specs.Marks.{Has, Small}

-- of a type whose names can be those of a table, and the set that has the bounds
abbrev pub Bounded : Ty ℕ → NameSet → (List Bytes → List ℕ → Type 0) → Type 0
Bounded t m P = (names : List Bytes) (xs : List ℕ) → Small (opens t) → Has m xs → P names xs

-- the answer whether a constraint is true
abbrev pub True : Con ℕ → NameSet → Bool → Type 0
True c m r = (names : List Bytes) (xs : List ℕ) → Small (opensCon c) → Has m xs → r ≡ holds (numbered names) xs c
