-- Structs as the code has them, with their words lent, and the first of each that the rules tell apart in a map.
use Rattle.std.specs.Prelude.{◌≡◌, ℕ, List, [], ◌∷◌, Option, Some, None}
use Rattle.std.specs.Borrow.{Bor}
use Rattle.std.specs.BTreeMap.{BTreeMap, get}
use Rattle.std.specs.Cmp.Lexicographic.{slice_cmp}
use Rattle.std.specs.List.{find}
use Rattle.std.specs.Option.{option_map}
use Rattle.std.specs.Ordering.{nat_cmp, ordering_then}
use Rattle.std.specs.declared.cmp.Ordering.{Ordering}
use Rattle.edition_structs.specs.declared.written.Written.{Written}
use Rattle.edition_structs.specs.Structs.{Struct}
use Rattle.edition_structs.specs.Compared.{hasKey}

abbrev pub told : Written → Struct
told w = record { name = w.name; arguments = w.arguments.now; fields = w.fields.now; place = w.place }

abbrev pub told_of : Option Written → List Struct
told_of None = []
told_of (Some w) = told w ∷ []

-- a name and arguments, and their order
abbrev pub Key : Type 0
Key = ℕ × Bor (List ℕ)

abbrev pub cmpKey : Key → Key → Ordering
cmpKey a b = ordering_then (nat_cmp a.0 b.0) (slice_cmp nat_cmp a.1.now b.1.now)

-- a map has the first of these structs with each name and arguments
abbrev pub Firsts : BTreeMap Key Written → List Struct → Type 0
Firsts m ss = (q : Key) → option_map told (get cmpKey m q) ≡ find (hasKey q.0 q.1.now) ss
