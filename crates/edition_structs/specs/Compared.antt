-- Structs that the rules take for one type, since they look at the name and the arguments alone, though their fields differ.
use Rattle.std.specs.Prelude.{◌≡◌, Bool, true, false, ◌&&◌, ◌||◌, ◌==◌, ℕ, List, [], ◌∷◌, ◌++◌, Option, Some, None}
use Rattle.std.specs.List.{All, Contains, find, list_any}
use Rattle.std.specs.Str.{bytes_eq}
use Rattle.edition_structs.specs.declared.Differing.{Differing}
use Rattle.edition_structs.specs.Structs.{Struct}

-- has a struct this name and these arguments?
abbrev pub hasKey : ℕ → List ℕ → Struct → Bool
hasKey x as' t = t.name == x && bytes_eq t.arguments as'

-- the first of these that the rules take for one type with a struct
abbrev pub firstAlike : Struct → List Struct → Option Struct
firstAlike s ss = find (hasKey s.name s.arguments) ss

-- is a name told?
abbrev pub isTold : ℕ → List Differing → Bool
isTold x ds = list_any (λ d. d.name == x) ds

abbrev pub unless : Bool → Differing → List Differing
unless true d = []
unless false d = d ∷ []

-- what is told of a struct besides these, where the first that is alike has other fields; of each name it is told once
abbrev pub more : List Differing → Struct → Option Struct → List Differing
more ds s None = []
more ds s (Some t) = unless (bytes_eq t.fields s.fields || isTold s.name ds) (record { name = s.name; first = t.place; other = s.place })

-- what is told of structs that stand behind others, of which these are told
unfoldable pub differingFrom : List Struct → List Differing → List Struct → List Differing
differingFrom before ds [] = ds
differingFrom before ds (s ∷ ss) = differingFrom (before ++ s ∷ []) (ds ++ more ds s (firstAlike s before)) ss

abbrev pub differingOf : List Struct → List Differing
differingOf ss = differingFrom [] [] ss

-- any two structs with one name, which isn't told, and the same arguments have the same fields
abbrev pub Complete : List Struct → List Differing → Type 0
Complete ss ds =
    (s t : Struct) → Contains ss s → Contains ss t → s.name ≡ t.name → s.arguments ≡ t.arguments → isTold s.name ds ≡ false → s.fields ≡ t.fields

-- what is told is so: at its two places stand structs of its name, with the same arguments and other fields
abbrev pub IsSo : List Struct → Differing → Type 0
IsSo ss d =
    (s : Struct) × (t : Struct) × Contains ss s × Contains ss t × (s.name ≡ d.name) × (t.name ≡ d.name) × (s.place ≡ d.first) × (t.place ≡ d.other)
    × (s.arguments ≡ t.arguments) × (s.fields ≡ t.fields → ⊥)

abbrev pub Sound : List Struct → List Differing → Type 0
Sound ss ds = All (IsSo ss) ds
