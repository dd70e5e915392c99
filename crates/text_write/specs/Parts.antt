-- The parts of constraints, their texts, and what it means that they are good.
use Rattle.std.specs.Prelude.{Bool, true, false, List, [], ◌∷◌, ◌++◌, ℕ, zero, suc}
use Rattle.rules.specs.Grammar.{ascii}
use Rattle.rules.specs.Names.{Bytes, table_of}
use Rattle.rules.specs.TextWriting.{nameText, openText, moreFactorsText, factorsText, tyText, tysText, moreTysText, moreFieldsText, namesIn}
use Rattle.rules.specs.Trees.{Atom, free, base, Product, Tys, Fields, noFields, field}

-- the names in a table over its pool, by their numbers
abbrev pub name_of : List ℕ → List ℕ → ℕ → Bytes
name_of pool table x = namesIn (table_of pool table) x

unfoldable pub atomText : (ℕ → Bytes) → Atom ℕ → Bytes
atomText names (free o) = openText names o
atomText names (base x) = ascii "#" ++ nameText (names x)

-- what stands between two factors, and in front of the first
abbrev pub star : Bool → Bytes
star true = []
star false = ascii " * "

-- factors from the first on, or behind others
unfoldable pub fromFactors : Bool → (ℕ → Bytes) → Product ℕ → Bytes
fromFactors true names p = factorsText names p
fromFactors false names p = moreFactorsText names p

-- what stands between types, and in front of the first
abbrev pub comma : Bool → Bytes
comma true = []
comma false = ascii ", "

-- a bracket around some, none around nothing
abbrev pub bracket : ℕ → ℕ → Bytes
bracket zero b = []
bracket (suc n) b = b ∷ []

-- types from the first on, or behind others
unfoldable pub fromTys : Bool → (ℕ → Bytes) → Tys ℕ → Bytes
fromTys true names ts = tysText names ts
fromTys false names ts = moreTysText names ts

-- a field's name and its colon, behind others or not
abbrev pub label : Bool → Bytes → Bytes
label first n = comma first ++ (nameText n ++ ascii ": ")

-- fields from the first on, or behind others
unfoldable pub fromFields : Bool → (ℕ → Bytes) → Fields ℕ → Bytes
fromFields first names noFields = []
fromFields first names (field n t fs) = label first (names n) ++ (tyText names t ++ moreFieldsText names fs)

-- a structure up to its parameters, and between them and its fields
abbrev pub head : Bytes → ℕ → Bytes
head x n = ascii "@" ++ (nameText x ++ bracket n 60)

abbrev pub between : ℕ → ℕ → Bytes
between n m = bracket n 62 ++ bracket m 123

-- a field's name between the two types of its constraint
abbrev pub named : Bytes → Bytes
named x = ascii ", \"" ++ (nameText x ++ ascii "\", ")
