-- Names that a reader may take for one another. A name is any bytes: of one that isn't UTF-8 nothing is said.
use Rattle.std.specs.Prelude.{Bool, true, false, ◌&&◌, ◌||◌, ◌==◌, ℕ, suc, List, [], ◌∷◌, ◌++◌, chars}
use Rattle.std.specs.List.{list_any}
use Rattle.std.specs.Str.{is_utf8}
use Rattle.caseless.specs.Caseless.{compatibility_key}
use Rattle.ucd_category.specs.GeneralCategory.{general_category}
use Rattle.ucd_category.specs.GeneralCategoryGroup.{in_group}
use Rattle.ucd_category.specs.declared.GeneralCategoryGroup.TheVariants.{Other, Separator}
use Rattle.ucd_derived.specs.Binary.{is_default_ignorable_code_point}
use Rattle.rules.specs.Names.{Bytes, sameBytes}
use Rattle.edition_look_alikes.specs.declared.Pair.{Pair}

-- 'two names look alike where both are UTF-8 and equal by case folding and compatibility decomposition' (The Unicode Standard, D146)
unfoldable pub alike : Bytes → Bytes → Bool
alike a b = is_utf8 a && is_utf8 b && sameBytes (compatibility_key (chars a)) (compatibility_key (chars b))

-- characters that are mostly not seen: those of the general categories C (control, format, private use, unassigned) and Z (blanks and other separators),
-- those with the property Default_Ignorable_Code_Point, and U+2800, the braille pattern without a dot
unfoldable pub isUnseen : ℕ → Bool
isUnseen c = in_group Other (general_category c) || in_group Separator (general_category c) || is_default_ignorable_code_point c || c == 10240

unfoldable pub hasUnseen : Bytes → Bool
hasUnseen name = is_utf8 name && list_any isUnseen (chars name)

abbrev pub oneIf : {A : Type 0} → Bool → A → List A
oneIf true a = a ∷ []
oneIf false a = []

-- the pairs of a name, whose number is i, with these, the first of which has the number j
unfoldable pub alikeTo : ℕ → Bytes → ℕ → List Bytes → List Pair
alikeTo i n j [] = []
alikeTo i n j (m ∷ ms) = oneIf (alike n m) (record { first = i; second = j }) ++ alikeTo i n (suc j) ms

-- the pairs of names that look alike, the first of which has the number i
unfoldable pub alikePairs : ℕ → List Bytes → List Pair
alikePairs i [] = []
alikePairs i (n ∷ ns) = alikeTo i n (suc i) ns ++ alikePairs (suc i) ns

-- the numbers of names with such a character, the first of which has the number i
unfoldable pub withUnseen : ℕ → List Bytes → List ℕ
withUnseen i [] = []
withUnseen i (n ∷ ns) = oneIf (hasUnseen n) i ++ withUnseen (suc i) ns
