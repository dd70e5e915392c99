-- The examples of the theorems: their names; K10, x y = x z then x = boolean; and two sets with a constraint that adding answers Violated.
use Rattle.std.specs.Prelude.{Bool, List, [], ◌∷◌, ℕ, ltb, ℤ, pos}
use Rattle.rules.specs.Exponents.{frac}
use Rattle.rules.specs.Trees.{var, free, Factor, ◌↑◌, Names, Ty, opened, basic, dim, struct, nil, noFields, field, boolean, Con, equal, Binding, ◌≔◌}
use Rattle.rules.specs.Names.{Bytes, numbered}

-- the names x, y, z, L, P and f, by their numbers
abbrev pub x : ℕ
x = 0

abbrev pub y : ℕ
y = 1

abbrev pub z : ℕ
z = 2

abbrev pub L : ℕ
L = 3

abbrev pub P : ℕ
P = 4

abbrev pub f : ℕ
f = 5

abbrev pub bytes : List Bytes
bytes = (120 ∷ []) ∷ (121 ∷ []) ∷ (122 ∷ []) ∷ (76 ∷ []) ∷ (80 ∷ []) ∷ (102 ∷ []) ∷ []

unfoldable pub names : Names ℕ
unfolding numbered
names = numbered bytes

unfoldable pub held : ℕ → Bool
held n = ltb n 6

-- a variable to a whole power
abbrev pub to : ℕ → ℤ → Factor ℕ
to v k = free (var v) ↑ frac k 1

-- x y = x z, then x = boolean
abbrev pub k10 : List (Con ℕ)
k10 = equal (dim (to x (pos 1) ∷ to y (pos 1) ∷ [])) (dim (to x (pos 1) ∷ to z (pos 1) ∷ [])) ∷ equal (opened (var x)) (basic boolean) ∷ []

abbrev pub k10-bindings : List (Binding ℕ)
k10-bindings = x ≔ basic boolean ∷ y ≔ dim (to z (pos 1) ∷ []) ∷ []

-- P without fields = P with a field f: boolean
abbrev pub fields : Con ℕ
fields = equal (struct P nil noFields) (struct P nil (field f (basic boolean) noFields))

-- x y = boolean, then y = scalar
abbrev pub product-left : Ty ℕ
product-left = dim (to x (pos 1) ∷ to y (pos 1) ∷ [])

abbrev pub product : Con ℕ
product = equal product-left (basic boolean)

abbrev pub products : List (Con ℕ)
products = product ∷ equal (opened (var y)) (dim []) ∷ []

abbrev pub products-bindings : List (Binding ℕ)
products-bindings = y ≔ dim [] ∷ x ≔ basic boolean ∷ []
