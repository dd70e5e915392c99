-- The examples, over the names of rules' Examples: their constraints, their words, and what is bound.
use Rattle.std.specs.Prelude.{◌≡◌, Bool, List, [], ◌∷◌, ℕ, zero, suc, ℤ, pos, negsuc}
use Rattle.rules.specs.Exponents.{Exp, frac, one}
use Rattle.rules.specs.Trees.{Names, var, par, free, base, ◌↑◌, dim, basic, boolean, Con, equal, is_scalar, Binding, ◌≔◌}
use Rattle.rules.specs.Names.{table_of, numbersOf, is_held}
use Rattle.rules.specs.Writing.{rec}
use Rattle.rules.specs.Lengths.{sizedWords}
use Rattle.rules.specs.Examples.{x, y, z, L, pool, table}
use Rattle.rules.specs.Choices.{baseDimension, Part, ◌to◌, Choice}

abbrev pub same : Discrete ℕ
same = (numbersOf (table_of pool table)).same

abbrev pub names : Names ℕ
names = numbersOf (table_of pool table)

abbrev pub held : ℕ → Bool
held = is_held (table_of pool table)

-- K9, dimension x = boolean
abbrev pub k9 : List (Con ℕ)
k9 = equal (dim (free (var x) ↑ one ∷ [])) (basic boolean) ∷ []

abbrev pub k9-words : List ℕ
k9-words = sizedWords (rec 20 0 0 0 ∷ rec 3 1 0 0 ∷ rec 11 x 1 1 ∷ rec 4 0 0 0 ∷ [])

-- K13, equal-scalar L
abbrev pub k13 : List (Con ℕ)
k13 = is_scalar (base L ↑ one ∷ []) ∷ []

abbrev pub k13-words : List ℕ
k13-words = sizedWords (rec 22 0 0 0 ∷ rec 3 1 0 0 ∷ rec 13 L 1 1 ∷ [])

-- the parameter L = the base dimension L
abbrev pub two-things : List (Con ℕ)
two-things = equal (dim (free (par L) ↑ one ∷ [])) (dim (base L ↑ one ∷ [])) ∷ []

abbrev pub two-things-words : List ℕ
two-things-words = sizedWords (rec 20 0 0 0 ∷ rec 3 1 0 0 ∷ rec 12 L 1 1 ∷ rec 3 1 0 0 ∷ rec 13 L 1 1 ∷ [])

-- equal-scalar x y z
abbrev pub open-two : List (Con ℕ)
open-two = is_scalar (free (var x) ↑ one ∷ free (var y) ↑ one ∷ free (var z) ↑ one ∷ []) ∷ []

abbrev pub open-two-words : List ℕ
open-two-words = sizedWords (rec 22 0 0 0 ∷ rec 3 3 0 0 ∷ rec 11 x 1 1 ∷ rec 11 y 1 1 ∷ rec 11 z 1 1 ∷ [])

-- x is bound to y^-1 z^-1
abbrev pub open-two-bindings : List (Binding ℕ)
open-two-bindings = x ≔ dim (free (var y) ↑ frac (negsuc 0) 1 ∷ free (var z) ↑ frac (negsuc 0) 1 ∷ []) ∷ []

-- y is L, everything else nothing
unfoldable pub y-is-L : Choice ℕ
y-is-L zero = []
y-is-L (suc zero) = baseDimension L to one ∷ []
y-is-L (suc (suc n)) = []

-- K5, equal-scalar x^2 L^-3
abbrev pub k5 : List (Con ℕ)
k5 = is_scalar (free (var x) ↑ frac (pos 2) 1 ∷ base L ↑ frac (negsuc 2) 1 ∷ []) ∷ []

abbrev pub k5-bindings : List (Binding ℕ)
k5-bindings = x ≔ dim (base L ↑ frac (pos 3) 2 ∷ []) ∷ []

-- a whole power
abbrev pub Whole : Exp → Type 0
Whole e = (n : ℤ) × (e ≡ frac n 1)

abbrev pub WholePart : Part ℕ → Type 0
WholePart (u to e) = Whole e

-- K14, equal-scalar x^(1/2) y^2147483647
abbrev pub k14 : List (Con ℕ)
k14 = is_scalar (free (var x) ↑ frac (pos 1) 2 ∷ free (var y) ↑ frac (pos 2_147_483_647) 1 ∷ []) ∷ []

abbrev pub k14-words : List ℕ
k14-words = sizedWords (rec 22 0 0 0 ∷ rec 3 2 0 0 ∷ rec 11 x 1 2 ∷ rec 11 y 2_147_483_647 1 ∷ [])
