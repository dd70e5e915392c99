-- Small sets, by computation: what the second engine answers, and what solving answers.
use Rattle.std.specs.Prelude.{◌≡◌, refl, true, false, List, [], ◌∷◌, ◌++◌, map, replicate, pos, negsuc}
use Prim.Native.Nat.{ℕ, zero, suc, compare}
use Rattle.std.proofs.Math.Decide.{ℕ_discrete}
use Rattle.rules.specs.Base.{Got, got, refused, collect}
use Rattle.rules.specs.Exponents.{frac}
use Rattle.rules.specs.Trees.{var, par, free, base, Factor, ◌↑◌, Product, Names, is_scalar, isDim, opened, dim, ◌≔◌}
use Rattle.rules.specs.Writing.{words, writeCon}
use Rattle.rules.specs.Names.{table_of}
use Rattle.rules.specs.Solving.{Answer, accepted, remaining, stopped}
use Rattle.rules.specs.Calls.{solvedSet}
use Rattle.rules.specs.Examples.{pool, table, x, y, z, a, L, P}
use Rattle.rules.specs.Elimination.{Settled, settled, unsettled, fits, eliminatedSet}
use Rattle.rules.specs.Engine.{engine}

-- a factor: variable, parameter, base dimension, to a power that is a whole number, or the negative of one
abbrev fv : ℕ → ℕ → Factor ℕ
fv n k = free (var n) ↑ frac (pos k) 1

abbrev nv : ℕ → ℕ → Factor ℕ
nv n k = free (var n) ↑ frac (negsuc k) 1

abbrev fp : ℕ → ℕ → Factor ℕ
fp n k = free (par n) ↑ frac (pos k) 1

abbrev fb : ℕ → ℕ → Factor ℕ
fb n k = base n ↑ frac (pos k) 1

abbrev nb : ℕ → ℕ → Factor ℕ
nb n k = base n ↑ frac (negsuc k) 1

abbrev given : List (Product ℕ) → List ℕ
given ps = words (collect (λ p. writeCon (is_scalar p)) ps)

abbrev eliminates : List (Product ℕ) → Got (Settled ℕ)
eliminates ps = eliminatedSet (table_of pool table) (given ps)

-- what solving answers, without bounds and rounds
plain : Got (Answer ℕ) → Got (Settled ℕ)
plain (refused n) = refused n
plain (got (accepted bs ns k)) = got (settled bs)
plain (got (remaining cs k)) = got (unsettled cs)
plain (got (stopped n k)) = refused n

solves : List (Product ℕ) → Got (Settled ℕ)
solves ps = plain (solvedSet (table_of pool table) (given ps))

abbrev top : ℕ
top = 2_147_483_647

-- no row; K5; rows of zeros; a row that becomes zeros; a parameter's row that stays, and one that comes to it; three in a row, older
-- values brought up to date; 7 where -j/k leaves the range (K14), where a product does, where a sum does; and K14 with x^1
sets : List (List (Product ℕ))
sets =
    []
    ∷ ((fv x 2 ∷ nb L 2 ∷ []) ∷ [])
    ∷ ([] ∷ [] ∷ [])
    ∷ ((fv x 1 ∷ nv y 0 ∷ []) ∷ (fv x 2 ∷ nv y 1 ∷ []) ∷ [])
    ∷ ((fv x 1 ∷ fp a 1 ∷ []) ∷ (fp a 1 ∷ fb L 2 ∷ []) ∷ (fv x 3 ∷ []) ∷ [])
    ∷ ((fv x 1 ∷ fv y 1 ∷ nb L 0 ∷ []) ∷ (fv y 2 ∷ fv z 3 ∷ []) ∷ (fv z 1 ∷ fb L 1 ∷ []) ∷ [])
    ∷ ((free (var x) ↑ frac (pos 1) 2 ∷ fv y top ∷ []) ∷ [])
    ∷ ((fv x 1 ∷ fv y top ∷ []) ∷ (fv x 2 ∷ fv z 1 ∷ []) ∷ [])
    ∷ ((fv x 1 ∷ fv y top ∷ []) ∷ (fv x 1 ∷ nv y 0 ∷ []) ∷ [])
    ∷ ((fv x 1 ∷ fv y top ∷ []) ∷ [])
    ∷ ((fv x 1 ∷ fv y 1 ∷ []) ∷ (fv y 1 ∷ fv z 1 ∷ []) ∷ (fv x 1 ∷ fv z 1 ∷ fb P 1 ∷ []) ∷ [])
    ∷ []

answers : map eliminates sets
    ≡ got (settled [])
    ∷ got (settled (x ≔ dim (base L ↑ frac (pos 3) 2 ∷ []) ∷ []))
    ∷ got (settled [])
    ∷ got (settled (x ≔ dim (fv y 1 ∷ []) ∷ []))
    ∷ got (unsettled (is_scalar (fp a 1 ∷ fb L 2 ∷ []) ∷ is_scalar (free (par a) ↑ frac (negsuc 2) 1 ∷ []) ∷ []))
    ∷ got (settled (x ≔ dim (base L ↑ frac (negsuc 0) 2 ∷ []) ∷ y ≔ dim (base L ↑ frac (pos 3) 2 ∷ []) ∷ z ≔ dim (nb L 0 ∷ []) ∷ []))
    ∷ refused 7
    ∷ refused 7
    ∷ refused 7
    ∷ got (settled (x ≔ dim (free (var y) ↑ frac (negsuc 2_147_483_646) 1 ∷ []) ∷ []))
    ∷ got (settled (x ≔ dim (base P ↑ frac (negsuc 0) 2 ∷ []) ∷ y ≔ dim (base P ↑ frac (pos 1) 2 ∷ []) ∷ z ≔ dim (base P ↑ frac (negsuc 0) 2 ∷ []) ∷ []))
    ∷ []
unfolding engine pool table sets
answers = refl

alike : map eliminates sets ≡ map solves sets
unfolding engine pool table sets solves plain
alike = refl

-- another kind of constraint, and a 25th row, are 8; what is malformed is 1 first, and a name of two kinds is 4
kinds : eliminatedSet (table_of pool table) (words (collect writeCon (is_scalar (fv x 1 ∷ []) ∷ isDim (opened (var x)) ∷ [])))
    ∷ eliminates (replicate 24 []) ∷ eliminates (replicate 25 []) ∷ eliminates ((fv x 1 ∷ fv x 1 ∷ []) ∷ replicate 25 [])
    ∷ eliminates ((fv x 1 ∷ fp x 1 ∷ []) ∷ replicate 25 []) ∷ []
    ≡ refused 8 ∷ got (settled []) ∷ refused 8 ∷ refused 1 ∷ refused 4 ∷ []
unfolding engine pool table
kinds = refl

-- ══ The limits on names ══

-- names by number
plain-names : Names ℕ
unfolding ℕ_discrete
plain-names = record { same = ℕ_discrete; order = compare }

-- one row with the variables n - 1 down to 0, and one with as many base dimensions
row : (ℕ → Factor ℕ) → ℕ → Product ℕ
row f zero = []
row f (suc n) = f n ∷ row f n

-- 24 variables, 24 parameters and base dimensions; one of either more is too many
limits : map (λ (n : ℕ). fits plain-names (row (λ i. fv i 1) n ∷ [])) (23 ∷ 24 ∷ 25 ∷ [])
    ++ map (λ (n : ℕ). fits plain-names (row (λ i. fv i 1) 24 ∷ row (λ i. fp i 1) 10 ∷ row (λ i. fb i 1) n ∷ [])) (13 ∷ 14 ∷ 15 ∷ [])
    ≡ true ∷ true ∷ false ∷ true ∷ true ∷ false ∷ []
unfolding engine plain-names row
limits = refl
