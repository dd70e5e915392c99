-- The smallest types on which instantiating what quantifying gave is another type, one for each part of the condition in Again; and what does no harm.
use Rattle.std.specs.Prelude.{◌≡◌, refl, List, [], ◌∷◌, ℕ}
use Rattle.rules.specs.Base.{Got, got, ◌>>=◌, bounded}
use Rattle.rules.specs.Exponents.{one}
use Rattle.rules.specs.Trees.{Open, var, par, free, ◌↑◌, Ty, opened, dim}
use Rattle.rules.specs.Names.{table_of, numbersOf}
use Rattle.rules.specs.Products.{just}
use Rattle.rules.specs.Schemes.{quantify, instantiate}
use Rattle.rules.specs.Rules.{rules}
use Rattle.rules.specs.Examples.{pool, table, x, y, a}

-- quantified and instantiated with the same names
abbrev there : List ℕ → Ty ℕ → Got (Ty ℕ × List (Open ℕ))
there vs t = quantify (numbersOf (table_of pool table)) bounded vs t [] >>= λ s. instantiate (numbersOf (table_of pool table)) bounded vs s

-- a handed parameter comes back as a variable
parameter : there (a ∷ []) (opened (par a)) ≡ got (opened (var a), [])
unfolding rules pool table
parameter = refl

-- a product that is one variable to the power 1 comes back as that variable, handed or not
one-variable : there [] (dim (just (var x))) ≡ got (opened (var x), [])
unfolding rules pool table
one-variable = refl

-- names handed twice, and names that don't occur, do no harm
twice : there (x ∷ y ∷ x ∷ []) (dim (free (var x) ↑ one ∷ free (par a) ↑ one ∷ [])) ≡ got (dim (free (var x) ↑ one ∷ free (par a) ↑ one ∷ []), [])
unfolding rules pool table
twice = refl
