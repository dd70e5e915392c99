-- An exponent and a product are values with operations that take and give back such values: the calls on them.
use Rattle.std.specs.Prelude.{◌&&◌, List, [], ◌∷◌, ◌++◌, map, ℕ, eqb, leb, length, take, replicate}
use Rattle.std.proofs.Math.Option.{Option, some}
use Rattle.rules.specs.Base.{Got, got, ◌>>=◌, ◌>>◌, need, orRefuse, and_then, only_if, ◌or_else◌, bounded}
use Rattle.rules.specs.Exponents.{Exp, nought, goodExp, sum, times, negation, quotient}
use Rattle.rules.specs.Trees.{var, quant, par, Atom, free, base, Factor, ◌↑◌, Product}
use Rattle.rules.specs.Names.{table_of, numbersOf, is_held, tableGiven}
use Rattle.rules.specs.Products.{inverse, multiply, divide, raise}
use Rattle.rules.specs.WellFormed.{goodProduct}

-- ══ Exponents: 'exponent value not well formed' is 1, then the operation ══

unfoldable pub sumCall : Exp → Exp → Got Exp
sumCall a b = need (goodExp a && goodExp b) 1 >> sum bounded a b

unfoldable pub timesCall : Exp → Exp → Got Exp
timesCall a b = need (goodExp a && goodExp b) 1 >> times bounded a b

unfoldable pub negationCall : Exp → Got Exp
negationCall a = need (goodExp a) 1 >> negation bounded a

unfoldable pub quotientCall : Exp → Exp → Got Exp
quotientCall a b = need (goodExp a && goodExp b) 1 >> quotient bounded a b

-- ══ Product values: 'an array of 64 factors with a count' ══

-- the kind of a factor's record (11, 12, 13, 15), a name's number or an index, the exponent
pub record FactorValue : Type 0 where
  pub kind : ℕ
  pub name : ℕ
  pub exp : Exp

pub record ProductValue : Type 0 where
  pub factors : List FactorValue
  pub len : ℕ

-- the kind of an atom's factor, and its number
unfoldable pub kind_of : Atom ℕ → ℕ
kind_of (free (var x)) = 11
kind_of (free (quant i)) = 15
kind_of (free (par x)) = 12
kind_of (base x) = 13

unfoldable pub number_in : Atom ℕ → ℕ
number_in (free (var x)) = x
number_in (free (quant i)) = i
number_in (free (par x)) = x
number_in (base x) = x

-- the atom of a kind and a number; none for any other kind
unfoldable pub atomIn : ℕ → ℕ → Option (Atom ℕ)
atomIn k x =
    only_if (eqb k 11) (free (var x))
    or_else only_if (eqb k 12) (free (par x))
    or_else only_if (eqb k 13) (base x)
    or_else only_if (eqb k 15) (free (quant x))

unfoldable pub value_of : Factor ℕ → FactorValue
value_of (a ↑ e) = record { kind = kind_of a; name = number_in a; exp = e }

unfoldable pub factorIn : FactorValue → Option (Factor ℕ)
factorIn f = and_then (atomIn f.kind f.name) (λ a. some (a ↑ f.exp))

unfoldable pub factorsIn : List FactorValue → Option (Product ℕ)
factorsIn [] = some []
factorsIn (f ∷ fs) = and_then (factorIn f) (λ x. and_then (factorsIn fs) (λ xs. some (x ∷ xs)))

-- an unused place
abbrev pub blank : FactorValue
blank = record { kind = 0; name = 0; exp = nought }

-- a product as a value: its factors, then unused places up to 64
unfoldable pub productValue : Product ℕ → ProductValue
productValue p = record { factors = take 64 (map value_of p ++ replicate 64 blank); len = length p }

-- the product of a value; places past the count are not looked at
unfoldable pub productIn : ProductValue → Option (Product ℕ)
productIn v = and_then (only_if (leb v.len 64) (take v.len v.factors)) factorsIn

-- ══ The calls on products: 10 (short pool or table), then 1 (table, either product, the exponent), then the operation ══

module _ (pool table : List ℕ) where
  -- a well formed product; an index of a quantified variable is any word
  unfoldable pub productGiven : ProductValue → Got (Product ℕ)
  productGiven v = do
    p ← orRefuse 1 (productIn v)
    need (goodProduct (numbersOf (table_of pool table)) (is_held (table_of pool table)) 4_294_967_296 p) 1
    got p

  unfoldable pub multiplyCall : ProductValue → ProductValue → Got (Product ℕ)
  multiplyCall v w = do
    tableGiven pool table
    p ← productGiven v
    q ← productGiven w
    multiply (numbersOf (table_of pool table)) bounded p q

  unfoldable pub divideCall : ProductValue → ProductValue → Got (Product ℕ)
  divideCall v w = do
    tableGiven pool table
    p ← productGiven v
    q ← productGiven w
    divide (numbersOf (table_of pool table)) bounded p q

  unfoldable pub inverseCall : ProductValue → Got (Product ℕ)
  inverseCall v = do
    tableGiven pool table
    p ← productGiven v
    got (inverse p)

  unfoldable pub raiseCall : ProductValue → Exp → Got (Product ℕ)
  raiseCall v k = do
    tableGiven pool table
    p ← productGiven v
    need (goodExp k) 1
    raise (numbersOf (table_of pool table)) bounded p k
