-- The code's products and answers as values of the rules.
use Rattle.std.specs.Prelude.{Bool, true, false, cond, List, map, ℕ, ◌+◌, eqb, ltb, pos, take, get_or, set}
use Rattle.std.proofs.Math.Option
use Rattle.rules.specs.Base.{Got, got, refused, and'}
use Rattle.rules.specs.Exponents.{isZero}
use Rattle.rules.specs.Trees as Trees
use Rattle.rules.specs.Trees.{Atom, base, ◌↑◌, Names}
use Rattle.rules.specs.Values.{FactorValue, ProductValue, productValue, atomIn, factorIn}
use Rattle.rules.specs.WellFormed.{goodFactor}
use Rattle.exponents.specs.Answers.{expOf}
use Rattle.exponents.specs.declared.Exponent.{Exponent}
use Rattle.products.specs.declared.Factor.{Factor}
use Rattle.products.specs.declared.Product.{Product}

-- ══ Values that come in ══

abbrev pub valueIn : Factor → FactorValue
valueIn f = record { kind = f.kind; name = f.name; exp = expOf f.exp }

unfoldable pub given : Product → ProductValue
given p = record { factors = map valueIn p.factors; len = p.len }

-- ══ Answers ══

-- a product as a value, or the refusal
unfoldable pub answer : Got (Trees.Product ℕ) → Got ProductValue
answer (got p) = got (productValue p)
answer (refused n) = refused n

-- ══ Inside ══

abbrev pub Tree : Type 0
Tree = Trees.Product ℕ

-- the atom of a kind and a number, and what the factors of a product are; of other kinds nothing is asked
abbrev pub atomAt : Factor → Atom ℕ
atomAt f = Option.get_or (atomIn f.kind f.name) (base f.name)

abbrev pub tree_of : Factor → Trees.Factor ℕ
tree_of f = atomAt f ↑ expOf f.exp

unfoldable pub productOf : Product → Tree
productOf p = map tree_of (take p.len p.factors)

-- the numbers held by a table
abbrev pub heldIn : List ℕ → ℕ → Bool
heldIn table i = ltb i (get_or table 0 0)

-- a factor of a known kind that is well formed
unfoldable pub fine : Names ℕ → (ℕ → Bool) → Factor → Bool
fine ν held f = and' (factorIn (valueIn f)) (goodFactor ν held 4_294_967_296)

abbrev pub isGot : {A : Type 0} → Got A → Bool
isGot (got a) = true
isGot (refused n) = false

-- what the code reads past the end
abbrev pub unread : Factor
unread = record { kind = 0; name = 0; exp = record { num = pos 0; den = 0 } }

abbrev pub factorAt : Product → ℕ → Factor
factorAt p i = get_or p.factors i unread

-- the place of a kind in the order of factors
unfoldable pub rank_of : ℕ → ℕ
rank_of k = cond (eqb k 11) 0 (cond (eqb k 15) 1 (cond (eqb k 12) 2 3))

-- a factor with a new power
abbrev pub withExp : Factor → Exponent → Factor
withExp x e = record { kind = x.kind; name = x.name; exp = e }

-- one factor more; past the 64th it is counted only
unfoldable pub put_of : Product → Factor → Product
put_of p f = record { factors = set p.factors p.len f; len = p.len + 1 }

-- one factor more with a new power, unless the power is 0
abbrev pub kept_of : Product → Factor → Exponent → Product
kept_of p x e = cond (isZero (expOf e)) p (put_of p (withExp x e))
