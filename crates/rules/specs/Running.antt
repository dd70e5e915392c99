-- The run of a line on types alone, in exact powers. It knows neither the constraints nor the solver.
use Rattle.std.specs.Prelude.{Bool, true, false, List, [], ◌∷◌, ℕ}
use Rattle.std.proofs.Math.Option.{Option, none, some}
use Rattle.rules.specs.Base.{Got, got, refused, exact}
use Rattle.rules.specs.Trees.{Product, Names, Ty, basic, dim, boolean}
use Rattle.rules.specs.Views.{productOf}
use Rattle.rules.specs.Products.{multiply, divide, raise}
use Rattle.rules.specs.Meaning.{means}
use Rattle.rules.specs.Steps.{Two, adds, subtracts, multiplies, divides, compares, LineStep, Deed, gives, raised, joined, chosen, takes}

-- why a run stops. Exact powers never refuse
pub data Fault : Type 0 where
  missing notDimension unequal notBoolean : Fault
  powers : ℕ → Fault

pub data Ran (A : Type 0) : Type 0 where
  ran : A → Ran A
  fault : Fault → Ran A

infixl 1 ◌>>=◌
abbrev pub ◌>>=◌ : {A B : Type 0} → Ran A → (A → Ran B) → Ran B
ran a >>= f = f a
fault k >>= f = fault k

-- a test: it passes, or it is the fault k
abbrev pub asks : Bool → Fault → Ran (Unit {0})
asks true k = ran tt
asks false k = fault k

abbrev pub orFault : {A : Type 0} → Fault → Option A → Ran A
orFault k none = fault k
orFault k (some a) = ran a

abbrev pub exactly : {A : Type 0} → Got A → Ran A
exactly (got a) = ran a
exactly (refused n) = fault (powers n)

module _ {N : Type 0} (ν : Names N) where
  -- 'a non-dimension in arithmetic'
  unfoldable pub dimensionOf : Ty N → Ran (Product N)
  dimensionOf t = orFault notDimension (productOf t)

  -- 'sides unequal by the judge'
  unfoldable pub alike : Ty N → Ty N → Ran (Unit {0})
  alike s t = asks (means ν s t) unequal

  -- 'a condition that isn't boolean'
  unfoldable pub isCondition : Ty N → Ran (Unit {0})
  isCondition t = asks (means ν t (basic boolean)) notBoolean

  -- two dimensions that mean the same: the type is given where they do
  unfoldable pub sameDimensions : Ty N → Ty N → Ty N → Ran (Ty N)
  sameDimensions l r t = do
    p ← dimensionOf l
    q ← dimensionOf r
    u ← alike l r
    ran t

  unfoldable pub ofDimensions : Ty N → Ty N → (Product N → Product N → Got (Product N)) → Ran (Ty N)
  ofDimensions l r f = do
    p ← dimensionOf l
    q ← dimensionOf r
    m ← exactly (f p q)
    ran (dim m)

  unfoldable pub doesTwo : Two → Ty N → Ty N → Ran (Ty N)
  doesTwo adds l r = sameDimensions l r l
  doesTwo subtracts l r = sameDimensions l r l
  doesTwo multiplies l r = ofDimensions l r (multiply ν exact)
  doesTwo divides l r = ofDimensions l r (divide ν exact)
  doesTwo compares l r = sameDimensions l r (basic boolean)

  -- what a step leaves: it looks at its left operand first, a choice at its condition
  unfoldable pub does : Deed N (Ty N) → Ran (Ty N)
  does (gives t) = ran t
  does (raised e s) = do
    p ← dimensionOf s
    m ← exactly (raise ν exact p e)
    ran (dim m)
  does (joined o l r) = doesTwo o l r
  does (chosen c l r) = do
    u ← isCondition c
    v ← alike l r
    ran l

  -- step after step, over a stack of types; the left operand is the deepest, so it is the one that is missing
  unfoldable pub run_from : List (Ty N) → List (LineStep N) → Ran (List (Ty N))
  run_from st [] = ran st
  run_from st (s ∷ ss) = orFault missing (takes s st) >>= λ d. does d.0 >>= λ t. run_from (t ∷ d.1) ss

  -- the types that are left at the end
  unfoldable pub runLine : List (LineStep N) → Ran (List (Ty N))
  runLine ss = run_from [] ss
