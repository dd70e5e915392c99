-- Choices of dimensions for the variables, and when a choice makes a constraint true. Nothing of the solver and nothing
-- of replacing is used.
use Rattle.std.specs.Prelude.{◌≡◌, refl, Bool, true, false, not, ◌&&◌, ℕ, zero, suc, leb, eqb, pos, negsuc, nat_abs}
use mathlib.Core.List.{List, [], ◌∷◌, ◌++◌, Memᴰ}
use Rattle.std.proofs.Math.Option.{Option, none, some, get_or}
use Rattle.std.proofs.Math.Decide.{ℕ_discrete}
use Rattle.rules.specs.Base.{is_yes, all, is_none}
use Rattle.rules.specs.Exponents.{Exp, frac, nought, one, gcdIn, gcd, lowest, plus, mul}
use Rattle.rules.specs.Trees.{
  var,
  quant,
  par,
  Atom,
  free,
  base,
  ◌↑◌,
  Product,
  Ty,
  opened,
  basic,
  boolean,
  dim,
  fn,
  struct,
  list,
  Con,
  equal,
  isDim,
  is_scalar,
  hasField,
  Binding,
  ◌≔◌,
}
use Rattle.rules.specs.Views.{productOf}

-- ══ Dimensions and choices ══

-- what no choice changes. 'Parameters and base dimensions being held as independent': of one name they are two things
pub data Fixed (N : Type 0) : Type 0 where
  parameter : N → Fixed N
  baseDimension : N → Fixed N
  deriving Discrete as Fixed-discrete

-- one of them with its power
infix 80 ◌to◌
pub data Part (N : Type 0) : Type 0 where
  ◌to◌ : Fixed N → Exp → Part N

-- 'a dimension': finitely many parameters and base dimensions with their powers; what is listed twice has the sum of both powers
abbrev pub Dimension : Type 0 → Type 0
Dimension N = List (Part N)

-- 'rational powers': 'a pair of whole numbers of any size in lowest terms, denominator at least 1'
unfoldable pub rationalPart : {N : Type 0} → Part N → Bool
rationalPart (u to frac n d) = leb 1 d && eqb (gcd (nat_abs n) d) 1

-- 'a choice gives each variable a dimension'
abbrev pub Choice : Type 0 → Type 0
Choice N = N → Dimension N

-- all its powers are rational
abbrev pub Rational : {N : Type 0} → Choice N → Type 0
Rational {N} c = (x : N) → all rationalPart (c x) ≡ true

module _ {N : Type 0} (same : Discrete N) where
  -- the power of a parameter or base dimension in a dimension: 0 where it isn't listed
  unfoldable pub power : Fixed N → Dimension N → Exp
  power u [] = nought
  power u (v to e ∷ d) = elim (is_yes (Fixed-discrete same u v)) [ true ↦ plus e (power u d) | false ↦ power u d ]

  -- two dimensions are the same when 'the powers of every parameter and base dimension agree'
  abbrev pub Same : Dimension N → Dimension N → Type 0
  Same d e = (u : Fixed N) → power u d ≡ power u e

-- ══ What a product comes to under a choice ══

module _ {N : Type 0} where
  -- a dimension to the power k: powers times powers
  unfoldable pub scaled : Dimension N → Exp → Dimension N
  scaled [] k = []
  scaled (u to e ∷ d) k = u to mul e k ∷ scaled d k

  -- a variable is what was chosen for it, a parameter and a base dimension are themselves; quantified variables stand in schemes only
  unfoldable pub chosenFor : Choice N → Atom N → Dimension N
  chosenFor c (free (var x)) = c x
  chosenFor c (free (quant i)) = []
  chosenFor c (free (par a)) = parameter a to one ∷ []
  chosenFor c (base n) = baseDimension n to one ∷ []

  -- all factors' dimensions together
  unfoldable pub comesTo : Choice N → Product N → Dimension N
  comesTo c [] = []
  comesTo c (a ↑ e ∷ p) = scaled (chosenFor c a) e ++ comesTo c p

-- ══ When a choice makes constraints true ══

module _ {N : Type 0} where
  -- the constraints that it speaks of: 'equal-scalar or an equality of two dimensions'
  unfoldable pub dimensional : Con N → Bool
  dimensional (equal s t) = not (is_none (productOf s)) && not (is_none (productOf t))
  dimensional (isDim t) = false
  dimensional (is_scalar p) = true
  dimensional (hasField n s t) = false

module _ {N : Type 0} (same : Discrete N) (c : Choice N) where
  -- two sides come to the same; a side that is no dimension comes to nothing that could agree
  abbrev pub Agree : Option (Product N) → Option (Product N) → Type 0
  Agree (some p) (some q) = Same same (comesTo c p) (comesTo c q)
  Agree (some p) none = ⊥
  Agree none (some q) = ⊥
  Agree none none = ⊥

  -- an equal-scalar is true when every power comes to 0, an equality of two dimensions when both come to the same
  unfoldable pub MakesTrue : Con N → Type 0
  MakesTrue (equal s t) = Agree (productOf s) (productOf t)
  MakesTrue (isDim t) = ⊥
  MakesTrue (is_scalar p) = (u : Fixed N) → power same u (comesTo c p) ≡ nought
  MakesTrue (hasField n s t) = ⊥

  abbrev pub MakesAllTrue : List (Con N) → Type 0
  MakesAllTrue cs = (k : Con N) → Memᴰ k cs → MakesTrue k

-- a 'choice of dimensions with rational powers for the variables' that 'makes all constraints true'
pub record Choosing {N : Type 0} (same : Discrete N) (cs : List (Con N)) : Type 0 where
  pub choice : Choice N
  pub rational : Rational choice
  pub makes : MakesAllTrue same choice cs

-- ══ A choice of the open variables, and bindings ══

-- what a product comes to, where there is one
abbrev pub orChosen : {N : Type 0} → Choice N → Option (Product N) → N → Dimension N
orChosen c none x = c x
orChosen c (some p) x = comesTo c p

module _ {N : Type 0} (same : Discrete N) where
  -- 'by choosing its open variables': a bound variable gets what its bound product comes to under the choice, another what was chosen for it
  unfoldable pub completed : List (Binding N) → Choice N → Choice N
  completed [] c x = c x
  completed (y ≔ t ∷ bs) c x = elim (is_yes (same x y)) [ true ↦ orChosen c (productOf t) x | false ↦ completed bs c x ]

-- ══ Sides that are variables, and is-dimension ══

module _ {N : Type 0} where
  -- a dimension or a variable
  unfoldable pub isSide : Ty N → Bool
  isSide (opened (var x)) = true
  isSide (opened (quant i)) = false
  isSide (opened (par x)) = false
  isSide (basic b) = false
  isSide (dim p) = true
  isSide (fn ps r) = false
  isSide (struct n as' fs) = false
  isSide (list t) = false

  -- an equal-scalar, an equality of sides, an is-dimension of a side. What is `dimensional` is wide
  unfoldable pub wide : Con N → Bool
  wide (equal s t) = isSide s && isSide t
  wide (isDim t) = isSide t
  wide (is_scalar p) = true
  wide (hasField n s t) = false

  -- a variable comes to what was chosen for it, a dimension to its factors' dimensions; another type to none
  unfoldable pub sideComesTo : Choice N → Ty N → Option (Dimension N)
  sideComesTo c (opened (var x)) = some (c x)
  sideComesTo c (opened (quant i)) = none
  sideComesTo c (opened (par x)) = none
  sideComesTo c (basic b) = none
  sideComesTo c (dim p) = some (comesTo c p)
  sideComesTo c (fn ps r) = none
  sideComesTo c (struct n as' fs) = none
  sideComesTo c (list t) = none

module _ {N : Type 0} (same : Discrete N) where
  -- two sides come to the same; what comes to none agrees with nothing
  abbrev pub SidesAgree : Option (Dimension N) → Option (Dimension N) → Type 0
  SidesAgree (some d) (some e) = Same same d e
  SidesAgree (some d) none = ⊥
  SidesAgree none (some e) = ⊥
  SidesAgree none none = ⊥

  -- as `MakesTrue`, for wide constraints: is-dimension of a side is true under every choice, since a choice makes each side a dimension
  unfoldable pub MakesWideTrue : Choice N → Con N → Type 0
  MakesWideTrue c (equal s t) = SidesAgree (sideComesTo c s) (sideComesTo c t)
  MakesWideTrue c (isDim t) = isSide t ≡ true
  MakesWideTrue c (is_scalar p) = (u : Fixed N) → power same u (comesTo c p) ≡ nought
  MakesWideTrue c (hasField n s t) = ⊥

  abbrev pub MakesAllWideTrue : Choice N → List (Con N) → Type 0
  MakesAllWideTrue c cs = (k : Con N) → Memᴰ k cs → MakesWideTrue c k

  -- as `completed`: a variable that is bound to a variable gets what was chosen for that one
  unfoldable pub completedWide : List (Binding N) → Choice N → Choice N
  completedWide [] c x = c x
  completedWide (y ≔ t ∷ bs) c x = elim (is_yes (same x y)) [ true ↦ get_or (sideComesTo c t) (c x) | false ↦ completedWide bs c x ]

-- a choice that makes all of a wide set true
pub record ChoosingWide {N : Type 0} (same : Discrete N) (cs : List (Con N)) : Type 0 where
  pub choice : Choice N
  pub rational : Rational choice
  pub makes : MakesAllWideTrue same choice cs

-- ══ Some cases, computed ══

-- variables 0 and 1, parameter 7, base dimension 7. Chosen: 0 is L^(1/2) a^2 with L the base dimension and a the parameter, 1 is L^-1 L^3
some-choice : Choice ℕ
some-choice zero = baseDimension 7 to frac (pos 1) 2 ∷ parameter 7 to frac (pos 2) 1 ∷ []
some-choice (suc zero) = baseDimension 7 to frac (negsuc 0) 1 ∷ baseDimension 7 to frac (pos 3) 1 ∷ []
some-choice (suc (suc n)) = []

-- x^4 y^(1/2) a^(1/3) L
some-product : Product ℕ
some-product = free (var 0) ↑ frac (pos 4) 1 ∷ free (var 1) ↑ frac (pos 1) 2 ∷ free (par 7) ↑ frac (pos 1) 3 ∷ base 7 ↑ frac (pos 1) 1 ∷ []

-- L: 4 x 1/2 + 1/2 x 2 + 1; a: 4 x 2 + 1/3; nothing else
cases : (power ℕ_discrete (baseDimension 7) (comesTo some-choice some-product) ≡ frac (pos 4) 1)
    × (power ℕ_discrete (parameter 7) (comesTo some-choice some-product) ≡ frac (pos 25) 3)
    × (power ℕ_discrete (baseDimension 0) (comesTo some-choice some-product) ≡ nought)
unfolding ℕ_discrete power scaled chosenFor comesTo plus mul lowest gcd gcdIn some-choice some-product
cases = (refl, refl, refl)

-- 0 bound to y^2 L: completed, it is L^5, and 1 stays as chosen
completed-case : (power ℕ_discrete (baseDimension 7) (completed ℕ_discrete (0 ≔ dim (free (var 1) ↑ frac (pos 2) 1 ∷ base 7 ↑ one ∷ []) ∷ []) some-choice 0)
    ≡ frac (pos 5) 1)
    × (power ℕ_discrete (baseDimension 7) (completed ℕ_discrete (0 ≔ dim (free (var 1) ↑ frac (pos 2) 1 ∷ base 7 ↑ one ∷ []) ∷ []) some-choice 1)
    ≡ frac (pos 2) 1)
unfolding ℕ_discrete power scaled chosenFor comesTo completed plus mul lowest gcd gcdIn some-choice
completed-case = (refl, refl)

-- 2/4 and 1/0 are no rational powers
rational-cases : (rationalPart {N = ℕ} (parameter 0 to frac (pos 2) 4) ≡ false) × (rationalPart {N = ℕ} (parameter 0 to frac (pos 1) 0) ≡ false)
    × (rationalPart {N = ℕ} (parameter 0 to frac (negsuc 2) 4) ≡ true)
unfolding rationalPart gcd gcdIn
rational-cases = (refl, refl, refl)

-- which constraints are wide: y = [L] and x = y are; x = boolean is not, nor is an is-dimension of a parameter
wide-cases : (wide {N = ℕ} (equal (opened (var 1)) (dim (base 7 ↑ one ∷ []))) ≡ true) × (wide {N = ℕ} (equal (opened (var 0)) (opened (var 1))) ≡ true)
    × (wide {N = ℕ} (isDim (opened (var 0))) ≡ true) × (wide {N = ℕ} (equal (opened (var 0)) (basic boolean)) ≡ false)
    × (wide {N = ℕ} (isDim (opened (par 7))) ≡ false)
unfolding isSide wide
wide-cases = (refl, refl, refl, refl, refl)

-- 1 is chosen L^2, so 1 = [L^2] comes to 2 = 2, and 1 = [L] to 2 = 1 at the base dimension L
side-cases : (MakesWideTrue ℕ_discrete some-choice (equal (opened (var 1)) (dim (base 7 ↑ frac (pos 2) 1 ∷ [])))
    ≡ Same ℕ_discrete (some-choice 1) (comesTo some-choice (base 7 ↑ frac (pos 2) 1 ∷ [])))
    × (power ℕ_discrete (baseDimension 7) (some-choice 1) ≡ frac (pos 2) 1)
    × (power ℕ_discrete (baseDimension 7) (comesTo some-choice (base 7 ↑ frac (pos 2) 1 ∷ [])) ≡ frac (pos 2) 1)
    × (power ℕ_discrete (baseDimension 7) (comesTo some-choice (base 7 ↑ one ∷ [])) ≡ one)
unfolding ℕ_discrete power scaled chosenFor comesTo sideComesTo MakesWideTrue plus mul lowest gcd gcdIn some-choice
side-cases = (refl, refl, refl, refl)

-- 0 bound to the variable 1 gets what was chosen for 1, L^2; 2, bound to [y^2 L], gets L^5
completed-wide-case : (power ℕ_discrete (baseDimension 7) (completedWide ℕ_discrete (0 ≔ opened (var 1) ∷ []) some-choice 0) ≡ frac (pos 2) 1)
    × (power ℕ_discrete (parameter 7) (completedWide ℕ_discrete (0 ≔ opened (var 1) ∷ []) some-choice 0) ≡ nought)
    × (power ℕ_discrete (baseDimension 7)
    (completedWide ℕ_discrete (0 ≔ opened (var 1) ∷ 2 ≔ dim (free (var 1) ↑ frac (pos 2) 1 ∷ base 7 ↑ one ∷ []) ∷ []) some-choice 2) ≡ frac (pos 5) 1)
unfolding ℕ_discrete power scaled chosenFor comesTo sideComesTo completedWide plus mul lowest gcd gcdIn some-choice
completed-wide-case = (refl, refl, refl)
