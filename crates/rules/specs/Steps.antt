-- The steps of a calculation line in postfix order, and what makes a line well formed.
use Rattle.std.specs.Prelude.{Bool, true, false, ◌&&◌, List, [], ◌∷◌, ℕ, zero, suc, ◌-◌, eqb, leb}
use Rattle.std.proofs.Math.Option.{Option, none, some}
use Rattle.rules.specs.Base.{Got, got, ◌>>=◌, ◌>>◌, need, orRefuse, all, each}
use Rattle.rules.specs.Exponents.{Exp, frac, goodExp}
use Rattle.rules.specs.Trees.{Ty}
use Rattle.rules.specs.Contents.{closed}
use Rattle.rules.specs.Names.{Table}
use Rattle.rules.specs.Writing.{Rec, signed}
use Rattle.rules.specs.Reading.{records}
use Rattle.rules.specs.Calls.{type_at}

-- what is done with two operands
pub data Two : Type 0 where
  adds subtracts multiplies divides compares : Two

-- 'a constant with a closed type, a reference to an earlier line, add, subtract, multiply, divide, raise to a fixed fraction, compare, choose
-- by a condition'; a constant and a reference with their types
pub data LineStep (N : Type 0) : Type 0 where
  constant : Ty N → LineStep N
  reference : Ty N → LineStep N
  raises : Exp → LineStep N
  joins : Two → LineStep N
  chooses : LineStep N

-- ══ Operands ══

-- what a step does with its operands, the left one first; a choice has the condition, then the two arms
pub data Deed (N A : Type 0) : Type 0 where
  gives : Ty N → Deed N A
  raised : Exp → A → Deed N A
  joined : Two → A → A → Deed N A
  chosen : A → A → A → Deed N A

module _ {N : Type 0} where
  -- how many operands a step takes
  abbrev pub operands : LineStep N → ℕ
  operands (constant t) = 0
  operands (reference t) = 0
  operands (raises e) = 1
  operands (joins o) = 2
  operands chooses = 3

  -- a step takes its operands from the top of a stack, where the right one stands; none: an operand is missing
  unfoldable pub takes : {A : Type 0} → LineStep N → List A → Option (Deed N A × List A)
  takes (constant t) st = some (gives t, st)
  takes (reference t) st = some (gives t, st)
  takes (raises e) [] = none
  takes (raises e) (a ∷ st) = some (raised e a, st)
  takes (joins o) [] = none
  takes (joins o) (r ∷ []) = none
  takes (joins o) (r ∷ l ∷ st) = some (joined o l r, st)
  takes chooses [] = none
  takes chooses (r ∷ []) = none
  takes chooses (r ∷ l ∷ []) = none
  takes chooses (r ∷ l ∷ c ∷ st) = some (chosen c l r, st)

  -- 'a missing operand or an end with other than one type (an empty line too)': each step takes its operands and leaves one type. The number is
  -- how many types there are
  unfoldable pub whole : ℕ → List (LineStep N) → Bool
  whole n [] = eqb n 1
  whole n (s ∷ ss) = leb (operands s) n && whole (suc (n - operands s)) ss

-- ══ Steps in words ══

-- 'postfix records of 16 bytes': step, a, b, c. They are no records of the rules
pub data StepWords : Type 0 where
  four : ℕ → ℕ → ℕ → ℕ → StepWords

unfoldable pub stepWords : List ℕ → Option (List StepWords)
stepWords [] = some []
stepWords (k ∷ []) = none
stepWords (k ∷ a ∷ []) = none
stepWords (k ∷ a ∷ b ∷ []) = none
stepWords (k ∷ a ∷ b ∷ c ∷ ws) = elim (stepWords ws) [ none ↦ none | some ss ↦ some (four k a b c ∷ ss) ]

-- a step by its number
pub data StepKind : Type 0 where
  isConstant isReference isRaise isChoose : StepKind
  isTwo : Two → StepKind

abbrev pub stepNumbers : List (ℕ × StepKind)
stepNumbers =
    (1, isConstant)
    ∷ (2, isReference)
    ∷ (3, isTwo adds)
    ∷ (4, isTwo subtracts)
    ∷ (5, isTwo multiplies)
    ∷ (6, isTwo divides)
    ∷ (7, isRaise)
    ∷ (8, isTwo compares)
    ∷ (9, isChoose)
    ∷ []

unfoldable pub stepKind : ℕ → List (ℕ × StepKind) → Option StepKind
stepKind k [] = none
stepKind k (x ∷ xs) = elim (eqb k x.0) [ true ↦ some x.1 | false ↦ stepKind k xs ]

-- words that a step doesn't use are 0, 'else it is an unknown step'
unfoldable pub zeros : List ℕ → Got (Unit {0})
zeros ws = need (all (λ w. eqb w 0) ws) 1

-- the number at a place of a list
unfoldable pub number_at : List ℕ → ℕ → Option ℕ
number_at [] i = none
number_at (n ∷ ns) zero = some n
number_at (n ∷ ns) (suc i) = number_at ns i

-- over a table, the record list in which types stand, and the places of the earlier lines' types in it
module _ (t : Table) (rs : List Rec) (lines : List ℕ) where
  -- 'a constant whose type isn't closed': 1
  unfoldable pub constantAt : ℕ → Got (LineStep ℕ)
  constantAt place = do
    ty ← type_at t rs place
    need (closed ty) 1
    got (constant ty)

  -- 'an unknown .. reference': 1
  unfoldable pub referenceTo : ℕ → Got (LineStep ℕ)
  referenceTo i = do
    place ← orRefuse 1 (number_at lines i)
    ty ← type_at t rs place
    got (reference ty)

  -- 'a fraction that isn't an exponent of 01 (zero is good)': 1
  unfoldable pub raiseBy : Exp → Got (LineStep ℕ)
  raiseBy e = need (goodExp e) 1 >> got (raises e)

  unfoldable pub step_of : StepKind → ℕ → ℕ → ℕ → Got (LineStep ℕ)
  step_of isConstant a b c = zeros (b ∷ c ∷ []) >> constantAt a
  step_of isReference a b c = zeros (b ∷ c ∷ []) >> referenceTo a
  step_of isRaise a b c = zeros (a ∷ []) >> raiseBy (frac (signed b) c)
  step_of isChoose a b c = zeros (a ∷ b ∷ c ∷ []) >> got chooses
  step_of (isTwo o) a b c = zeros (a ∷ b ∷ c ∷ []) >> got (joins o)

  -- 'an unknown step': 1
  unfoldable pub stepGiven : StepWords → Got (LineStep ℕ)
  stepGiven (four k a b c) = do
    kind ← orRefuse 1 (stepKind k stepNumbers)
    step_of kind a b c

-- a line and the types that its steps point to; types that no step points to are not looked at
unfoldable pub lineGiven : Table → List ℕ → List ℕ → List ℕ → Got (List (LineStep ℕ))
lineGiven t steps types lines = do
  ws ← orRefuse 1 (stepWords steps)
  rs ← orRefuse 1 (records types)
  ss ← each (stepGiven t rs lines) ws
  need (whole 0 ss) 1
  got ss
