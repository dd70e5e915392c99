-- The numbers of the refusals tell them apart, and an answer has the number of its outcome.
use Rattle.std.specs.Prelude.{Result, Ok, Err, Option, None, Some, ◌≡◌, refl, Bool, true, false, List, [], ◌∷◌, ℕ, ◌-◌, ◌≤◌, get_or}
use Rattle.std.specs.Int.{from_bool}
use Rattle.std.proofs.Common.{ap, arith, ◌∙◌, sym}
use Rattle.rules.specs.Base.{oneIf}
use Rattle.rules.specs.declared.Refusal.{Refusal}
use Rattle.rules.specs.declared.Refusal.TheVariants.{
  Malformed,
  NameLength,
  NoRoom,
  Mixed,
  Unsolved,
  NotDimension,
  OutOfRange,
  TooLarge,
  WrongCount,
  ShortBuffer,
  NotConfirmed,
  NotGrammar,
}
use Rattle.rules.specs.Numbers.{refusalIn}
use Rattle.rules.specs.Refusals.{number_of, numberAnswer, told, toldBy, toldOption}

-- in the order of their numbers, from 1
refusals : List Refusal
refusals = Malformed ∷ NameLength ∷ NoRoom ∷ Mixed ∷ Unsolved ∷ NotDimension ∷ OutOfRange ∷ TooLarge ∷ WrongCount ∷ ShortBuffer ∷ NotConfirmed ∷ NotGrammar ∷ []

refusalOf : ℕ → Refusal
refusalOf n = get_or refusals (n - 1) Malformed

found : (r : Refusal) → refusalOf (number_of r) ≡ r
unfolding refusalOf refusals
found Malformed = refl
found NameLength = refl
found NoRoom = refl
found Mixed = refl
found Unsolved = refl
found NotDimension = refl
found OutOfRange = refl
found TooLarge = refl
found WrongCount = refl
found ShortBuffer = refl
found NotConfirmed = refl
found NotGrammar = refl

pub number-injective : (r s : Refusal) → number_of r ≡ number_of s → r ≡ s
number-injective r s e = sym (found r) ∙ ap refusalOf e ∙ found s

-- two answers that say the same are the same, if values that stand for the same are
module _ {A B : Type 0} (f : A → B) (one : (a b : A) → f a ≡ f b → a ≡ b) where
  pub toldBy-injective : (p q : Result A Refusal) → toldBy f p ≡ toldBy f q → p ≡ q
  toldBy-injective (Ok a) (Ok b) e = ap Ok (one a b (cc))
  toldBy-injective (Ok a) (Err s) e = cc
  toldBy-injective (Err r) (Ok b) e = cc
  toldBy-injective (Err r) (Err s) e = ap Err (number-injective r s (cc))

pub told-injective : {A : Type 0} (p q : Result A Refusal) → told p ≡ told q → p ≡ q
told-injective (Ok a) (Ok b) e = ap Ok (cc)
told-injective (Ok a) (Err s) e = cc
told-injective (Err r) (Ok b) e = cc
told-injective (Err r) (Err s) e = ap Err (number-injective r s (cc))

pub toldOption-injective : {A : Type 0} (p q : Option A) → toldOption p ≡ toldOption q → p ≡ q
toldOption-injective None None e = refl
toldOption-injective None (Some b) e = cc
toldOption-injective (Some a) None e = cc
toldOption-injective (Some a) (Some b) e = ap Some (cc)

pub answer-in : {A : Type 0} (p : Result A Refusal) → numberAnswer p ≡ refusalIn (told p)
unfolding refusalIn
answer-in (Ok a) = refl
answer-in (Err r) = refl

pub answer-in-by : {A B : Type 0} (f : A → B) (p : Result A Refusal) → numberAnswer p ≡ refusalIn (toldBy f p)
unfolding refusalIn
answer-in-by f (Ok a) = refl
answer-in-by f (Err r) = refl

-- a yes as a number is what it counts: one at most
pub yes_counts : (b : Bool) {k : ℕ} → k ≡ from_bool b → k ≡ oneIf b
yes_counts true e = e
yes_counts false e = e

pub one_at_most : (b : Bool) → oneIf b ≤ 1
one_at_most true = omega arith
one_at_most false = omega arith

pub yes_at_most : (b : Bool) {k : ℕ} → k ≡ from_bool b → k ≤ 1
yes_at_most b e = rw (yes_counts b e) (one_at_most b)
