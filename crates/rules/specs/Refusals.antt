-- The refusals and their numbers, of which 11 says that the judge doesn't confirm a line, or an answer of solving, and 12 that a line is outside the grammar.
-- And how the code's answers are told.
use Rattle.std.specs.Prelude.{ℕ, Result, Ok, Err, Option, None, Some}
use Rattle.std.proofs.Math.Option as may
use Rattle.rules.specs.Base.{Got, got, refused}
use Rattle.rules.specs.declared.Refusal.{Refusal}
use Rattle.rules.specs.declared.Refusal.TheVariants.{
  Malformed,
  NameLength,
  NoRoom,
  Mixed,
  Unsolved,
  NotDimension,
  OutOfRange,
  TooLarge,
  WrongCount,
  ShortBuffer,
  NotConfirmed,
  NotGrammar,
}

abbrev pub number_of : Refusal → ℕ
number_of Malformed = 1
number_of NameLength = 2
number_of NoRoom = 3
number_of Mixed = 4
number_of Unsolved = 5
number_of NotDimension = 6
number_of OutOfRange = 7
number_of TooLarge = 8
number_of WrongCount = 9
number_of ShortBuffer = 10
number_of NotConfirmed = 11
number_of NotGrammar = 12

-- what a call of the code answers
abbrev pub told : {A : Type 0} → Result A Refusal → Got A
told (Ok a) = got a
told (Err r) = refused (number_of r)

-- the same, of a value that stands for another
abbrev pub toldBy : {A B : Type 0} → (A → B) → Result A Refusal → Got B
toldBy f (Ok a) = got (f a)
toldBy f (Err r) = refused (number_of r)

-- the number of an answer: 0, or that of its refusal
abbrev pub numberAnswer : {A : Type 0} → Result A Refusal → ℕ
numberAnswer (Ok a) = 0
numberAnswer (Err r) = number_of r

-- a value that may be missing
abbrev pub toldOption : {A : Type 0} → Option A → may.Option A
toldOption None = may.none
toldOption (Some a) = may.some a

-- the same, of a value that stands for another
abbrev pub toldOptionBy : {A B : Type 0} → (A → B) → Option A → may.Option B
toldOptionBy f None = may.none
toldOptionBy f (Some a) = may.some (f a)
