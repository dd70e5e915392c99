-- The answer of the second engine with its two buffers.
use Rattle.std.specs.Prelude.{◌≡◌, List, ℕ, Result, Ok, Err}
use Rattle.rules.specs.Base.{Got}
use Rattle.rules.specs.Calls.{resultAfter}
use Rattle.rules.specs.Refusals.{number_of}
use Rattle.rules.specs.declared.Refusal.{Refusal}
use Rattle.rules.specs.declared.Refusal.TheVariants as refusal
use Rattle.rules.specs.Elimination.{Settled, Eliminated, allBound, someLeft, refusedWith, Elimination, eliminatedOf, eliminatedWords}
use Rattle.engine.specs.declared.Eliminated as code
use Rattle.engine.specs.declared.Eliminated.TheVariants.{Bound, Left}

-- what a call of the engine answers
abbrev pub Answer : Type 0
Answer = Result code.Eliminated Refusal

abbrev pub toldEliminated : Answer → Eliminated
toldEliminated (Ok (Bound n)) = allBound n
toldEliminated (Ok (Left n)) = someLeft n
toldEliminated (Err r) = refusedWith (number_of r)

-- its number: 0 where the set is solved, 5 where constraints remain
abbrev pub numberEliminated : Answer → ℕ
numberEliminated (Ok (Bound n)) = 0
numberEliminated (Ok (Left n)) = number_of refusal.Unsolved
numberEliminated (Err r) = number_of r

-- the answer, and what the result and the work buffer hold then
abbrev pub eliminationAs : Answer → List ℕ → List ℕ → Elimination
eliminationAs o result work = record { answer = toldEliminated o; result = result; work = work }

-- this is what was answered, and the result buffer holds it
pub record Answered (a : Got (Settled ℕ)) (result result' : List ℕ) (o : Answer) : Type 0 where
  pub answer : toldEliminated o ≡ eliminatedOf a
  pub buffer : result' ≡ resultAfter (eliminatedWords a) result
