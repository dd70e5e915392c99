-- A set that came in is a state to begin with; and the whole call.
use Rattle.std.specs.Prelude.{◌≡◌, List, ℕ, length, replicate}
use Rattle.std.proofs.Common.{refl}
use Rattle.rules.specs.Base.{Got, got, refused}
use Rattle.rules.specs.Calls.{lent, resultAfter, workAfter, solvedOf, solvedWords, solvedSet, solveCall}
use Rattle.rules.specs.Names.{table_of}
use Rattle.rules.specs.Refusals.{number_of}
use Rattle.rules.specs.Solving.{Answer}
use Rattle.rules.specs.declared.Refusal.{Refusal}
use Rattle.rules.specs.declared.Refusal.TheVariants.{ShortBuffer}
use Rattle.records.specs.Found.{Words32}
use Rattle.replace.proofs.Given.{given-cons}
use Rattle.types.proofs.GivenSets.{Given}
use Rattle.types.specs.Given.{constraints_in}
use Rattle.types.specs.declared.GivenSet.{GivenSet}
use Rattle.solve.specs.declared.Solution.{Solution}
use Rattle.solve.specs.Told.{refusedAs, solutionAs, Stands, Answered, answerTo}
use Rattle.solve.specs.Running.{Begun}

-- ══ What is known of a set that came in ══

module _ (ws : List ℕ) (w : Words32 ws) (s : GivenSet) (x : Given ws s) where
  pub begun : Begun s.names.pool.now s.names.table.now ws (constraints_in s)
  begun = record {
    held = (given-cons s.names.pool.now s.names.table.now ws w (constraints_in s) x.is).0;
    sound = record { good = s.fine.good; flat = s.fine.flat };
    short = x.short;
    admitted = record { good = s.fine.good; small = s.fine.small };
  }

-- ══ The call ══

pub answers-as : (a b : Got (Answer ℕ)) (result result' : List ℕ) (s : Solution) → a ≡ b → Answered b result result' s → Answered a result result' s
answers-as a b result result' s e h = rw e h

pub refused-answers : (a : Got (Answer ℕ)) (result : List ℕ) (r : Refusal) (s : Solution) → a ≡ refused (number_of r) → s ≡ refusedAs r 0
    → Answered a result result s
unfolding solvedOf solvedWords resultAfter
refused-answers a result r s e i = record { stands = record { says = rw (e, i) (refl, refl) }; answer = rw (e, i); buffer = rw e }

module _ (pool table ws result work : List ℕ) where
  pub call-short : (s : Solution) → s ≡ refusedAs ShortBuffer 0 → lent pool table result work ≡ refused 10
      → solutionAs s result work ≡ solveCall pool table ws result work
  unfolding solveCall solvedOf solvedWords resultAfter workAfter
  call-short s i e = rw (i, e)

  pub short-stands : (s : Solution) → s ≡ refusedAs ShortBuffer 0 → lent pool table result work ≡ refused 10
      → Stands result s (answerTo pool table ws result work)
  short-stands s i e = record { says = rw (i, e) (refl, refl) }

  pub called-stands : (result' : List ℕ) (s : Solution) → lent pool table result work ≡ got tt
      → Answered (solvedSet (table_of pool table) ws) result result' s → Stands result' s (answerTo pool table ws result work)
  called-stands result' s e a = rw e a.stands

  pub called : (w result' work' : List ℕ) (s : Solution) → length w ≡ length work → lent pool table result work ≡ got tt
      → Answered (solvedSet (table_of pool table) ws) result result' s → work' ≡ replicate (length w) 0
      → solutionAs s result' work' ≡ solveCall pool table ws result work
  unfolding solveCall workAfter
  called w result' work' s n e a z = rw (e, a.answer, a.buffer, z, n)
