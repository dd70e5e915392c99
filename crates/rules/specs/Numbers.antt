-- The number of every outcome of every public call, 0 where it answers.
use Rattle.std.specs.Prelude.{Bool}
use Prim.Native.Nat.{ℕ, Ordering}
use Rattle.rules.specs.Base.{Got, got, refused}
use Rattle.rules.specs.Exponents.{Exp}
use Rattle.rules.specs.Trees.{Product}
use Rattle.rules.specs.Names.{Bytes, Entered}
use Rattle.rules.specs.Calls.{Written, Listed, AddedTo, Solved, solved, unsolved, refusedAfter, Solution, Judged}
use Rattle.rules.specs.Batches.{Batch}
use Rattle.rules.specs.Ceiling.{Ceiling}
use Rattle.rules.specs.Rescue.{Rescued}
use Rattle.rules.specs.Compaction.{Compacted}
use Rattle.rules.specs.Elimination.{Eliminated, allBound, someLeft, refusedWith, Elimination}
use Rattle.rules.specs.TextReading.{ReadAnswer, wasRead, notRead, TextRead}

-- what the calls come to, by the kind of their answer
pub data Outcome : Type 0 where
  compared : Ordering → Outcome
  checked : Got (Unit {0}) → Outcome
  named : Got Bytes → Outcome
  entered : Entered → Outcome
  power : Got Exp → Outcome
  product : Got (Product ℕ) → Outcome
  said : Got Bool → Outcome
  listed : Listed → Outcome
  added : AddedTo → Outcome
  written : Written → Outcome
  -- of solving, and of the call that confirms
  solution : Solution → Outcome
  judged : Judged → Outcome
  most : Got Ceiling → Outcome
  batch : Batch → Outcome
  rescued : Rescued → Outcome
  compacted : Compacted → Outcome
  eliminated : Elimination → Outcome
  textRead : TextRead → Outcome

unfoldable pub refusalIn : {A : Type 0} → Got A → ℕ
refusalIn (got a) = 0
refusalIn (refused n) = n

-- 'no rule applies and a constraint remains': 5. Of the call that confirms, 11 is one of the refusals
unfoldable pub refusalOf : Solved → ℕ
refusalOf (solved bindings bounds k) = 0
refusalOf (unsolved left k) = 5
refusalOf (refusedAfter n k) = n

unfoldable pub refusalEliminated : Eliminated → ℕ
refusalEliminated (allBound n) = 0
refusalEliminated (someLeft n) = 5
refusalEliminated (refusedWith n) = n

unfoldable pub refusalRead : ReadAnswer → ℕ
refusalRead (wasRead n c f) = 0
refusalRead (notRead n l c) = n

unfoldable pub number : Outcome → ℕ
unfolding refusalIn refusalOf refusalEliminated refusalRead
number (compared o) = 0
number (checked g) = refusalIn g
number (named g) = refusalIn g
number (entered e) = refusalIn e.answer
number (power g) = refusalIn g
number (product g) = refusalIn g
number (said g) = refusalIn g
number (listed l) = refusalIn l.answer
number (added a) = refusalIn a.answer
number (written w) = refusalIn w.answer
number (solution s) = refusalOf s.answer
number (judged j) = refusalIn j.answer
number (most g) = refusalIn g
number (batch b) = refusalIn b.answer
number (rescued r) = refusalIn r.answer
number (compacted c) = refusalIn c.answer
number (eliminated e) = refusalEliminated e.answer
number (textRead r) = refusalRead r.answer
