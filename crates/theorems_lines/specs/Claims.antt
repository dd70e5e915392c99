-- The words of the theorems: an accepted line, and a run to its end.
use Rattle.std.specs.Prelude.{◌≡◌, Bool, true, List, [], ◌∷◌, ◌⊎◌, ℕ, length}
use Rattle.std.proofs.Math.Option.{some}
use Rattle.rules.specs.Base.{got, refused, bounded, all}
use Rattle.rules.specs.Trees.{Names, Ty, Binding}
use Rattle.rules.specs.Contents.{closed}
use Rattle.rules.specs.Replacing.{replaceTy, bindings}
use Rattle.rules.specs.Solving.{accepted, solve}
use Rattle.rules.specs.Meaning.{means, Solves}
use Rattle.rules.specs.Judging.{judge}
use Rattle.rules.specs.Names.{Table, table_of, numbersOf}
use Rattle.rules.specs.Writing.{words, writeTy}
use Rattle.rules.specs.Calls.{over, Written}
use Rattle.rules.specs.Steps.{LineStep, constant, reference, raises, joins, chooses, lineGiven}
use Rattle.rules.specs.Lines.{its, constraints, last_of, checkLineCall}
use Rattle.rules.specs.Running.{ran, runLine}

module _ {N : Type 0} where
  -- 'a line whose references have closed types'
  abbrev pub closed_step : LineStep N → Bool
  closed_step (constant t) = closed t
  closed_step (reference t) = closed t
  closed_step (raises e) = true
  closed_step (joins o) = true
  closed_step chooses = true

  unfoldable pub closedLine : List (LineStep N) → Bool
  closedLine ss = all closed_step ss

-- the run meets no fault, one type is left, and it means the same as the given one
pub record RunsTo {N : Type 0} (ν : Names N) (ss : List (LineStep N)) (type : Ty N) : Type 0 where
  pub left : Ty N
  pub ends : runLine ν ss ≡ ran (left ∷ [])
  pub same : means ν left type ≡ true

-- a line that was answered with n records: what was read, what the solver accepted, that the judge said yes, and what was written
pub record AcceptedLine (pool table steps types lines names result work : List ℕ) (n : ℕ) : Type 0 where
  pub ss : List (LineStep ℕ)
  pub read : lineGiven (table_of pool table) steps types lines ≡ got ss
  pub bs : List (Binding ℕ)
  pub ns : List ℕ
  pub rounds : ℕ
  pub accepts : solve (numbersOf (table_of pool table)) bounded (constraints (numbersOf (table_of pool table)) names [] ss) ≡ accepted bs ns rounds
  pub says-yes : judge (numbersOf (table_of pool table)) bounded bs ns (constraints (numbersOf (table_of pool table)) names [] ss) ≡ got true
  -- soundness: with the bindings put in, every constraint of the line is true, without any premise
  pub solved : Solves (numbersOf (table_of pool table)) (constraints (numbersOf (table_of pool table)) names [] ss) bs ns
  -- the answer is the type of the last step's variable with the bindings put in
  pub last : ℕ
  pub last_step : last_of names ss ≡ some last
  pub type : Ty ℕ
  pub put-in : replaceTy (numbersOf (table_of pool table)) bounded (bindings (numbersOf (table_of pool table)) bs) (its last) ≡ got type
  pub records : length (writeTy type) ≡ n
  pub written : (checkLineCall pool table steps types lines names result work).result ≡ over (words (writeTy type)) result
  -- and where the references are closed, the line runs to its end
  pub runs : closedLine ss ≡ true → RunsTo (numbersOf (table_of pool table)) ss type

-- the call is refused with 7 or 8
abbrev pub MeetsLimit : Written → Type 0
MeetsLimit w = (w.answer ≡ refused 7) ⊎ (w.answer ≡ refused 8)

-- as many names, of which each two stand in the same order
pub record SameOrder (t t' : Table) : Type 0 where
  pub as_many : t.count ≡ t'.count
  pub order : (i j : ℕ) → (numbersOf t).order i j ≡ (numbersOf t').order i j
