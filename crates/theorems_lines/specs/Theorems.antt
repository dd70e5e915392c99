-- What is promised of calculation lines, on the words of a call. The functions of src promise these statements; the words stand in Claims and in
-- rules' Lines, Running and Offices, the proofs in proofs/.
use Rattle.std.specs.Prelude.{◌≡◌, true, ◌⊎◌, List, [], ℕ, length}
use Rattle.rules.specs.Base.{got, bounded, all}
use Rattle.rules.specs.Trees.{Ty, Binding}
use Rattle.rules.specs.Names.{Table, table_of, numbersOf, is_held, tableGiven}
use Rattle.rules.specs.Judging.{judge}
use Rattle.rules.specs.Calls.{differ, Written}
use Rattle.rules.specs.Offices.{ReadAlike, NumbersAlike, LentAlike, WrittenAlike}
use Rattle.rules.specs.Steps.{LineStep, lineGiven}
use Rattle.rules.specs.Lines.{constraints, settledSet, fresh, lineLent, lineShort, checkLineCall}
use Rattle.rules.specs.Running.{ran, runLine}
use Rattle.theorems_soundness.specs.Claims.{YesOrLimits}
use Rattle.theorems_lines.specs.Claims.{closedLine, AcceptedLine, MeetsLimit, SameOrder}

-- a line that is answered: what was read and found; the judge said yes, so its set is solved; with closed references it runs to its end, and what
-- is left means the same as the answer
abbrev pub AnsweredIsSound : Type 0
AnsweredIsSound = (pool table steps types lines names result work : List ℕ) (n : ℕ)
    → (checkLineCall pool table steps types lines names result work).answer ≡ got n
    → AcceptedLine pool table steps types lines names result work n

-- a line that was read, with closed references, over a well formed table
module _ (pool table steps types lines result work : List ℕ) (ss : List (LineStep ℕ)) where
  abbrev t : Table
  t = table_of pool table

  abbrev lending : List ℕ → Written
  lending names = checkLineCall pool table steps types lines names result work

  pub record ClosedLine : Type 0 where
    -- two lists of lent names, as long as one another, fresh and held, whatever their bytes and their order, have the same outcome, answer and
    -- buffers, or one of the two calls is refused with 7 or 8
    pub lent-names : (names names' : List ℕ) → length names ≡ length names' → fresh names ss ≡ true → fresh names' ss ≡ true
        → all (is_held t) names ≡ true → all (is_held t) names' ≡ true
        → (lending names ≡ lending names') ⊎ (MeetsLimit (lending names) ⊎ MeetsLimit (lending names'))
    -- 11 needs an open reference: where the solver accepts the set of a closed line, the judge says yes, or meets 7 or 8
    pub never-no : (names : List ℕ) → differ names ≡ true → all (is_held t) names ≡ true
        → (found : List (Binding ℕ) × List ℕ) → settledSet (numbersOf t) (constraints (numbersOf t) names [] ss) ≡ got found
        → YesOrLimits (judge (numbersOf t) bounded found.0 found.1 (constraints (numbersOf t) names [] ss))
    -- and the other way: one that passes the checks at entry and runs to its end is answered, or refused with 7 or 8. So none is refused that
    -- would run, except for 7 and 8, and none is answered that would not
    pub answered-if-it-runs : (names : List ℕ) → fresh names ss ≡ true → all (is_held t) names ≡ true
        → (u w : Unit {0}) → lineLent pool table steps names result work ≡ got u → lineShort steps types lines names ≡ got w
        → (left : List (Ty ℕ)) → runLine (numbersOf t) ss ≡ ran left
        → ((n : ℕ) × ((lending names).answer ≡ got n)) ⊎ MeetsLimit (lending names)

abbrev pub ClosedLinesRun : Type 0
ClosedLinesRun = (pool table steps types lines result work : List ℕ) → tableGiven pool table ≡ got tt
    → (ss : List (LineStep ℕ)) → lineGiven (table_of pool table) steps types lines ≡ got ss → closedLine ss ≡ true
    → ClosedLine pool table steps types lines result work ss

-- two tables with as many names, each two of which stand in the same order: the same outcome, whatever the names are
abbrev pub OrderAlone : Type 0
OrderAlone = (pool table pool' table' : List ℕ) → tableGiven pool table ≡ got tt → tableGiven pool' table' ≡ got tt
    → SameOrder (table_of pool table) (table_of pool' table') → (steps types lines names result work : List ℕ)
    → checkLineCall pool table steps types lines names result work ≡ checkLineCall pool' table' steps types lines names result work

-- types and lent names that read alike are answered alike, whatever their numbers are
abbrev pub LineAlike : Type 0
LineAlike = (pool table pool' table' : List ℕ) → tableGiven pool table ≡ got tt → tableGiven pool' table' ≡ got tt
    → (steps types types' lines names names' result result' work work' : List ℕ)
    → ReadAlike (table_of pool table) (table_of pool' table') types types' → NumbersAlike (table_of pool table) (table_of pool' table') names names'
    → LentAlike result result' work work'
    → WrittenAlike (table_of pool table) (table_of pool' table')
    (checkLineCall pool table steps types lines names result work) (checkLineCall pool' table' steps types' lines names' result' work')
