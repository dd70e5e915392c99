-- What is promised of lines, on the words of a call. The words stand in Claims, the proofs in the other files.
use Rattle.std.specs.Prelude.{◌≡◌, true, ◌⊎◌, List, [], ℕ, length}
use Rattle.rules.specs.Base.{got, bounded, all}
use Rattle.rules.specs.Trees.{Names, Ty, Con, Binding}
use Rattle.rules.specs.Names.{Table, table_of, numbersOf, is_held, tableGiven}
use Rattle.rules.specs.Judging.{judge}
use Rattle.rules.specs.Meaning.{Solves}
use Rattle.rules.specs.Calls.{differ, Written}
use Rattle.rules.specs.Offices.{ReadAlike, NumbersAlike, LentAlike, WrittenAlike}
use Rattle.laws.proofs.NameTable.{given-good}
use Rattle.theorems_soundness.specs.Claims.{YesOrLimits}
use Rattle.rules.specs.Steps.{LineStep, lineGiven}
use Rattle.rules.specs.Lines.{constraints, settledSet, fresh, lineLent, lineShort, checkLineCall}
use Rattle.rules.specs.Running.{ran, runLine}
use Rattle.theorems_lines.specs.Claims.{closedLine, RunsTo, AcceptedLine, MeetsLimit, SameOrder}
use Rattle.theorems_lines.proofs.Words as Words
use Rattle.theorems_lines.proofs.OtherNames as Other
use Rattle.theorems_lines.proofs.Answered as Answered
use Rattle.theorems_lines.proofs.Order as Order
use Rattle.theorems_lines.proofs.LinesAlike as Alike

-- ══ An accepted line ══

module _ (pool table steps types lines names result work : List ℕ) (n : ℕ)
    (accepts : (checkLineCall pool table steps types lines names result work).answer ≡ got n) where
  abbrev ν : Names ℕ
  ν = numbersOf (table_of pool table)

  -- what was read, found and written
  pub accepted-line : AcceptedLine pool table steps types lines names result work n
  accepted-line = Words.accepted-line pool table steps types lines names result work n accepts

  abbrev set : List (Con ℕ)
  set = constraints ν names [] accepted-line.ss

  -- (a) with closed references it runs to its end: no fault is met, one type is left, and it means the same as the answer
  pub runs-to-its-end : closedLine accepted-line.ss ≡ true → RunsTo ν accepted-line.ss accepted-line.type
  runs-to-its-end = accepted-line.runs

  -- (b) the judge said yes, and so its set is solved in the sense of soundness
  pub judged-yes : judge ν bounded accepted-line.bs accepted-line.ns set ≡ got true
  judged-yes = accepted-line.says-yes

  pub solved : Solves ν set accepted-line.bs accepted-line.ns
  solved = accepted-line.solved

-- ══ The lent names ══

-- (c) with closed references: two lists of lent names, as long as one another, fresh and held, whatever their bytes and their order, have the same
-- outcome, answer and buffers, or one of the two calls is refused with 7 or 8
module _ (pool table steps types lines result work : List ℕ) (given : tableGiven pool table ≡ got tt)
    (ss : List (LineStep ℕ)) (read : lineGiven (table_of pool table) steps types lines ≡ got ss) (closed : closedLine ss ≡ true) where
  abbrev t : Table
  t = table_of pool table

  abbrev lending : List ℕ → Written
  lending names = checkLineCall pool table steps types lines names result work

  pub lent-names : (names names' : List ℕ) → length names ≡ length names' → fresh names ss ≡ true → fresh names' ss ≡ true
      → all (is_held t) names ≡ true → all (is_held t) names' ≡ true
      → (lending names ≡ lending names') ⊎ (MeetsLimit (lending names) ⊎ MeetsLimit (lending names'))
  lent-names names names' long new new' known known' =
      Other.lent-names pool table steps types lines result work ss read names names' long new new' known known' given closed

  -- 11 needs an open reference: where the solver accepts the set of a closed line, the judge says yes, or meets 7 or 8
  pub never-no : (names : List ℕ) → differ names ≡ true → all (is_held t) names ≡ true
      → (found : List (Binding ℕ) × List ℕ) → settledSet (numbersOf t) (constraints (numbersOf t) names [] ss) ≡ got found
      → YesOrLimits (judge (numbersOf t) bounded found.0 found.1 (constraints (numbersOf t) names [] ss))
  never-no names apart known = Other.never-no pool table steps types lines names given ss read closed apart known

-- ══ A line that runs ══

-- the other way: a line whose references are closed, which passes the checks at entry and runs to its end, is answered, or refused with 7 or 8. So
-- of such lines none is refused that would run except for 7 and 8, and by (a) none is answered that would not
module _ (pool table steps types lines names result work : List ℕ) (given : tableGiven pool table ≡ got tt)
    (ss : List (LineStep ℕ)) (read : lineGiven (table_of pool table) steps types lines ≡ got ss) (closed : closedLine ss ≡ true) where
  pub answered-if-it-runs : fresh names ss ≡ true → all (is_held (table_of pool table)) names ≡ true
      → (u w : Unit {0}) → lineLent pool table steps names result work ≡ got u → lineShort steps types lines names ≡ got w
      → (left : List (Ty ℕ)) → runLine (numbersOf (table_of pool table)) ss ≡ ran left
      → ((n : ℕ) × ((checkLineCall pool table steps types lines names result work).answer ≡ got n))
      ⊎ MeetsLimit (checkLineCall pool table steps types lines names result work)
  answered-if-it-runs new known = Answered.answered pool table steps types lines names result work given ss read closed new known

-- ══ All names ══

module _ (pool table pool' table' : List ℕ) (given : tableGiven pool table ≡ got tt) (given' : tableGiven pool' table' ≡ got tt) where
  abbrev T : Table
  T = table_of pool table

  abbrev T' : Table
  T' = table_of pool' table'

  -- (c) two tables with as many names, each two of which stand in the same order: the same outcome, whatever the names are
  pub order-alone : SameOrder T T' → (steps types lines names result work : List ℕ)
      → checkLineCall pool table steps types lines names result work ≡ checkLineCall pool' table' steps types lines names result work
  order-alone = Order.order-alone pool table pool' table' given given'

  -- types and lent names that read alike are answered alike, whatever their numbers are
  pub line-alike : (steps types types' lines names names' result result' work work' : List ℕ)
      → ReadAlike T T' types types' → NumbersAlike T T' names names' → LentAlike result result' work work'
      → WrittenAlike T T' (checkLineCall pool table steps types lines names result work) (checkLineCall pool' table' steps types' lines names' result' work')
  line-alike = Alike.line-alike (given-good given) (given-good given')
