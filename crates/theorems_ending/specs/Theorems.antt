-- Solving ends, and a ceiling on its rounds: for every set that is solved, refused sets included. The functions of src promise these statements; the
-- words stand in Counted and in rules' Ceiling, the proofs in proofs/.
use Rattle.std.specs.Prelude.{◌≡◌, List, ℕ, ◌+◌, ◌*◌, ◌≤◌, ◌<◌, length}
use Rattle.rules.specs.Base.{Got, got, refused, bounded}
use Rattle.rules.specs.Trees.{Names, Con, Binding}
use Rattle.rules.specs.Names.{table_of, numbersOf, is_held}
use Rattle.rules.specs.Solving.{accepted, stopped, run, enough, solve}
use Rattle.rules.specs.Calls.{Solved, refusedAfter, setGiven, solveCall}
use Rattle.rules.specs.Ceiling.{variablesOf, ceilingOf, Ceiling, ceilingCall}
use Rattle.laws.specs.NameTable.{Good}
use Rattle.laws.specs.ReadLists.{Words}
use Rattle.theorems_ending.specs.Counted.{roundsOf, bindingRounds, roundsIn, Admitted, start}

-- ══ A well formed set of at most 2,048 records, over a well formed table ══

module _ (pool table : List ℕ) (cs : List (Con ℕ)) where
  abbrev ν : Names ℕ
  ν = numbersOf (table_of pool table)

  -- V, the number of distinct variables
  abbrev variables : ℕ
  variables = length (variablesOf ν cs)

  pub record Ends : Type 0 where
    -- the rounds end by themselves: solving is never stopped for want of fuel, and all fuel above the ceiling gives the same answer
    pub never-out : (k : ℕ) → solve ν bounded cs ≡ stopped 0 k → ⊥
    pub all-fuel : (f : ℕ) → ceilingOf variables < f → run ν bounded f 0 (start cs) ≡ solve ν bounded cs

  pub record Rounds : Type 0 where
    -- 'the completed rounds are at most V + 6,144 x (V + 1), refused sets included'
    pub ceiling : roundsOf (solve ν bounded cs) ≤ ceilingOf variables
    -- two rounds a record are enough: the ceiling has room
    pub ceiling-sharper : roundsOf (solve ν bounded cs) ≤ variables + 4_096 * (variables + 1)
    -- 'with at most 256 names that is 1,579,264'
    pub ceiling-of-all : roundsOf (solve ν bounded cs) ≤ 1_579_264
    -- 'binding rounds alone are at most V'
    pub bindings-at-most : bindingRounds ν bounded enough (start cs) ≤ variables
    -- each binding round leaves one binding, and no other round does
    pub bindings-counted : (bs : List (Binding ℕ)) (ns : List ℕ) (k : ℕ) → solve ν bounded cs ≡ accepted bs ns k
        → length bs ≡ bindingRounds ν bounded enough (start cs)

abbrev pub SolvingEnds : Type 0
SolvingEnds = (pool table : List ℕ) → Good pool table → (cs : List (Con ℕ)) → Admitted (numbersOf (table_of pool table)) (is_held (table_of pool table)) cs
    → Ends pool table cs

abbrev pub RoundsBounded : Type 0
RoundsBounded = (pool table : List ℕ) → Good pool table → (cs : List (Con ℕ)) → Admitted (numbersOf (table_of pool table)) (is_held (table_of pool table)) cs
    → Rounds pool table cs

-- ══ The call, whatever is lent: any words of 32 bits ══

-- what the number of rounds in its answer is bounded by, and that every refusal has a number
pub record Watched (pool table set : List ℕ) (s : Solved) : Type 0 where
  pub rounds : roundsIn s ≤ 1_579_264
  pub by-variables : (cs : List (Con ℕ)) → setGiven (table_of pool table) set ≡ got cs
      → roundsIn s ≤ ceilingOf (length (variablesOf (numbersOf (table_of pool table)) cs))
  pub numbered : (k : ℕ) → s ≡ refusedAfter 0 k → ⊥

abbrev pub CallsEnd : Type 0
CallsEnd = (pool table set result work : List ℕ) → Words set → Watched pool table set (solveCall pool table set result work).answer

-- what solving answers, against what the call that gives the ceiling answers on the same words
pub record Under (pool table set : List ℕ) (c : Got Ceiling) (s : Solved) : Type 0 where
  -- the rounds that solving reports, accepted or refused, never pass the ceiling,
  pub rounds : (m : Ceiling) → c ≡ got m → roundsIn s ≤ m.rounds
  -- and its binding rounds alone never pass the number of variables
  pub binding : (m : Ceiling) → c ≡ got m → (cs : List (Con ℕ)) → setGiven (table_of pool table) set ≡ got cs
      → bindingRounds (numbersOf (table_of pool table)) bounded enough (start cs) ≤ m.variables
  -- where no ceiling is given, solving completes no round
  pub none : (n : ℕ) → c ≡ refused n → roundsIn s ≡ 0

abbrev pub CeilingHolds : Type 0
CeilingHolds = (pool table set result work : List ℕ) → Words set
    → Under pool table set (ceilingCall pool table set) (solveCall pool table set result work).answer
