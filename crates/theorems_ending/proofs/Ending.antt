-- Solving ends, and a ceiling on its rounds. For every set that is solved, refused sets included.
use Rattle.std.specs.Prelude.{◌≡◌, List, ℕ, ◌+◌, ◌*◌, ◌≤◌, ◌<◌, length}
use Rattle.std.proofs.Common.{arith}
use Rattle.rules.specs.Base.{got, bounded}
use Rattle.rules.specs.Trees.{Names, Con, Binding}
use Rattle.rules.specs.Names.{table_of, numbersOf, is_held}
use Rattle.rules.specs.Solving.{accepted, stopped, run, enough, solve}
use Rattle.rules.specs.Calls.{refusedAfter, solvedOf, setGiven, solveCall}
use Rattle.rules.specs.Ceiling.{variablesOf, ceilingOf, ceilingCall}
use Rattle.laws.specs.NameTable.{Good}
use Rattle.laws.specs.ReadLists.{Words}
use Rattle.theorems_ending.specs.Counted.{roundsOf, bindingRounds, Admitted, start}
use Rattle.theorems_ending.specs.Theorems.{Watched, Under}
use Rattle.theorems_ending.proofs.Sets.{same_from, never-out, rounds-few, rounds-most, binding-most, bindings-same}
use Rattle.theorems_ending.proofs.Tables.{table-known}
use Rattle.theorems_ending.proofs.Calls.{rounds-told, stop-told, call-answers, ceiling-of, no-ceiling}

-- ══ A well formed set of at most 2,048 records, over a well formed table ══

module _ {pool table : List ℕ} (good : Good pool table) {cs : List (Con ℕ)}
    (admitted : Admitted (numbersOf (table_of pool table)) (is_held (table_of pool table)) cs) where
  abbrev ν : Names ℕ
  ν = numbersOf (table_of pool table)

  -- V, the number of distinct variables
  abbrev variables : ℕ
  variables = length (variablesOf ν cs)

  -- the rounds end by themselves: solving is never stopped for want of fuel, and all fuel above the ceiling gives the same answer
  pub ends : ((k : ℕ) → solve ν bounded cs ≡ stopped 0 k → ⊥) × ((f : ℕ) → ceilingOf variables < f → run ν bounded f 0 (start cs) ≡ solve ν bounded cs)
  ends = (never-out (table-known good) admitted, λ f h. same_from (table-known good) admitted f (omega arith))

  -- 'the completed rounds are at most V + 6,144 x (V + 1), refused sets included'
  pub ceiling : roundsOf (solve ν bounded cs) ≤ ceilingOf variables
  ceiling = omega (arith, rounds-most (table-known good) admitted)

  -- two rounds a record are enough: the ceiling has room
  pub ceiling-sharper : roundsOf (solve ν bounded cs) ≤ variables + 4_096 * (variables + 1)
  ceiling-sharper = omega (arith, rounds-most (table-known good) admitted)

  -- 'with at most 256 names that is 1,579,264'
  pub ceiling-of-all : roundsOf (solve ν bounded cs) ≤ 1_579_264
  ceiling-of-all = omega (arith, rounds-few (table-known good) admitted)

  -- 'binding rounds alone are at most V'
  pub bindings-at-most : bindingRounds ν bounded enough (start cs) ≤ variables
  bindings-at-most = binding-most (table-known good) admitted

  -- each binding round leaves one binding, and no other round does
  pub bindings-counted : (bs : List (Binding ℕ)) (ns : List ℕ) (k : ℕ) → solve ν bounded cs ≡ accepted bs ns k
      → length bs ≡ bindingRounds ν bounded enough (start cs)
  bindings-counted = bindings-same (table-known good) admitted

-- ══ The call, whatever is lent: any words of 32 bits ══

pub call_ends : (pool table set result work : List ℕ) → Words set → Watched pool table set (solveCall pool table set result work).answer
call_ends pool table set result work small = call-answers pool table set result work small (Watched pool table set) refusal every
  where
    ν : Names ℕ
    ν = numbersOf (table_of pool table)

    refusal : (n : ℕ) → 0 < n → Watched pool table set (refusedAfter n 0)
    refusal n h = record { rounds = omega arith; by-variables = λ cs e. omega arith; numbered = λ k e. let z : n ≡ 0 = cc in omega arith }

    every : Good pool table → (cs : List (Con ℕ)) → setGiven (table_of pool table) set ≡ got cs → Admitted ν (is_held (table_of pool table)) cs
        → Watched pool table set (solvedOf (got (solve ν bounded cs)))
    every good cs given admitted =
        let told = rounds-told (solve ν bounded cs) in
        record {
          rounds = rw told (ceiling-of-all good admitted);
          by-variables = λ ds e. let same : cs ≡ ds = cc in rw (told, ← same) (ceiling good admitted);
          numbered = λ k e. (ends good admitted).0 k (stop-told (solve ν bounded cs) 0 k e);
        }

-- ══ The call that gives the ceiling, on the same words ══

pub call-ceiling : (pool table set result work : List ℕ) → Words set
    → Under pool table set (ceilingCall pool table set) (solveCall pool table set result work).answer
call-ceiling pool table set result work small = record {
  rounds = λ m e. let g = ceiling-of pool table set small m e in rw g.is ((call_ends pool table set result work small).by-variables g.cons g.given);
  binding = λ m e cs i. let g = ceiling-of pool table set small m e in let same : g.cons ≡ cs = cc g.given
      in rw (g.is, ← same) (bindings-at-most g.good g.admitted);
  none = no-ceiling pool table set result work;
}
