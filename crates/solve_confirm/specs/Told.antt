-- The answer of solving and the judge's verdict on it as one answer.
use Rattle.std.specs.Prelude as std
use Rattle.std.specs.Prelude.{Result, ◌≡◌, Bool, true, false, List, ℕ, is_none}
use Rattle.rules.specs.Base.{Got, got, refused}
use Rattle.rules.specs.Calls.{setGiven, Solved, solved, unsolved, refusedAfter, solvedSet}
use Rattle.rules.specs.Names.{table_of}
use Rattle.rules.specs.Refusals.{toldBy, toldOption}
use Rattle.rules.specs.Trees.{Con}
use Rattle.rules.specs.declared.Refusal.{Refusal}
use Rattle.records.specs.Good.{numbers}
use Rattle.names.specs.declared.tables.NameTable.{NameTable}
use Rattle.judge.specs.Found.{JudgedAs, PlacedAs}

-- what the verdict makes of an accepted answer: it stands on a yes, is 11 on a no, and is refused as the judge refuses
abbrev pub judgedBy : Got Bool → ℕ → ℕ → ℕ → Solved
judgedBy (got true) b n k = solved b n k
judgedBy (got false) b n k = refusedAfter 11 k
judgedBy (refused i) b n k = refusedAfter i k

-- every other answer stays, whatever the verdict is
abbrev pub ruledBy : Got Bool → Solved → Solved
ruledBy v (solved b n k) = judgedBy v b n k
ruledBy v (unsolved r k) = unsolved r k
ruledBy v (refusedAfter i k) = refusedAfter i k

-- over a table the verdict on an accepted answer is the judge's, and the place that is told with a no is that of the first constraint that isn't true
pub record VerdictBy (pool table set : List ℕ) (r : Result (std.Option ℕ) Refusal) : Type 0 where
  pub judged : (cs : List (Con ℕ)) → setGiven (table_of pool table) set ≡ got cs
      → JudgedAs (numbers pool table) cs (solvedSet (table_of pool table) set) (toldBy is_none r)
  pub placed : (cs : List (Con ℕ)) → setGiven (table_of pool table) set ≡ got cs
      → PlacedAs (numbers pool table) cs (solvedSet (table_of pool table) set) (toldBy toldOption r)

abbrev pub VerdictOn : NameTable → List ℕ → Result (std.Option ℕ) Refusal → Type 0
VerdictOn names set r = VerdictBy names.pool.now names.table.now set r
