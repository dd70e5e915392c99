-- The checks of the judge at entry, and what is known where they are met.
use Rattle.std.specs.Prelude.{Result, Ok, Err, Option, Some, None, ◌≡◌, Bool, ℕ, ◌/◌, ◌%◌, ◌≤◌}
use Rattle.std.specs.Prelude.{List, [], ◌∷◌, ◌++◌, length}
use Rattle.rules.specs.Base.{Got, got, refused, ◌>>=◌, ◌>>◌, bounded, collect}
use Rattle.rules.specs.Calls.{Entry, shortLists, shortNumbers, setGiven, boundsGiven, risingBounds, entriesGiven, apart, opensBinding, lentWork, judgedSet}
use Rattle.rules.specs.Judging.{judge}
use Rattle.rules.specs.Names.{Table, table_of, numbersOf, lentTable}
use Rattle.rules.specs.Reading.{readBound}
use Rattle.rules.specs.Refusals.{number_of}
use Rattle.rules.specs.Trees.{Open, Con, opensCon}
use Rattle.rules.specs.declared.Refusal.{Refusal}
use Rattle.laws.specs.NameTable.{Good}
use Rattle.names.specs.declared.tables.NameTable.{NameTable}
use Rattle.records.specs.Good.{Chain, GoodBound, goodOpen}
use Rattle.records.specs.Given.{list-yes}
use Rattle.records.specs.Schemes.{bound-reader}
use Rattle.queries.specs.declared.name_set.NameSet.{NameSet}
use Rattle.queries.specs.Marks.{Has}
use Rattle.types.specs.Given.{over_table}

-- 10
abbrev pub lentAll : List ℕ → List ℕ → List ℕ → Got (Unit {0})
lentAll pool table work = lentTable pool table >> lentWork work

-- 8; then the set over a table that was tested before
abbrev pub entered : Result NameTable Refusal → List ℕ → List Entry → List ℕ → List ℕ → Got (List (Con ℕ))
entered names set es types bounds = (shortLists (set ∷ types ∷ bounds ∷ []) >> shortNumbers es) >> over_table names (λ t. setGiven t set)

-- what is judged over such a table; and where the table was refused, 8 and then its refusal
abbrev pub judged_over : Result NameTable Refusal → List ℕ → List Entry → List ℕ → List ℕ → Got Bool
judged_over (Ok n) set es types bounds = judgedSet (table_of n.pool.now n.table.now) set es types bounds
judged_over (Err why) set es types bounds = (shortLists (set ∷ types ∷ bounds ∷ []) >> shortNumbers es) >> refused (number_of why)

-- what is judged past that
abbrev pub judgedPast : Table → List Entry → List ℕ → List ℕ → List (Con ℕ) → Got Bool
judgedPast t es types bounds cs =
    entriesGiven t es types >>= λ bs. risingBounds t bounds >>= λ ns. apart t (collect opensCon cs ++ collect opensBinding bs)
    >> judge (numbersOf t) bounded bs ns cs

module _ (pool table : List ℕ) where
  abbrev pub judgedRest : List Entry → List ℕ → List ℕ → List (Con ℕ) → Got Bool
  judgedRest es types bounds cs = judgedPast (table_of pool table) es types bounds cs

  pub record Entered (set types : List ℕ) (cs : List (Con ℕ)) : Type 0 where
    pub good : Good pool table
    pub given : setGiven (table_of pool table) set ≡ got cs
    pub short : length set ≤ 8192
    pub types-short : length types ≤ 8192

module _ (pool table : List ℕ) where
  -- ══ Bounds ══

  module _ (bounds : List ℕ) where
    abbrev pub BoundsGiven : Option NameSet → Type 0
    BoundsGiven (Some m) = (xs : List ℕ) × ((risingBounds (table_of pool table) bounds ≡ got xs) × Has m xs)
    BoundsGiven None = risingBounds (table_of pool table) bounds ≡ refused 1

    module _ (e : length bounds % 4 ≡ 0) (os : List (Open ℕ)) (c : Chain (GoodBound pool table 0 bounds) (length bounds / 4) os 0) where
      pub given : boundsGiven (table_of pool table) bounds ≡ got os
      unfolding boundsGiven
      given = list-yes bounds readBound (goodOpen pool table 0) (GoodBound pool table 0 bounds) (bound-reader bounds pool table 0) os e c
