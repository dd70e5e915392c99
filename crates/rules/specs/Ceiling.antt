-- A ceiling on rounds, to set a watchdog by.
use Rattle.std.specs.Prelude.{List, ℕ, ◌+◌, ◌*◌, length}
use Rattle.rules.specs.Base.{Got, got, ◌>>=◌, ◌>>◌, collect}
use Rattle.rules.specs.Trees.{Names, Con, opensCon}
use Rattle.rules.specs.Names.{table_of, numbersOf}
use Rattle.rules.specs.Contents.{variablesIn, sort}
use Rattle.rules.specs.Calls.{aloneGiven, setGiven}

-- the distinct variables of a set: each once, however often it occurs. Parameters are none
module _ {N : Type 0} (ν : Names N) where
  unfoldable pub variablesOf : List (Con N) → List N
  variablesOf cs = sort ν (variablesIn (collect opensCon cs))

-- 'V + 6,144 x (V + 1)'
abbrev pub ceilingOf : ℕ → ℕ
ceilingOf v = v + 6_144 * (v + 1)

-- 'V distinct variables', which binding rounds alone don't pass, and the ceiling on all rounds
pub record Ceiling : Type 0 where
  pub variables : ℕ
  pub rounds : ℕ

abbrev pub ceilingFor : ℕ → Ceiling
ceilingFor v = record { variables = v; rounds = ceilingOf v }

-- the call: for every well formed set, else 10, 8 or 1. The check of 4 isn't made
unfoldable pub ceilingCall : List ℕ → List ℕ → List ℕ → Got Ceiling
ceilingCall pool table set = do
  aloneGiven pool table set
  cs ← setGiven (table_of pool table) set
  got (ceilingFor (length (variablesOf (numbersOf (table_of pool table)) cs)))
