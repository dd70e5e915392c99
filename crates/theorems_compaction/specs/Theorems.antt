-- Compaction of a table that two offices share. The function of src promises this statement; its words stand in rules' Compaction, the proofs in proofs/.
use Rattle.std.specs.Prelude.{◌≡◌, List, ℕ}
use Rattle.rules.specs.Base.{got}
use Rattle.rules.specs.Names.{tableGiven}
use Rattle.rules.specs.Compaction.{CompactedAlike}
use Rattle.laws.specs.ReadLists.{Words}

-- two calls, each over its own well formed table: what each office's sets have afterwards, and which names are kept
abbrev pub OfficesCompacted : Type 0
OfficesCompacted = (pool table sets lengths pool' table' sets' lengths' : List ℕ) → tableGiven pool table ≡ got tt → tableGiven pool' table' ≡ got tt
    → Words sets → Words sets' → CompactedAlike pool table sets lengths pool' table' sets' lengths'
