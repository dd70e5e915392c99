-- The constraints that were given as words are held as the walks ask.
use Rattle.std.specs.Prelude.{◌≡◌, true, List, ℕ, ◌/◌, length}
use Rattle.rules.specs.Base.{got, all}
use Rattle.rules.specs.Calls.{setGiven}
use Rattle.rules.specs.Names.{table_of}
use Rattle.rules.specs.Trees.{Con}
use Rattle.records.specs.Found.{Words32}
use Rattle.records.specs.Good.{goodCon}
use Rattle.records.proofs.Whole.{set_is}
use Rattle.types.specs.Sets.{IsCons}
use Rattle.types.proofs.GivenLists.{set-row}

pub given-cons : (pool table s : List ℕ) (w : Words32 s) (cs : List (Con ℕ)) → setGiven (table_of pool table) s ≡ got cs
    → IsCons s 0 (length s / 4) cs × (all (goodCon pool table 0) cs ≡ true)
given-cons pool table s w cs h = let r = set-row pool table s 0 cs (set_is pool table s w cs h) in (record { held = r.held; ends = r.ends }, r.right)
