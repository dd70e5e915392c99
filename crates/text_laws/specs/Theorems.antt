-- What is promised of sheets, of the definitions that `text::write_text` and `text::read_text` equal. The functions of src promise these statements;
-- the words stand in Claims, the proofs in proofs/.
use Rattle.std.specs.Prelude.{◌≡◌, ℕ, suc, ◌≤◌}
use mathlib.Core.List.{List}
use Rattle.std.proofs.Math.ListN.{length}
use Rattle.rules.specs.Base.{got}
use Rattle.rules.specs.Calls.{setCall}
use Rattle.rules.specs.TextReading.{notRead, readTextCall}
use Rattle.laws.specs.Lists.{Every}
use Rattle.laws.specs.ReadLists.{Words}
use Rattle.text_laws.specs.Spelling.{IsByte}
use Rattle.text_laws.specs.Claims.{BackAgain, Unchanged, RefusedText}

-- every well formed set is written, in at most 173 bytes a record, and read back over the same table to the same records, with no new name
abbrev pub WrittenAndReadBack : Type 0
WrittenAndReadBack = (pool table set text result work : List ℕ) → setCall pool table set ≡ got tt → Every IsByte pool → Words set
    → 354304 ≤ length text → 8192 ≤ length result → 16384 ≤ length work → BackAgain pool table set text result work

-- a refused sheet changes nothing
abbrev pub RefusedChangesNothing : Type 0
RefusedChangesNothing = (pool table text result work : List ℕ) (n k c : ℕ) → (readTextCall pool table text result work).answer ≡ notRead n k c
    → Unchanged pool table result (readTextCall pool table text result work)

-- line 0 is that of the checks at entry; any other is the first bad line of the text, whatever stands behind it
abbrev pub RefusedLineIsFirst : Type 0
RefusedLineIsFirst = (pool table text result work : List ℕ) (n k c : ℕ)
    → (readTextCall pool table text result work).answer ≡ notRead n (suc k) c → RefusedText pool table text n (suc k) c
