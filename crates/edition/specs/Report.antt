-- What a report leaves, whatever it answers.
use Rattle.std.specs.Prelude.{◌≡◌, ℕ, List, length, Result, Ok, Err}
use Rattle.rules.specs.Base.{Got, got, refused}
use Rattle.rules.specs.Names.{table_of}
use Rattle.rules.specs.Refusals.{number_of}
use Rattle.rules.specs.Reports.{Edition, acceptedIn}
use Rattle.text_spell.specs.Sinks.{Place, Keeps}
use Rattle.edition.specs.declared.Failed.{Failed}
use Rattle.edition.specs.declared.Failed.TheVariants as failed

-- all sheets, and those of them that are accepted
pub record Counted (sheets accepted : ℕ) (e : Edition) : Type 0 where
  pub sheet-count : sheets ≡ length e.pages
  pub accepted-count : accepted ≡ acceptedIn (table_of e.pool e.table) e.pages

-- pool and table with the names of all sheets that were read
pub record Named (pool' table' : List ℕ) (e : Edition) : Type 0 where
  pub pools : pool' ≡ e.pool
  pub tables : table' ≡ e.table

-- nothing is changed and nothing put
pub record Untouched (pool table pool' table' : List ℕ) (old new : Place) : Type 0 where
  pub pools : pool' ≡ pool
  pub tables : table' ≡ table
  pub sink : new ≡ old

-- The table is tested first, and a report that is refused for it changes nothing. Without memory nothing is put; what names there are then is not said.
-- Where the sink refuses, what it held is at the front of what it holds, and all sheets were read.
abbrev pub Leaves : {A E : Type 0} → Result A (Failed E) → Got (Unit {0}) → List ℕ → List ℕ → List ℕ → List ℕ → Place → Place → Edition → Type 0
Leaves (Ok a) m pool table pool' table' old new e = (m ≡ got tt) × Named pool' table' e
Leaves (Err (failed.Names why)) m pool table pool' table' old new e = (m ≡ refused (number_of why)) × Untouched pool table pool' table' old new
Leaves (Err (failed.Memory a)) m pool table pool' table' old new e = (m ≡ got tt) × (new ≡ old)
Leaves (Err (failed.Sink v)) m pool table pool' table' old new e = (m ≡ got tt) × (Named pool' table' e × Keeps old.held new.held)

abbrev pub sunkOf : {A E : Type 0} → Result A E → Result A (Failed E)
sunkOf (Ok a) = Ok a
sunkOf (Err v) = Err (failed.Sink v)
