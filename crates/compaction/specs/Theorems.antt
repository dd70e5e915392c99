-- What is promised of compaction. The functions of src/theorems.rt promise these statements; the lemmas stand in proofs/.
use Rattle.std.specs.Prelude.{◌≡◌, List, ◌++◌, map, ℕ, suc, ◌+◌, length, take, drop, set, Result}
use Rattle.rules.specs.Batches.{cutSets}
use Rattle.rules.specs.Names.{Bytes, table_of, names_of, tableGiven, Entered, enterNew}
use Rattle.rules.specs.Numbers.{number, compacted}
use Rattle.rules.specs.Offices.{ReadAlike, CallsAlike}
use Rattle.rules.specs.Refusals.{numberAnswer}
use Rattle.rules.specs.declared.Was.TheVariants.{New}
use Rattle.laws.specs.Lists.{Every}
use Rattle.rules.specs.Base.{got}
use Rattle.rules.specs.Compaction.{Compacted, keeps, renumbered, keptFrom, joined, compactChecks, compactCall}
use Rattle.rules.specs.declared.Refusal.{Refusal}
use Rattle.laws.specs.ReadLists.{Words}
use Rattle.compaction.specs.Told.{compactedAs}

-- a name entered under the number n, at the pool byte `free`
abbrev pub goingOn : List ℕ → List ℕ → Bytes → ℕ → ℕ → Entered
goingOn pool table name n free = record {
  answer = got (n, New);
  pool = take free pool ++ name ++ drop (free + length name) pool;
  table = set (set table 0 (suc n)) (suc n) (free + length name);
}

-- the outcome r of compacting words over pool and table
pub record Promised (pool table words lengths : List ℕ) (r : Compacted) : Type 0 where
  -- the names that occur are kept, each once and in the old order, and no others
  pub names : names_of (table_of r.pool r.table) ≡ keptFrom (keeps (table_of pool table).count words) 0 (names_of (table_of pool table))
  pub many : r.answer ≡ got (length (names_of (table_of r.pool r.table)))
  pub good : tableGiven r.pool r.table ≡ got tt
  -- each set reads alike before and after
  pub cuts : cutSets lengths r.sets ≡ map (renumbered (keeps (table_of pool table).count words)) (cutSets lengths words)
  pub sets : Every (λ s. ReadAlike (table_of pool table) (table_of r.pool r.table) s (renumbered (keeps (table_of pool table).count words) s))
      (cutSets lengths words)
  -- so every call answers alike
  pub calls : CallsAlike pool table r.pool r.table
  -- entering goes on where the kept names end, at the first freed byte, with the next number
  pub next : (name : Bytes) → enterNew r.pool r.table name
      ≡ goingOn r.pool r.table name (length (names_of (table_of r.pool r.table))) (length (joined (names_of (table_of r.pool r.table))))

-- the names that occur are kept, each once and in the old order; each set reads as before, so every call answers as before
abbrev pub NamesKept : Type 0
NamesKept = (pool table sets lengths : List ℕ) → Words sets → compactChecks pool table sets lengths ≡ got tt
    → Promised pool table sets lengths (compactCall pool table sets lengths)

-- compacting what was compacted, with the same lengths, changes nothing and answers the same; so does compacting again what was refused
abbrev pub TwiceIsOnce : Type 0
TwiceIsOnce = (pool table sets lengths : List ℕ) → Words sets
    → compactCall (compactCall pool table sets lengths).pool (compactCall pool table sets lengths).table (compactCall pool table sets lengths).sets lengths
    ≡ compactCall pool table sets lengths

-- two answers with all that is changed in place are the same
pub record OneResult (a b : Result ℕ Refusal) (pool pool' table table' sets sets' : List ℕ) : Type 0 where
  pub answer : a ≡ b
  pub pools : pool ≡ pool'
  pub tables : table ≡ table'
  pub lists : sets ≡ sets'

-- the contract of `compact` leaves no choice
abbrev pub CompactDetermined : Type 0
CompactDetermined = (pool table sets lengths : List ℕ) (p q : Result ℕ Refusal) (a b c d e f : List ℕ)
    → compactedAs p a c e ≡ compactCall pool table sets lengths → compactedAs q b d f ≡ compactCall pool table sets lengths → OneResult p q a b c d e f

-- and an answer has the number of its outcome
abbrev pub CompactNumbered : Type 0
CompactNumbered = (pool table sets lengths : List ℕ) (p : Result ℕ Refusal) (a c e : List ℕ)
    → compactedAs p a c e ≡ compactCall pool table sets lengths → numberAnswer p ≡ number (compacted (compactCall pool table sets lengths))
