-- Two offices that share one table of names: for every pool, table, list and history. The functions of src promise these statements; their words
-- stand in rules' Offices, the proofs in proofs/.
use Rattle.std.specs.Prelude.{◌≡◌, Bool, true, false, List, map, ℕ, length}
use Rattle.rules.specs.Base.{got, bounded}
use Rattle.rules.specs.Trees.{Con}
use Rattle.rules.specs.Names.{Bytes, table_of, tableGiven, nameAsked}
use Rattle.rules.specs.Solving.{solve}
use Rattle.rules.specs.Calls.{containsCall}
use Rattle.rules.specs.Elimination.{eliminateCall}
use Rattle.rules.specs.Rescue.{rescueCall}
use Rattle.rules.specs.TextWriting.{writeTextCall}
use Rattle.rules.specs.TextReading.{readTextCall}
use Rattle.rules.specs.Offices.{
  byBytes,
  nameNo,
  mapCon,
  mapAnswer,
  ReadAlike,
  LentAlike,
  TextAlike,
  meetsThree,
  TextReadAlike,
  EliminatedAlike,
  FilesAlike,
  RescuedAlike,
  CallsAlike,
  Office,
  Entering,
  Shared,
  tableIn,
  namesBy,
  answersTo,
  hadRoom,
  Unmoved,
}
use Rattle.theorems_offices.specs.Deeds.{Done, afterDeeds, deedsBy, repliesTo, hadRoomFor, EachAlike}
use Rattle.theorems_offices.specs.Numbered.{numbers}

-- lists that read alike are answered alike by every call
abbrev pub ReadAlikeAnsweredAlike : Type 0
ReadAlikeAnsweredAlike = (pool table pool' table' : List ℕ) → tableGiven pool table ≡ got tt → tableGiven pool' table' ≡ got tt
    → CallsAlike pool table pool' table'

-- does a type contain a name: asked of the same name, whatever its numbers are
abbrev pub ContainsByName : Type 0
ContainsByName = (pool table pool' table' : List ℕ) → tableGiven pool table ≡ got tt → tableGiven pool' table' ≡ got tt
    → (ws ws' : List ℕ) (x x' : ℕ) (b : Bool) → ReadAlike (table_of pool table) (table_of pool' table') ws ws'
    → nameNo (table_of pool table) x ≡ nameNo (table_of pool' table') x'
    → containsCall pool table ws x b ≡ containsCall pool' table' ws' x' b

-- a set as text: the same bytes, whatever the numbers are
abbrev pub TextWrittenAlike : Type 0
TextWrittenAlike = (pool table pool' table' : List ℕ) → tableGiven pool table ≡ got tt → tableGiven pool' table' ≡ got tt
    → (set set' : List ℕ) (text text' : Bytes)
    → ReadAlike (table_of pool table) (table_of pool' table') set set'
    → length text ≡ length text' → TextAlike (writeTextCall pool table set text) (writeTextCall pool' table' set' text')

-- one sheet, read over two tables, where neither reading meets 3: the same records, read with names, or the same refusal, line and column
abbrev pub TextReadingsAlike : Type 0
TextReadingsAlike = (pool table pool' table' : List ℕ) → tableGiven pool table ≡ got tt → tableGiven pool' table' ≡ got tt
    → (sheet : Bytes) (result result' work work' : List ℕ) → LentAlike result result' work work'
    → meetsThree (readTextCall pool table sheet result work).answer ≡ false
    → meetsThree (readTextCall pool' table' sheet result' work').answer ≡ false
    → TextReadAlike (readTextCall pool table sheet result work) (readTextCall pool' table' sheet result' work')

-- the second engine: the order of columns is that of the names' bytes, so what is eliminated first doesn't depend on numbers
abbrev pub EngineAlike : Type 0
EngineAlike = (pool table pool' table' : List ℕ) → tableGiven pool table ≡ got tt → tableGiven pool' table' ≡ got tt
    → (rows rows' result result' work work' : List ℕ)
    → ReadAlike (table_of pool table) (table_of pool' table') rows rows'
    → LentAlike result result' work work'
    → EliminatedAlike (table_of pool table) (table_of pool' table') (eliminateCall pool table rows result work) (eliminateCall pool' table' rows' result' work')

-- a damaged file: the same records are kept, and the same places skipped
abbrev pub RescuesAlike : Type 0
RescuesAlike = (pool table pool' table' : List ℕ) → tableGiven pool table ≡ got tt → tableGiven pool' table' ≡ got tt
    → (file file' kept kept' skipped skipped' : List ℕ)
    → FilesAlike (table_of pool table) (table_of pool' table') file file'
    → length kept ≡ length kept' → length skipped ≡ length skipped'
    → RescuedAlike (table_of pool table) (table_of pool' table') (rescueCall pool table file kept skipped) (rescueCall pool' table' file' kept' skipped')

-- solving numbers, read with their names, is solving the names themselves, in the order of bytes
abbrev pub SolvedByNames : Type 0
SolvedByNames = (pool table : List ℕ) → tableGiven pool table ≡ got tt → (cs : List (Con ℕ))
    → solve byBytes bounded (map (mapCon (nameNo (table_of pool table))) cs) ≡ mapAnswer (nameNo (table_of pool table)) (solve (numbers pool table) bounded cs)

-- two histories in which an office entered the same names in the same order and met no 3, whatever the other office entered and met, and
-- whatever was held before: what it was given has the same names, what it writes reads alike, and every call answers it alike
abbrev pub OfficesUnmoved : Type 0
OfficesUnmoved = (o : Office) (s s' : Shared) (es es' : List Entering) → tableGiven s.pool s.table ≡ got tt → tableGiven s'.pool s'.table ≡ got tt
    → namesBy o es ≡ namesBy o es' → hadRoom (answersTo o s es) ≡ true → hadRoom (answersTo o s' es') ≡ true → Unmoved o s s' es es'

-- names are entered and sheets are read, by either office and in any order. Two histories in which an office did the same in the same order and met no 3,
-- whatever the other did and met, and whatever was held before: each answer, read with the names at the end, is the same; a sheet that was read reads alike
-- then, and every call answers alike what reads alike
pub record DeedsAlike (o : Office) (s s' : Shared) (ds ds' : List Done) : Type 0 where
  pub replies : EachAlike (tableIn (afterDeeds s ds)) (tableIn (afterDeeds s' ds')) (repliesTo o s ds) (repliesTo o s' ds')
  pub calls : CallsAlike (afterDeeds s ds).pool (afterDeeds s ds).table (afterDeeds s' ds').pool (afterDeeds s' ds').table

abbrev pub DeedsUnmoved : Type 0
DeedsUnmoved = (o : Office) (s s' : Shared) (ds ds' : List Done) → tableGiven s.pool s.table ≡ got tt → tableGiven s'.pool s'.table ≡ got tt
    → deedsBy o ds ≡ deedsBy o ds' → hadRoomFor (repliesTo o s ds) ≡ true → hadRoomFor (repliesTo o s' ds') ≡ true → DeedsAlike o s s' ds ds'

-- reading a sheet, accepted or refused, takes no number's name away and gives it no other
abbrev pub ReadingKeepsNames : Type 0
ReadingKeepsNames = (pool table : List ℕ) (text : Bytes) (result work : List ℕ) (j : ℕ) (n : Bytes) → nameAsked pool table j ≡ got n
    → nameAsked (readTextCall pool table text result work).pool (readTextCall pool table text result work).table j ≡ got n
