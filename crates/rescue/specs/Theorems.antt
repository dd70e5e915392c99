-- What is promised of rescues. The functions of src/theorems.rt promise these statements; the lemmas stand in proofs/.
use Rattle.std.specs.Prelude.{◌≡◌, List, [], ◌++◌, ℕ, ◌+◌, ◌/◌, ◌%◌, ◌≤◌, length, Result}
use Rattle.rules.specs.Base.{got, ◌>>◌, bounded, collect}
use Rattle.rules.specs.Names.{table_of, numbersOf}
use Rattle.rules.specs.Trees.{Con, opensCon}
use Rattle.rules.specs.Solving.{solve}
use Rattle.rules.specs.Calls.{over, apart, setGiven, setCall, solvedSet, solveCall, refusedAfter}
use Rattle.rules.specs.Rescue.{Piece, words_in, recordsIn, piecesIn, keptIn, skippedFrom, placesIn, rescueGiven, rescueCall}
use Rattle.rules.specs.Numbers.{number, rescued}
use Rattle.rules.specs.Refusals.{numberAnswer}
use Rattle.rules.specs.declared.Refusal.{Refusal}
use Rattle.laws.specs.NameTable.{Good}
use Rattle.rescue.specs.declared.Counts.{Counts}
use Rattle.rescue.specs.Told.{keptBytes, rescuedAs}
use Rattle.rescue.specs.Told.{Bytes}
use Rattle.rescue.specs.Told.{recordsOf, consIn}

-- the pieces of a file
abbrev pub piecesOf : List ℕ → List ℕ → List ℕ → List Piece
piecesOf pool table file = piecesIn (table_of pool table) (words_in file)

-- the pieces are the records of the file, one after another; kept and skipped are all of them; and a lost record is named by how many stand before it
pub record Accounted (pool table file : List ℕ) : Type 0 where
  pub every-record : collect recordsOf (piecesOf pool table file) ≡ recordsIn (words_in file)
  pub all-counted : length (keptIn (piecesOf pool table file)) + length (skippedFrom 0 (piecesOf pool table file)) ≡ length file / 16
  pub named : (before after : List Piece) (at : ℕ)
      → skippedFrom at (before ++ after) ≡ skippedFrom at before ++ skippedFrom (at + length (collect recordsOf before)) after

abbrev pub EveryRecordAccounted : Type 0
EveryRecordAccounted = (pool table file : List ℕ) → Bytes file → Accounted pool table file

-- what is kept is a well formed set, so that every call gets past its tests of the list; and solving never answers 1 to it
pub record KeptWell (pool table file : List ℕ) : Type 0 where
  pub well : setGiven (table_of pool table) (words_in (keptBytes (piecesOf pool table file))) ≡ got (consIn (piecesOf pool table file))
  pub passes : (k m : ℕ) → rescueGiven pool table file k m ≡ got tt → setCall pool table (words_in (keptBytes (piecesOf pool table file))) ≡ got tt
  pub solved : (k m : ℕ) → rescueGiven pool table file k m ≡ got tt → solvedSet (table_of pool table) (words_in (keptBytes (piecesOf pool table file)))
      ≡ (apart (table_of pool table) (collect opensCon (consIn (piecesOf pool table file))) >> got (solve (numbersOf (table_of pool table)) bounded
      (consIn (piecesOf pool table file))))
  pub never-1 : (k m : ℕ) → rescueGiven pool table file k m ≡ got tt → (result work : List ℕ) (n : ℕ)
      → (solveCall pool table (words_in (keptBytes (piecesOf pool table file))) result work).answer ≡ refusedAfter 1 n → ⊥

abbrev pub KeptIsASet : Type 0
KeptIsASet = (pool table file : List ℕ) → Bytes file → KeptWell pool table file

-- a file that was good comes out the same, with an empty list
pub record GoodStays (pool table file : List ℕ) : Type 0 where
  -- of its pieces, whatever is lent
  pub same : (keptBytes (piecesOf pool table file) ≡ file) × (placesIn (piecesOf pool table file) file ≡ [])
  -- of the call, where what is lent suffices
  pub outcome : (kept skipped : List ℕ) → rescueGiven pool table file (length kept) (length skipped) ≡ got tt
      → rescueCall pool table file kept skipped ≡ record { answer = got (length file / 16, 0); kept = over file kept; skipped = skipped }

abbrev pub GoodFileStays : Type 0
GoodFileStays = (pool table file : List ℕ) → Bytes file → length file % 16 ≡ 0 → (cs : List (Con ℕ)) → setGiven (table_of pool table) (words_in file) ≡ got cs
    → GoodStays pool table file

-- rescuing what was rescued changes nothing
abbrev pub RescuedAgain : Type 0
RescuedAgain = (pool table file : List ℕ) → Bytes file → (kept : List ℕ) → kept ≡ keptBytes (piecesOf pool table file)
    → (keptBytes (piecesOf pool table kept) ≡ kept) × (placesIn (piecesOf pool table kept) kept ≡ [])

-- every file within the limits is answered, whatever its bytes
abbrev pub EveryFileAnswered : Type 0
EveryFileAnswered = (pool table file kept skipped : List ℕ) → Good pool table → 32_768 ≤ length kept → 2_049 ≤ length skipped → length file / 16 ≤ 2_048
    → (rescueCall pool table file kept skipped).answer ≡ got (length (keptIn (piecesOf pool table file)), length (placesIn (piecesOf pool table file) file))

-- the contract of `rescue` leaves no choice
abbrev pub RescueDetermined : Type 0
RescueDetermined = (pool table file kept skipped : List ℕ) (p q : Result Counts Refusal) (k l m n : List ℕ)
    → rescuedAs p k m ≡ rescueCall pool table file kept skipped → rescuedAs q l n ≡ rescueCall pool table file kept skipped → (p ≡ q) × (k ≡ l) × (m ≡ n)

-- and an answer has the number of its outcome
abbrev pub RescueNumbered : Type 0
RescueNumbered = (pool table file kept skipped : List ℕ) (p : Result Counts Refusal) (k m : List ℕ)
    → rescuedAs p k m ≡ rescueCall pool table file kept skipped → numberAnswer p ≡ number (rescued (rescueCall pool table file kept skipped))
