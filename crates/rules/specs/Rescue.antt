-- Rescue of damaged set files.
use Rattle.std.specs.Prelude.{Bool, true, false, ◌&&◌, List, [], ◌∷◌, ◌++◌, map, ℕ, zero, suc, ◌+◌, ◌*◌, ◌/◌, ◌%◌, eqb, leb, length}
use Rattle.std.proofs.Math.Option.{Option, none, some}
use Rattle.rules.specs.Base.{Got, got, ◌>>=◌, ◌>>◌, need, only_if, and_then}
use Rattle.rules.specs.Trees.{Con, sizeCon}
use Rattle.rules.specs.Names.{Table, table_of, numbersOf, is_held, lentTable}
use Rattle.rules.specs.Writing.{Rec, rec, words, writeCon}
use Rattle.rules.specs.Reading.{readCon}
use Rattle.rules.specs.WellFormed.{goodCon}
use Rattle.rules.specs.Calls.{tableKept, resultAfter}

-- 'whole 16 byte records (each word with its low byte first)': what is incomplete is left out
abbrev pub wordFrom : ℕ → ℕ → ℕ → ℕ → ℕ
wordFrom a b c d = a + 256 * b + 65_536 * c + 16_777_216 * d

unfoldable pub words_in : List ℕ → List ℕ
words_in [] = []
words_in (a ∷ []) = []
words_in (a ∷ b ∷ []) = []
words_in (a ∷ b ∷ c ∷ []) = []
words_in (a ∷ b ∷ c ∷ d ∷ bs) = wordFrom a b c d ∷ words_in bs

unfoldable pub recordsIn : List ℕ → List Rec
recordsIn [] = []
recordsIn (w ∷ []) = []
recordsIn (w ∷ a ∷ []) = []
recordsIn (w ∷ a ∷ b ∷ []) = []
recordsIn (w ∷ a ∷ b ∷ c ∷ ws) = rec w a b c ∷ recordsIn ws

-- and back
unfoldable pub bytes_of : List ℕ → List ℕ
bytes_of [] = []
bytes_of (w ∷ ws) = w % 256 ∷ w / 256 % 256 ∷ w / 65_536 % 256 ∷ w / 16_777_216 % 256 ∷ bytes_of ws

-- what a file is taken as: well formed constraints, and records that are skipped
pub data Piece : Type 0 where
  sound : Con ℕ → Piece
  lost : Rec → Piece

module _ (t : Table) where
  -- 'each well formed constraint that starts at its place', with what is left; 'the check of 4 is left to the solver'
  unfoldable pub startsHere : List Rec → Option (Con ℕ × List Rec)
  startsHere rs = and_then (readCon rs) (λ v. only_if (goodCon (numbersOf t) (is_held t) 0 v.0) v)

  -- 'goes through them from the front, keeps .., and otherwise skips one record'; the first number bounds how many
  unfoldable pub pieces : ℕ → List Rec → List Piece
  pieces zero rs = map lost rs
  pieces (suc n) [] = []
  pieces (suc n) (r ∷ rs) = elim (startsHere (r ∷ rs)) [ none ↦ lost r ∷ pieces n rs | some v ↦ sound v.0 ∷ pieces n v.1 ]

  unfoldable pub piecesIn : List ℕ → List Piece
  piecesIn ws = pieces (length (recordsIn ws)) (recordsIn ws)

-- 'it writes the kept constraints'
unfoldable pub keptIn : List Piece → List Rec
keptIn [] = []
keptIn (sound c ∷ ps) = writeCon c ++ keptIn ps
keptIn (lost r ∷ ps) = keptIn ps

-- 'and a list that gives every skipped record's place, in order'
unfoldable pub skippedFrom : ℕ → List Piece → List ℕ
skippedFrom at [] = []
skippedFrom at (sound c ∷ ps) = skippedFrom (at + sizeCon c) ps
skippedFrom at (lost r ∷ ps) = at ∷ skippedFrom (at + 1) ps

-- 'an incomplete last record is named by its place too'
abbrev pub unless : Bool → ℕ → List ℕ
unless true n = []
unless false n = n ∷ []

unfoldable pub tornIn : List ℕ → List ℕ
tornIn file = unless (eqb (length file % 16) 0) (length file / 16)

unfoldable pub placesIn : List Piece → List ℕ → List ℕ
placesIn ps file = skippedFrom 0 ps ++ tornIn file

-- how many records are kept and how many places skipped, and both buffers
pub record Rescued : Type 0 where
  pub answer : Got (ℕ × ℕ)
  pub kept : List ℕ
  pub skipped : List ℕ

module _ (pool table file : List ℕ) where
  -- 10, by the lengths of the buffers; 'a file over 2,048 whole records is refused with 8, nothing written'; 1 for the table
  unfoldable pub rescueGiven : ℕ → ℕ → Got (Unit {0})
  rescueGiven kept skipped = do
    lentTable pool table
    need (leb 32_768 kept && leb 2_049 skipped) 10
    need (leb (length file / 16) 2_048) 8
    tableKept (table_of pool table)

  unfoldable pub rescueCall : List ℕ → List ℕ → Rescued
  rescueCall kept skipped = record {
    answer = given >>= λ u. got (length (keptIn ps), length (placesIn ps file));
    kept = resultAfter (given >>= λ u. got (bytes_of (words (keptIn ps)))) kept;
    skipped = resultAfter (given >>= λ u. got (placesIn ps file)) skipped;
  }
    where
      given : Got (Unit {0})
      given = rescueGiven (length kept) (length skipped)

      ps : List Piece
      ps = piecesIn (table_of pool table) (words_in file)
