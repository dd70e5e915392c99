-- The answers of the code as those of the rules, and what its parts leave behind.
use Rattle.std.specs.Prelude.{◌≡◌, List, [], ◌∷◌, ℕ, ◌+◌, ◌≤◌, ◌<◌, length, Result}
use Rattle.std.proofs.lemmas.List.Edits.{sets}
use Rattle.rules.specs.Refusals.{toldBy}
use Rattle.rules.specs.declared.Refusal.{Refusal}
use Rattle.rules.specs.Trees.{Con}
use Rattle.rules.specs.Writing.{Rec, words, writeCon}
use Rattle.laws.specs.Lists.{Every}
use Rattle.rules.specs.Rescue.{Piece, sound, lost, Rescued, bytes_of, keptIn, skippedFrom, tornIn, placesIn}
use Rattle.rescue.specs.declared.Counts.{Counts}

-- kept, then skipped
abbrev pub countsOf : Counts → ℕ × ℕ
countsOf c = (c.kept, c.skipped)

abbrev pub rescuedAs : Result Counts Refusal → List ℕ → List ℕ → Rescued
rescuedAs r kept skipped = record { answer = toldBy countsOf r; kept = kept; skipped = skipped }

-- the bytes of what is kept
abbrev pub keptBytes : List Piece → List ℕ
keptBytes ps = bytes_of (words (keptIn ps))

-- pieces were gone through: at most 2,048 records
pub record Walked (ps : List Piece) (kept kept' skipped skipped' : List ℕ) (r : Counts) : Type 0 where
  pub bytes : kept' ≡ sets kept 0 (keptBytes ps)
  pub places : skipped' ≡ sets skipped 0 (skippedFrom 0 ps)
  pub many : r.kept ≡ length (keptIn ps)
  pub few : r.skipped ≡ length (skippedFrom 0 ps)
  pub within : r.kept + r.skipped ≤ 2048

-- a torn record was named behind m places
pub record Noted (file : List ℕ) (m : ℕ) (skipped skipped' : List ℕ) (r : ℕ) : Type 0 where
  pub place : skipped' ≡ sets skipped m (tornIn file)
  pub few : r ≡ m + length (tornIn file)

-- both, for a file
pub record Took (ps : List Piece) (file kept kept' skipped skipped' : List ℕ) (r : Counts) : Type 0 where
  pub bytes : kept' ≡ sets kept 0 (keptBytes ps)
  pub places : skipped' ≡ sets skipped 0 (placesIn ps file)
  pub many : r.kept ≡ length (keptIn ps)
  pub few : r.skipped ≡ length (placesIn ps file)
  pub fits : r.kept ≤ 2048
  pub room : r.skipped ≤ 2049

-- a file
abbrev pub Bytes : List ℕ → Type 0
Bytes bs = Every (λ b. b < 256) bs

-- the records of a piece, as they stand in the file
abbrev pub recordsOf : Piece → List Rec
recordsOf (sound c) = writeCon c
recordsOf (lost r) = r ∷ []

-- the constraints among the pieces
abbrev pub consIn : List Piece → List (Con ℕ)
consIn [] = []
consIn (sound c ∷ ps) = c ∷ consIn ps
consIn (lost r ∷ ps) = consIn ps
