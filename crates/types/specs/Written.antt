-- What a writer writes. Its count of records stops at 2 ^ 60, and then nothing is said of the buffer.
use Rattle.std.specs.Prelude.{◌≡◌, List, [], ◌∷◌, ℕ, ◌+◌, ◌-◌, ◌*◌, ◌<◌, min, length}
use Rattle.std.proofs.lemmas.List.Edits.{sets}
use Rattle.rules.specs.Writing.{Rec, words}
use Rattle.records.specs.Cut.{fit}
use Rattle.records.specs.Views.{recOf}
use Rattle.records.specs.declared.View.{View}
use Rattle.types.specs.declared.writer.Writer.{Writer}

abbrev pub last : ℕ
last = 1_152_921_504_606_846_976

-- these records stand behind those that were written before, as far as the buffer goes
pub record Writes (old new : Writer) (rs : List Rec) : Type 0 where
  pub same : new.words.ghost_name ≡ old.words.ghost_name
  pub at : min new.at last ≡ min (old.at + length rs) last
  pub words : old.at + length rs < last → new.words.now ≡ sets old.words.now (old.at * 4) (words rs)

-- room was left for a record
pub record Reserves (old new : Writer) (place : ℕ) : Type 0 where
  pub same : new.words.ghost_name ≡ old.words.ghost_name
  pub start : place ≡ old.at
  pub at : new.at ≡ min (old.at + 1) last
  pub words : new.words.now ≡ old.words.now

-- and it was written there
pub record Begins (old new : Writer) (start : ℕ) (v : View) : Type 0 where
  pub same : new.words.ghost_name ≡ old.words.ghost_name
  pub at : new.at ≡ old.at
  pub words : start < last → new.words.now ≡ sets old.words.now (start * 4) (words (recOf v (fit (old.at - start)) ∷ []))
