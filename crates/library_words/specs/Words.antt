-- What a caller in another language is given: the refusal's number is returned, and what is said goes as words to the front of a lent list.
-- The answers of calls that the program `serve` doesn't have are told here; those of the others in `calls_defined`.
use Rattle.std.specs.Prelude.{List, [], ◌∷◌, ℕ, length}
use Rattle.std.proofs.lemmas.List.Edits.{sets}
use Rattle.rules.specs.Base.{Got, got, refused}
use Rattle.rules.specs.Elimination.{Eliminated, allBound, someLeft, refusedWith}
use Rattle.rules.specs.Names.{Bytes, PoolPart}
use Rattle.rules.specs.Numbers.{refusalIn}
use Rattle.rules.specs.TextReading.{ReadAnswer, wasRead, notRead}
use Rattle.calls_defined.specs.Saying.{word, saidAs, refusedAs}
use Rattle.calls_defined.specs.declared.told.Told.{Told}

-- what is said, a second number, completed rounds: three words, as far as there is room; how many words a result has isn't said again
unfoldable pub answerWords : Told → List ℕ → List ℕ
answerWords t answer = sets answer 0 (t.value ∷ t.more ∷ t.rounds ∷ [])

-- how many: records, names, bytes
abbrev pub countAs : Got ℕ → Told
countAs (got n) = saidAs (word n) 0 0
countAs (refused n) = refusedAs n 0 0

-- how many are kept, and how many skipped
abbrev pub countsAs : Got (ℕ × ℕ) → Told
countsAs (got (kept, skipped)) = saidAs (word kept) (word skipped) 0
countsAs (refused n) = refusedAs n 0 0

-- records of bindings; on 5 of what remains
abbrev pub eliminatedAs : Eliminated → Told
eliminatedAs (allBound n) = saidAs (word n) 0 0
eliminatedAs (someLeft n) = record { refusal = 5; value = word n; more = 0; rounds = 0; words = 0 }
eliminatedAs (refusedWith n) = refusedAs n 0 0

-- where a name stands in the pool: its first byte, and how many
abbrev pub placeAs : Got Bytes → PoolPart → Told
placeAs g p = record { refusal = refusalIn g; value = p.start; more = word (length p.bytes); rounds = 0; words = 0 }

-- three counts as words
abbrev pub counts : ℕ → ℕ → ℕ → ℕ → Told
counts refusal value more rounds = record { refusal = refusal; value = word value; more = word more; rounds = word rounds; words = 0 }

-- a sheet's records, constraints and new names; or the line and the column of the refusal
abbrev pub sheetAs : ReadAnswer → Told
sheetAs (wasRead n c k) = counts 0 n c k
sheetAs (notRead n l q) = counts n l q 0
