-- How long the answer of solving is, as words, and words at the front of a buffer.
use Rattle.std.specs.Prelude.{List, ℕ}
use Rattle.rules.specs.Base.{Got}
use Rattle.rules.specs.Batches.{answeredWords, recordsOf}
use Rattle.rules.specs.Calls.{solvedOf, solvedWords}
use Rattle.rules.specs.Solving.{Answer}

-- the words of a set's answer, and how many records it has
abbrev pub words_of : Got (Answer ℕ) → List ℕ
words_of a = answeredWords (solvedWords a)

abbrev pub manyOf : Got (Answer ℕ) → ℕ
manyOf a = recordsOf (solvedOf a)
