-- What each exported call leaves behind, from the outcome of the call behind it: the number that is returned, the lent words of the answer, and each
-- other buffer that is lent to be changed.
use Rattle.std.specs.Prelude.{Bool, List}
use Prim.Native.Nat.{ℕ, Ordering, ◌+◌, ◌*◌}
use Rattle.rules.specs.Base.{Got}
use Rattle.rules.specs.Exponents.{Exp}
use Rattle.rules.specs.Trees.{Product}
use Rattle.rules.specs.Names.{Bytes, PoolPart, Entered}
use Rattle.rules.specs.Calls.{Listed, AddedTo, Written, Solution, Judged}
use Rattle.rules.specs.Ceiling.{Ceiling}
use Rattle.rules.specs.Batches.{Batch}
use Rattle.rules.specs.Rescue.{Rescued}
use Rattle.rules.specs.TextReading.{TextRead}
use Rattle.rules.specs.Compaction.{Compacted}
use Rattle.rules.specs.Elimination.{Elimination}
use Rattle.calls_defined.specs.Saying.{orderAs, askedAs, numberAs, powerAs, countedAs, writtenAs, addedAs, solvedAs, ceilingAs}
use Rattle.calls_defined.specs.declared.told.Told.{Told}
use Rattle.products.specs.Told as products
use Rattle.library_words.specs.Factors.{toldOf, written_of}
use Rattle.library_words.specs.Words.{answerWords, placeAs, countAs, countsAs, eliminatedAs, sheetAs}

pub record Out (B : Type 0) : Type 0 where
  pub number : ℕ
  pub answer : List ℕ
  pub buffers : B

abbrev pub out : {B : Type 0} → ℕ → List ℕ → B → Out B
out r answer buffers = record { number = r; answer = answer; buffers = buffers }

-- the refusal's number is returned; what is said goes to the front of the answer
abbrev pub handed : {B : Type 0} → Told → List ℕ → B → Out B
handed t answer buffers = out t.refusal (answerWords t answer) buffers

-- less 1, same 2, more 3
abbrev pub orderWord : Ordering → ℕ
orderWord o = (orderAs o).value

-- its first byte in the pool, and how many
abbrev pub placeOut : Got Bytes → PoolPart → List ℕ → Out (Unit {0})
placeOut g p answer = handed (placeAs g p) answer tt

-- its number, and 1 where it is new; pool and table
abbrev pub enteredOut : Entered → List ℕ → Out (List ℕ × List ℕ)
enteredOut e answer = handed (numberAs e.answer 0) answer (e.pool, e.table)

-- numerator and denominator
abbrev pub powerOut : Got Exp → List ℕ → Out (Unit {0})
powerOut g answer = handed (powerAs g) answer tt

-- the count of its factors; the result buffer, which gets all 64 places
abbrev pub productOut : Got (Product ℕ) → List ℕ → List ℕ → Out (List ℕ)
productOut g result answer = handed (toldOf (products.answer g)) answer (written_of (products.answer g) result)

-- 1 yes, 0 no
abbrev pub askedOut : Got Bool → List ℕ → Out (Unit {0})
askedOut g answer = handed (askedAs g) answer tt

-- how many names; the result buffer
abbrev pub namesOut : Listed → List ℕ → Out (List ℕ)
namesOut l answer = handed (countedAs l.answer) answer l.result

-- 1 Satisfied, 2 Violated, 3 Unknown, and the records of the set then; the buffer with the set
abbrev pub addedOut : AddedTo → List ℕ → Out (List ℕ)
addedOut a answer = handed (addedAs a.answer 0) answer a.buffer

-- how many records; the result and the work buffer
abbrev pub writtenOut : Written → List ℕ → Out (List ℕ × List ℕ)
writtenOut w answer = handed (writtenAs w.answer) answer (w.result, w.work)

-- records of bindings, or on 5 of what remains, then of bounds, and the rounds; the result and the work buffer
abbrev pub solvedOut : Solution → List ℕ → Out (List ℕ × List ℕ)
solvedOut s answer = handed (solvedAs s.answer) answer (s.result, s.work)

-- records of all answers together; the result buffer, the buffer of what each set was answered, the work buffer
abbrev pub batchOut : Batch → List ℕ → Out (List ℕ × (List ℕ × List ℕ))
batchOut b answer = handed (writtenAs b.answer) answer (b.result, (b.answers, b.work))

-- distinct variables, and the most rounds
abbrev pub ceilingOut : Got Ceiling → List ℕ → Out (Unit {0})
ceilingOut g answer = handed (ceilingAs g) answer tt

-- 1 yes, 0 no; the work buffer
abbrev pub judgedOut : Judged → List ℕ → Out (List ℕ)
judgedOut j answer = handed (askedAs j.answer) answer j.work

-- records of bindings, or on 5 of what remains; the result and the work buffer
abbrev pub eliminatedOut : Elimination → List ℕ → Out (List ℕ × List ℕ)
eliminatedOut e answer = handed (eliminatedAs e.answer) answer (e.result, e.work)

-- records kept, places skipped; both buffers
abbrev pub rescuedOut : Rescued → List ℕ → Out (List ℕ × List ℕ)
rescuedOut r answer = handed (countsAs r.answer) answer (r.kept, r.skipped)

-- names kept; pool, table and sets
abbrev pub compactedOut : Compacted → List ℕ → Out (List ℕ × (List ℕ × List ℕ))
compactedOut c answer = handed (countAs c.answer) answer (c.pool, (c.table, c.sets))

-- bytes of the text; the text buffer
abbrev pub textOut : Listed → List ℕ → Out (List ℕ)
textOut l answer = handed (countAs l.answer) answer l.result

-- records, constraints and new names, or the line and the column of the refusal; pool, table, result and work buffer
abbrev pub textReadOut : TextRead → List ℕ → Out (List ℕ × (List ℕ × (List ℕ × List ℕ)))
textReadOut t answer = handed (sheetAs t.answer) answer (t.pool, (t.table, (t.result, t.work)))

-- the three numbers of a version as one, that rises with them
abbrev pub version : ℕ → ℕ → ℕ → ℕ
version first second third = first * 10_000 + second * 100 + third
