-- What a call says, in words: an answer of the rules as a refusal's number (0: none), a value, a second value, rounds, and the number of words
-- at the front of the result buffer that are the answer's.
use Rattle.std.specs.Prelude.{cond, ℕ, ◌+◌, ◌*◌, ◌%◌, Bool, nat_lt}
use Prim.Native.Nat.{Ordering}
use Rattle.rules.specs.Base.{Got, got, refused, oneIf}
use Rattle.rules.specs.declared.Was.{Was}
use Rattle.rules.specs.declared.Was.TheVariants.{New, Known}
use Rattle.rules.specs.Adding.{Added, satisfied, violated, unknown}
use Rattle.rules.specs.Calls.{Solved, solved, unsolved, refusedAfter}
use Rattle.rules.specs.Ceiling.{Ceiling}
use Rattle.rules.specs.Exponents.{Exp, frac}
use Rattle.rules.specs.Writing.{twos}
use Rattle.calls_defined.specs.declared.told.Told.{Told}

-- a count as a word
abbrev pub word : ℕ → ℕ
word n = n % 4294967296

-- four words a record; no count of a call is near the bound
abbrev pub fours : ℕ → ℕ
fours n = cond (nat_lt n 1000000000) (n * 4) 0

-- counts of one buffer together: at 64 bits
abbrev pub sum : ℕ → ℕ → ℕ
sum b n = (b + n) % 18446744073709551616

abbrev pub saidAs : ℕ → ℕ → ℕ → Told
saidAs value more words = record { refusal = 0; value = value; more = more; rounds = 0; words = words }

-- a refusal after so many rounds, with so many words before it
abbrev pub refusedAs : ℕ → ℕ → ℕ → Told
refusedAs n rounds words = record { refusal = n; value = 0; more = 0; rounds = rounds; words = words }

-- good
abbrev pub checkedAs : Got (Unit {0}) → Told
checkedAs (got u) = saidAs 0 0 0
checkedAs (refused n) = refusedAs n 0 0

-- no 0, yes 1
abbrev pub askedAs : Got Bool → Told
askedAs (got b) = saidAs (oneIf b) 0 0
askedAs (refused n) = refusedAs n 0 0

-- known 0, new 1
abbrev pub wasWord : Was → ℕ
wasWord New = 1
wasWord Known = 0

-- a name's number, and new or known
abbrev pub numberAs : Got (ℕ × Was) → ℕ → Told
numberAs (got (n, was)) words = saidAs n (wasWord was) words
numberAs (refused n) words = refusedAs n 0 words

-- an exponent's numerator, in two's complement, and its denominator
abbrev pub powerAs : Got Exp → Told
powerAs (got (frac n d)) = saidAs (twos n) d 0
powerAs (refused n) = refusedAs n 0 0

-- less 1, same 2, more 3
abbrev pub orderAs : Ordering → Told
orderAs Ordering.lt = saidAs 1 0 0
orderAs Ordering.eq = saidAs 2 0 0
orderAs Ordering.gt = saidAs 3 0 0

-- how many names, a word each
abbrev pub countedAs : Got ℕ → Told
countedAs (got n) = saidAs (word n) 0 n
countedAs (refused n) = refusedAs n 0 0

-- how many records
abbrev pub writtenAs : Got ℕ → Told
writtenAs (got n) = saidAs (word n) 0 (fours n)
writtenAs (refused n) = refusedAs n 0 0

-- Satisfied 1, Violated 2, Unknown 3, and the records of the set then; on a refusal the set's words stay in front
abbrev pub addedAs : Got (Added × ℕ) → ℕ → Told
addedAs (got (satisfied, n)) words = saidAs 1 (word n) (fours n)
addedAs (got (violated, n)) words = saidAs 2 (word n) (fours n)
addedAs (got (unknown, n)) words = saidAs 3 (word n) (fours n)
addedAs (refused n) words = refusedAs n 0 words

-- records of bindings, then of bounds; what remains (5) counts as the first
abbrev pub solvedAs : Solved → Told
solvedAs (solved b n k) = record { refusal = 0; value = word b; more = word n; rounds = k; words = fours (sum b n) }
solvedAs (unsolved n k) = record { refusal = 5; value = word n; more = 0; rounds = k; words = fours n }
solvedAs (refusedAfter n k) = refusedAs n k 0

-- distinct variables, and the ceiling on rounds
abbrev pub mostAs : Ceiling → Told
mostAs c = saidAs c.variables c.rounds 0

abbrev pub ceilingAs : Got Ceiling → Told
ceilingAs (got c) = mostAs c
ceilingAs (refused n) = refusedAs n 0 0

-- how many records of all sets together, behind the words of their answers
abbrev pub batchedAs : Got ℕ → ℕ → Told
batchedAs (got n) answers = saidAs (word n) 0 (sum answers (fours n))
batchedAs (refused n) answers = refusedAs n 0 0
