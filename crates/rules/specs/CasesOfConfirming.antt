-- Small cases of the call that confirms, by computation: K1 to K13, each refusal, and what is left in both buffers.
use Rattle.std.specs.Prelude.{◌≡◌, refl, Bool, true, false, ◌&&◌, List, [], ◌∷◌, ◌++◌, map, ℕ, length, replicate, drop}
use Rattle.std.proofs.Math.Option.{Option, none, some}
use Rattle.rules.specs.Base.{all}
use Rattle.rules.specs.Writing.{Rec, rec}
use Rattle.rules.specs.Lengths.{sizedWords, counting}
use Rattle.rules.specs.Calls.{Solved, solved, unsolved, refusedAfter, Solution, solveCall}
use Rattle.rules.specs.Numbers.{solution, number}
use Rattle.rules.specs.Confirming.{ruled, confirmed, confirmedSet, confirmCall}
use Rattle.rules.specs.Rules.{rules}
use Rattle.rules.specs.Examples.{pool, table, result, work, x, y, L, Example, examples, same_words}

abbrev confirms : List Rec → Solution
confirms s = confirmCall pool table (sizedWords s) result work

-- ══ K1 to K13 ══

-- accepted, except for K4 and K13 (5), K6 (6) and K11 (4); K10, which solving accepts after 3 rounds, is 11 after as many
K1-to-K13 : map (λ (e : Example). (confirms e.set).answer) examples
    ≡ solved 0 0 0 ∷ solved 2 0 1 ∷ solved 2 0 3 ∷ unsolved 4 0 ∷ solved 3 0 1 ∷ refusedAfter 6 1 ∷ solved 0 1 0 ∷ solved 0 2 1 ∷ solved 2 0 1
    ∷ refusedAfter 11 3 ∷ refusedAfter 4 0 ∷ solved 2 0 2 ∷ unsolved 3 0 ∷ []
unfolding rules counting pool table result work examples ruled confirmed confirmedSet confirmCall
K1-to-K13 = refl

-- their numbers
numbered : map (λ (e : Example). number (solution (confirms e.set))) examples ≡ 0 ∷ 0 ∷ 0 ∷ 5 ∷ 0 ∷ 6 ∷ 0 ∷ 0 ∷ 0 ∷ 11 ∷ 4 ∷ 0 ∷ 5 ∷ []
unfolding rules counting pool table result work examples ruled confirmed confirmedSet confirmCall number
numbered = refl

-- records at the front of the result buffer, with what was there behind them; and the work buffer all zero
leaves : List Rec → Solution → Bool
leaves front s = same_words s.result (sizedWords front ++ drop (length (sizedWords front)) result) && same_words s.work (replicate 16384 0)

-- as solving leaves them (bindings and bounds, or what remains), except for K10, whose words aren't written
front : Option Bool → List Rec → List Rec
front (some true) rs = rs
front (some false) rs = []
front none rs = rs

buffers : all (λ (e : Example). leaves (front e.judged e.records) (confirms e.set)) examples ≡ true
unfolding rules counting pool table result work examples same_words ruled confirmed confirmedSet confirmCall leaves front
buffers = refl

-- ══ What the judge refuses ══

abbrev eq : Rec
eq = rec 20 0 0 0

abbrev v : ℕ → Rec
v n = rec 1 n 0 0

abbrev bool : Rec
bool = rec 4 0 0 0

-- n lists around a record
abbrev nested : ℕ → Rec → List Rec
nested n r = replicate n (rec 10 0 0 0) ++ r ∷ []

-- x^n
abbrev raised : ℕ → ℕ → List Rec
raised x n = rec 3 1 0 0 ∷ rec 11 x n 1 ∷ []

-- 32 lists of x are 32 lists of y, and y is 32 lists of boolean: solving takes a list from both sides before y is put in, and nests 64 deep; put in at once,
-- the first constraint nests 65 deep (8). With 31 lists it nests 64 deep
too-deep : List Rec
too-deep = eq ∷ (nested 32 (v x) ++ nested 32 (v y)) ++ eq ∷ v y ∷ nested 32 bool

deep : List Rec
deep = eq ∷ (nested 31 (v x) ++ nested 31 (v y)) ++ eq ∷ v y ∷ nested 32 bool

-- x^65536 is y^65536, and a list of y is a list of L^65536: put in at once, L's power is 2^32 (7), where solving takes the root first
too-high : List Rec
too-high = eq ∷ (raised x 65_536 ++ raised y 65_536) ++ eq ∷ nested 1 (v y) ++ rec 10 0 0 0 ∷ rec 3 1 0 0 ∷ rec 13 L 65_536 1 ∷ []

-- what solving answers, and what is answered here
both : List Rec → Solved × Solved
both s = ((solveCall pool table (sizedWords s) result work).answer, (confirms s).answer)

refused-by-judge : map both (deep ∷ too-deep ∷ too-high ∷ [])
    ≡ (solved 68 0 33, solved 68 0 33) ∷ (solved 68 0 34, refusedAfter 8 34) ∷ (solved 6 0 4, refusedAfter 7 4) ∷ []
unfolding rules counting pool table result work ruled confirmed confirmedSet confirmCall deep too-deep too-high both
refused-by-judge = refl

unwritten : all (λ (s : List Rec). leaves [] (confirms s)) (too-deep ∷ too-high ∷ []) ≡ true
unfolding rules counting pool table result work same_words ruled confirmed confirmedSet confirmCall leaves too-deep too-high
unwritten = refl

-- ══ At entry: 10, 8, 1, 4, as solving ══

entry : map (λ (s : Solution). s.answer) (
    confirmCall (replicate 8191 0) table [] result work
    ∷ confirmCall pool (replicate 256 0) [] result work
    ∷ confirmCall pool table [] (replicate 8191 7) work
    ∷ confirmCall pool table [] result (replicate 16383 9)
    ∷ confirmCall pool (257 ∷ replicate 256 0) (replicate 8193 0) result work
    ∷ confirmCall pool (257 ∷ replicate 256 0) [] result work
    ∷ confirmCall pool table (0 ∷ []) result work
    ∷ confirms (eq ∷ v x ∷ v 6 ∷ [])
    ∷ confirms (eq ∷ v x ∷ rec 2 x 0 0 ∷ [])
    ∷ [])
    ≡ refusedAfter 10 0 ∷ refusedAfter 10 0 ∷ refusedAfter 10 0 ∷ refusedAfter 10 0 ∷ refusedAfter 8 0 ∷ refusedAfter 1 0 ∷ refusedAfter 1 0
    ∷ refusedAfter 1 0 ∷ refusedAfter 4 0 ∷ []
unfolding rules counting pool table result work ruled confirmed confirmedSet confirmCall
entry = refl

-- 10 touches neither buffer
short : Solution
short = confirmCall pool table [] result (replicate 16383 9)

untouched : same_words short.work (replicate 16383 9) && same_words short.result result ≡ true
unfolding rules counting pool table result work same_words ruled confirmed confirmedSet confirmCall short
untouched = refl
