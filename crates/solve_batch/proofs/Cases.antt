-- Batches by computation, over the names of rules' Examples.
use Rattle.std.specs.Prelude.{◌≡◌, refl, List, [], ◌∷◌, ◌++◌, ℕ, take, replicate}
use Rattle.rules.specs.Base.{got, refused}
use Rattle.rules.specs.Batches.{cutSets, fourWords, recordsOf, answeredWords, eachSolved, batchLent, batchFits, writtenOver, batchCall}
use Rattle.rules.specs.Examples.{x, L, pool, table, work}
use Rattle.rules.specs.Lengths.{sizedWords, counting}
use Rattle.rules.specs.Rules.{rules}
use Rattle.rules.specs.Writing.{rec}

-- K13, which is refused with 5, and K2 behind it
abbrev k13 : List ℕ
k13 = sizedWords (rec 22 0 0 0 ∷ rec 3 1 0 0 ∷ rec 13 L 1 1 ∷ [])

abbrev k2 : List ℕ
k2 = sizedWords (rec 20 0 0 0 ∷ rec 1 x 0 0 ∷ rec 4 0 0 0 ∷ [])

abbrev room : List ℕ
room = replicate 16384 7

abbrev told : List ℕ
told = replicate 8 7

-- how many records, the four words of each set, and K2's answer directly behind what remains of K13
two-sets : ((batchCall pool table (k13 ++ k2) (3 ∷ 3 ∷ []) room told work).answer ≡ got 5)
    × ((batchCall pool table (k13 ++ k2) (3 ∷ 3 ∷ []) room told work).answers ≡ 5 ∷ 0 ∷ 3 ∷ 0 ∷ 0 ∷ 1 ∷ 2 ∷ 0 ∷ [])
    × (take 21 (batchCall pool table (k13 ++ k2) (3 ∷ 3 ∷ []) room told work).result ≡ k13 ++ sizedWords (rec 24 x 0 0 ∷ rec 4 0 0 0 ∷ []) ++ 7 ∷ [])
unfolding rules counting pool table work cutSets fourWords recordsOf answeredWords eachSolved batchLent batchFits writtenOver batchCall
two-sets = (refl, refl, refl)

-- lengths that don't add up: 1; `answers` too short: 10
unfit : (batchCall pool table (k13 ++ k2) (3 ∷ 2 ∷ []) room told work).answer
    ∷ (batchCall pool table (k13 ++ k2) (3 ∷ 3 ∷ []) room (7 ∷ []) work).answer ∷ [] ≡ refused 1 ∷ refused 10 ∷ []
unfolding rules counting pool table work cutSets fourWords recordsOf answeredWords eachSolved batchLent batchFits writtenOver batchCall
unfit = refl
