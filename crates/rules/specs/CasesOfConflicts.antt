-- Small cases of the call that says which lines conflict, by computation: each refusal, and what is left in both buffers.
use Rattle.std.specs.Prelude.{◌≡◌, refl, Bool, true, ◌&&◌, List, [], ◌∷◌, ◌++◌, map, ℕ, length, replicate, drop}
use Rattle.std.proofs.Math.Option.{none, some}
use Rattle.rules.specs.Base.{got, refused}
use Rattle.rules.specs.Writing.{Rec, rec}
use Rattle.rules.specs.Lengths.{sizedWords, counting}
use Rattle.rules.specs.Choices.{isSide, wide}
use Rattle.rules.specs.Conflicts.{linesFrom, remains, conflicting, leaveOut, conflictIn, conflictOf, Conflicts, conflictCall}
use Rattle.rules.specs.Rules.{rules}
use Rattle.rules.specs.Examples.{pool, table, result, work, x, y, z, L, P, same_words}

-- what the call is defined by, to be computed
unfoldable finding : Type 0
unfolding isSide wide linesFrom remains conflicting leaveOut conflictIn conflictOf conflictCall
finding = Unit {0}

abbrev conflicts : List Rec → Conflicts
conflicts s = conflictCall pool table (sizedWords s) result work

abbrev eq : Rec
eq = rec 20 0 0 0

abbrev v : ℕ → Rec
v n = rec 1 n 0 0

-- a base dimension to a power
abbrev base : ℕ → ℕ → List Rec
base n e = rec 3 1 0 0 ∷ rec 13 n e 1 ∷ []

-- x is a length, z is a length too, y is a time, and x is y. Without the second line the others conflict
hours : List Rec
hours = (eq ∷ v x ∷ base L 1) ++ (eq ∷ v z ∷ base L 1) ++ (eq ∷ v y ∷ base P 1) ++ (eq ∷ v x ∷ v y ∷ [])

-- a list of z is z: never accepted, and no line of dimensions
lists : List Rec
lists = eq ∷ rec 10 0 0 0 ∷ v z ∷ v z ∷ []

-- x is a length and y a time, which agree; that the line between them is never accepted isn't looked at
agree : List Rec
agree = (eq ∷ v x ∷ base L 1) ++ lists ++ (eq ∷ v y ∷ base P 1)

-- the same line among lines that conflict: x is a length, and x is a time
among : List Rec
among = lists ++ (eq ∷ v x ∷ base L 1) ++ lists ++ (eq ∷ v x ∷ base P 1)

-- a line that is impossible alone: a length is a time
alone : List Rec
alone = (eq ∷ v x ∷ base P 1) ++ (eq ∷ base L 1 ++ base P 1)

-- each line twice: of equal lines the later one stays
twice : List Rec
twice = (eq ∷ v x ∷ base L 1) ++ (eq ∷ v x ∷ base P 1) ++ (eq ∷ v x ∷ base L 1) ++ (eq ∷ v x ∷ base P 1)

-- L^65536 put in for x, to the power 65,536: an exponent out of range, though lines that conflict stand behind
high : List Rec
high = (eq ∷ v x ∷ base L 65_536) ++ (eq ∷ v y ∷ rec 3 1 0 0 ∷ rec 11 x 65_536 1 ∷ []) ++ (eq ∷ base L 1 ++ base P 1)

sets : List (List Rec)
sets = hours ∷ agree ∷ among ∷ alone ∷ twice ∷ high ∷ [] ∷ []

answers : map (λ s. (conflicts s).answer) sets
    ≡ got (some 3) ∷ got none ∷ got (some 2) ∷ got (some 1) ∷ got (some 2) ∷ refused 7 ∷ got none ∷ []
unfolding rules counting finding pool table result work hours lists agree among alone twice high sets
answers = refl

-- places at the front of the result buffer, with what was there behind them; and the work buffer all zero
leaves : List ℕ → Conflicts → Bool
leaves places s = same_words s.result (places ++ drop (length places) result) && same_words s.work (replicate 16384 0)

buffers : (leaves (0 ∷ 2 ∷ 3 ∷ []) (conflicts hours) && leaves [] (conflicts agree) && leaves (1 ∷ 3 ∷ []) (conflicts among)
    && leaves (1 ∷ []) (conflicts alone) && leaves (2 ∷ 3 ∷ []) (conflicts twice) && leaves [] (conflicts high)) ≡ true
unfolding rules counting finding pool table result work same_words leaves hours lists agree among alone twice high
buffers = refl

-- ══ At entry: 10, 8, 1, 4, as solving ══

entry : map (λ (s : Conflicts). s.answer) (
    conflictCall (replicate 8191 0) table [] result work
    ∷ conflictCall pool (replicate 256 0) [] result work
    ∷ conflictCall pool table [] (replicate 8191 7) work
    ∷ conflictCall pool table [] result (replicate 16383 9)
    ∷ conflictCall pool (257 ∷ replicate 256 0) (replicate 8193 0) result work
    ∷ conflictCall pool (257 ∷ replicate 256 0) [] result work
    ∷ conflictCall pool table (0 ∷ []) result work
    ∷ conflicts (eq ∷ v x ∷ v 6 ∷ [])
    ∷ conflicts (eq ∷ v x ∷ rec 2 x 0 0 ∷ [])
    ∷ [])
    ≡ refused 10 ∷ refused 10 ∷ refused 10 ∷ refused 10 ∷ refused 8 ∷ refused 1 ∷ refused 1 ∷ refused 1 ∷ refused 4 ∷ []
unfolding rules counting finding pool table result work
entry = refl

-- 10 touches neither buffer
short : Conflicts
short = conflictCall pool table [] result (replicate 16383 9)

untouched : same_words short.work (replicate 16383 9) && same_words short.result result ≡ true
unfolding rules counting finding pool table result work same_words short
untouched = refl
