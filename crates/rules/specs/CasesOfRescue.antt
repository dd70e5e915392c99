-- Small cases of the rescue, by computation.
use Rattle.std.specs.Prelude.{◌≡◌, refl, List, [], ◌∷◌, ◌++◌, ℕ, replicate, take}
use Rattle.rules.specs.Base.{got, refused}
use Rattle.rules.specs.Names.{table_of}
use Rattle.rules.specs.Writing.{Rec, rec, head, words}
use Rattle.rules.specs.Lengths.{sized, counting}
use Rattle.rules.specs.Rules.{rules}
use Rattle.rules.specs.Examples.{pool, table}
use Rattle.rules.specs.Rescue.{words_in, recordsIn, bytes_of, startsHere, pieces, piecesIn, keptIn, skippedFrom, tornIn, placesIn, rescueGiven, rescueCall}

unfoldable pub rescuing : Type 0
unfolding words_in recordsIn bytes_of startsHere pieces piecesIn keptIn skippedFrom tornIn placesIn rescueGiven rescueCall
rescuing = Unit {0}

-- a constraint of three records, one of two, and a head of the first with a length that is false
abbrev same : List Rec
same = sized (rec 20 0 0 0 ∷ rec 4 0 0 0 ∷ rec 5 0 0 0 ∷ [])

abbrev dimension : List Rec
dimension = sized (rec 21 0 0 0 ∷ rec 1 0 0 0 ∷ [])

abbrev false : List Rec
false = rec (head 20 4) 0 0 0 ∷ rec (head 4 1) 0 0 0 ∷ rec (head 5 1) 0 0 0 ∷ []

abbrev bytes : List Rec → List ℕ
bytes rs = bytes_of (words rs)

-- what is kept, and what is skipped
abbrev rescued : List ℕ → List Rec × List ℕ
rescued file = (keptIn (piecesIn (table_of pool table) (words_in file)), placesIn (piecesIn (table_of pool table) (words_in file)) file)

-- a word with its low byte first, and back
low_first : words_in (4 ∷ 3 ∷ 2 ∷ 1 ∷ 9 ∷ []) ∷ bytes_of (16_909_060 ∷ []) ∷ [] ≡ (16_909_060 ∷ []) ∷ (4 ∷ 3 ∷ 2 ∷ 1 ∷ []) ∷ []
unfolding rules rescuing
low_first = refl

empty : ◌≡◌ {A = List Rec × List ℕ} (rescued []) ([], [])
unfolding rules counting rescuing pool table
empty = refl

good : ◌≡◌ {A = List Rec × List ℕ} (rescued (bytes (same ++ dimension))) (same ++ dimension, [])
unfolding rules counting rescuing pool table
good = refl

-- a torn record behind it, at the number of whole records
torn : ◌≡◌ {A = List Rec × List ℕ} (rescued (bytes same ++ 1 ∷ 2 ∷ [])) (same, 3 ∷ [])
unfolding rules counting rescuing pool table
torn = refl

-- a false length: its three records are skipped, each by itself, and what follows is kept
false-length : ◌≡◌ {A = List Rec × List ℕ} (rescued (bytes (same ++ false ++ dimension))) (same ++ dimension, 3 ∷ 4 ∷ 5 ∷ [])
unfolding rules counting rescuing pool table
false-length = refl

-- a head before a good constraint is skipped alone
head-alone : ◌≡◌ {A = List Rec × List ℕ} (rescued (bytes (rec (head 21 2) 0 0 0 ∷ same))) (same, 0 ∷ [])
unfolding rules counting rescuing pool table
head-alone = refl

-- a name that isn't held, and a constraint whose end is missing
not-held : ◌≡◌ {A = List Rec × List ℕ} (rescued (bytes (sized (rec 21 0 0 0 ∷ rec 1 255 0 0 ∷ []) ++ dimension))) (dimension, 0 ∷ 1 ∷ [])
unfolding rules counting rescuing pool table
not-held = refl

cut_off : ◌≡◌ {A = List Rec × List ℕ} (rescued (take 47 (bytes same))) ([], 0 ∷ 1 ∷ 2 ∷ [])
unfolding rules counting rescuing pool table
cut_off = refl

-- 10 before 8 before 1
refusals : rescueGiven pool (replicate 256 0) [] 32_768 2_049 ∷ rescueGiven pool table [] 32_767 2_049 ∷ rescueGiven pool table [] 32_768 2_048
    ∷ rescueGiven pool (257 ∷ replicate 256 0) (replicate 32_784 0) 32_768 2_049 ∷ rescueGiven pool (257 ∷ replicate 256 0) (replicate 32_783 0) 32_768 2_049
    ∷ rescueGiven pool table (replicate 32_783 0) 32_768 2_049 ∷ []
    ≡ refused 10 ∷ refused 10 ∷ refused 10 ∷ refused 8 ∷ refused 1 ∷ got tt ∷ []
unfolding rules counting rescuing pool table
refusals = refl

-- past the answer the buffers stay, and on a refusal all of them
whole : rescueCall pool table (bytes dimension ++ 1 ∷ []) (replicate 32_768 7) (replicate 2_049 7)
    ≡ record { answer = got (2, 1); kept = bytes dimension ++ replicate 32_736 7; skipped = 2 ∷ replicate 2_048 7 }
unfolding rules counting rescuing pool table
whole = refl

short : rescueCall pool table (bytes dimension) (replicate 32_768 7) (replicate 9 7)
    ≡ record { answer = refused 10; kept = replicate 32_768 7; skipped = replicate 9 7 }
unfolding rules counting rescuing pool table
short = refl
