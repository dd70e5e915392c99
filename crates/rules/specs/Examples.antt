-- K1 to K13, the examples that came with the rules, as one table under a single claim. K14 and others stand in CasesOfLists.
use Rattle.std.specs.Prelude.{◌≡◌, refl, Bool, true, false, ◌&&◌, List, [], ◌∷◌, ◌++◌, ℕ, ◌+◌, ◌-◌, eqb, length, replicate, drop}
use Rattle.std.specs.Bool.{beq}
use Rattle.std.proofs.Math.Option.{Option, none, some}
use Rattle.std.proofs.Math.Decide.{ℕ_discrete}
use Rattle.rules.specs.Base.{Got, got, refused, is_yes, list-dec, all, collect}
use Rattle.rules.specs.Trees.{Binding, ◌≔◌}
use Rattle.rules.specs.Names.{table_of}
use Rattle.rules.specs.Writing.{Rec, rec, words, writeTy}
use Rattle.rules.specs.Lengths.{sizedWords, counting}
use Rattle.rules.specs.Adding.{Added, violated, unknown, Added-discrete}
use Rattle.rules.specs.Solving.{Answer, accepted, remaining, stopped}
use Rattle.rules.specs.Calls.{Solved, solved, unsolved, refusedAfter, Solution, solvedSet, solveCall, AddedTo, addCall, Entry, judgeCall}
use Rattle.rules.specs.Rules.{rules}

-- the names, by their numbers
abbrev pub x : ℕ
x = 0

abbrev pub y : ℕ
y = 1

abbrev pub z : ℕ
z = 2

abbrev pub a : ℕ
a = 3

abbrev pub L : ℕ
L = 4

abbrev pub P : ℕ
P = 5

-- their bytes: 120 is x
unfoldable pub pool : List ℕ
pool = 120 ∷ 121 ∷ 122 ∷ 97 ∷ 76 ∷ 80 ∷ replicate 8186 0

unfoldable pub table : List ℕ
table = 6 ∷ 1 ∷ 2 ∷ 3 ∷ 4 ∷ 5 ∷ 6 ∷ replicate 250 0

-- lent buffers with something in them
unfoldable pub result : List ℕ
result = replicate 8192 7

unfoldable pub work : List ℕ
work = replicate 16384 9

-- a negative numerator as a word
abbrev pub minus : ℕ → ℕ
minus n = 4_294_967_296 - n

-- a set; what adding it to the empty set answers, 1 where it isn't exactly one constraint; what solving it answers; the records at the
-- front of the result buffer; what the judge says of an accepted answer
pub record Example : Type 0 where
  pub set : List Rec
  pub added : Got Added
  pub answer : Solved
  pub records : List Rec
  pub judged : Option Bool

-- in `solved b n k`, b records of bindings, n bounds and k rounds; in `unsolved r k`, refusal 5 with r records; `refusedAfter` a refusal and rounds
unfoldable pub examples : List Example
examples =
    -- K1: the empty set
    record { set = []; added = refused 1; answer = solved 0 0 0; records = []; judged = some true }
    -- K2: x = boolean
    ∷ record {
      set = rec 20 0 0 0 ∷ rec 1 x 0 0 ∷ rec 4 0 0 0 ∷ [];
      added = got unknown;
      answer = solved 2 0 1;
      records = rec 24 x 0 0 ∷ rec 4 0 0 0
          ∷ [];
      judged = some true;
    }
    -- K3: x = dimension x^2
    ∷ record {
      set = rec 20 0 0 0 ∷ rec 1 x 0 0 ∷ rec 3 1 0 0 ∷ rec 11 x 2 1 ∷ [];
      added = got unknown;
      answer = solved 2 0 3;
      records = rec 24 x 0 0
          ∷ rec 3 0 0 0 ∷ [];
      judged = some true;
    }
    -- K4: list of x = x
    ∷ record {
      set = rec 20 0 0 0 ∷ rec 10 0 0 0 ∷ rec 1 x 0 0 ∷ rec 1 x 0 0 ∷ [];
      added = got unknown;
      answer = unsolved 4 0;
      records = rec 20 0 0 0
          ∷ rec 10 0 0 0 ∷ rec 1 x 0 0 ∷ rec 1 x 0 0 ∷ [];
      judged = none;
    }
    -- K5: equal-scalar x^2 L^-3
    ∷ record {
      set = rec 22 0 0 0 ∷ rec 3 2 0 0 ∷ rec 11 x 2 1 ∷ rec 13 L (minus 3) 1
          ∷ [];
      added = got unknown;
      answer = solved 3 0 1;
      records = rec 24 x 0 0 ∷ rec 3 1 0 0 ∷ rec 13 L 3 2 ∷ [];
      judged = some true;
    }
    -- K6: x = y z, then y = boolean
    ∷ record {
      set = rec 20 0 0 0 ∷ rec 1 x 0 0 ∷ rec 3 2 0 0 ∷ rec 11 y 1 1 ∷ rec 11 z 1 1 ∷ rec 20 0 0 0 ∷ rec 1 y 0 0 ∷ rec 4 0 0 0
          ∷ [];
      added = refused 1;
      answer = refusedAfter 6 1;
      records = [];
      judged = none;
    }
    -- K7: is-dimension a
    ∷ record { set = rec 21 0 0 0 ∷ rec 2 a 0 0 ∷ []; added = got unknown; answer = solved 0 1 0; records = rec 25 a 0 0 ∷ []; judged = some true }
    -- K8: is-dimension x y^-1
    ∷ record {
      set = rec 21 0 0 0 ∷ rec 3 2 0 0 ∷ rec 11 x 1 1 ∷ rec 11 y (minus 1) 1
          ∷ [];
      added = got unknown;
      answer = solved 0 2 1;
      records = rec 25 x 0 0 ∷ rec 25 y 0 0 ∷ [];
      judged = some true;
    }
    -- K9: dimension x = boolean; added, it is Unknown
    ∷ record {
      set = rec 20 0 0 0 ∷ rec 3 1 0 0 ∷ rec 11 x 1 1 ∷ rec 4 0 0 0 ∷ [];
      added = got unknown;
      answer = solved 2 0 1;
      records = rec 24 x 0 0
          ∷ rec 4 0 0 0 ∷ [];
      judged = some true;
    }
    -- K10: x y = x z, then x = boolean
    ∷ record {
      set = rec 20 0 0 0 ∷ rec 3 2 0 0 ∷ rec 11 x 1 1 ∷ rec 11 y 1 1 ∷ rec 3 2 0 0 ∷ rec 11 x 1 1 ∷ rec 11 z 1 1 ∷ rec 20 0 0 0 ∷ rec 1 x 0 0 ∷ rec 4 0 0 0
          ∷ [];
      added = refused 1;
      answer = solved 5 0 3;
      records = rec 24 x 0 0 ∷ rec 4 0 0 0 ∷ rec 24 y 0 0 ∷ rec 3 1 0 0 ∷ rec 11 z 1 1 ∷ [];
      judged = some false;
    }
    -- K11: x used as a parameter too
    ∷ record { set = rec 20 0 0 0 ∷ rec 1 x 0 0 ∷ rec 2 x 0 0 ∷ []; added = got unknown; answer = refusedAfter 4 0; records = []; judged = none }
    -- K12: struct P of x = P of boolean
    ∷ record {
      set = rec 20 0 0 0 ∷ rec 8 P 1 0 ∷ rec 1 x 0 0 ∷ rec 8 P 1 0 ∷ rec 4 0 0 0
          ∷ [];
      added = got unknown;
      answer = solved 2 0 2;
      records = rec 24 x 0 0 ∷ rec 4 0 0 0 ∷ [];
      judged = some true;
    }
    -- K13: equal-scalar L
    ∷ record {
      set = rec 22 0 0 0 ∷ rec 3 1 0 0 ∷ rec 13 L 1 1 ∷ [];
      added = got violated;
      answer = unsolved 3 0;
      records = rec 22 0 0 0 ∷ rec 3 1 0 0
          ∷ rec 13 L 1 1 ∷ [];
      judged = none;
    }
    ∷ []

-- the same answer
pub sameSolved : Solved → Solved → Bool
sameSolved (solved b n k) (solved c m j) = eqb b c && eqb n m && eqb k j
sameSolved (solved b n k) (unsolved s j) = false
sameSolved (solved b n k) (refusedAfter m j) = false
sameSolved (unsolved r k) (solved c m j) = false
sameSolved (unsolved r k) (unsolved s j) = eqb r s && eqb k j
sameSolved (unsolved r k) (refusedAfter m j) = false
sameSolved (refusedAfter n k) (solved c m j) = false
sameSolved (refusedAfter n k) (unsolved s j) = false
sameSolved (refusedAfter n k) (refusedAfter m j) = eqb n m && eqb k j

unfoldable pub same_words : List ℕ → List ℕ → Bool
unfolding ℕ_discrete list-dec
same_words v w = is_yes (list-dec ℕ_discrete v w)

-- bindings as the judge takes them: an entry for each, and their types one after another
pub entriesFrom : ℕ → List (Binding ℕ) → List Entry
entriesFrom at [] = []
entriesFrom at ((v ≔ t) ∷ bs) = record { variable = v; place = at } ∷ entriesFrom (at + length (writeTy t)) bs

type_of : Binding ℕ → List Rec
type_of (v ≔ t) = writeTy t

-- the judge on the solver's own answer: refused where there is none
judgedBy : List Rec → Got (Answer ℕ) → Got Bool
judgedBy s (refused n) = refused n
judgedBy s (got (accepted bs ns k)) = (judgeCall pool table (sizedWords s) (entriesFrom 0 bs) (words (collect type_of bs))
    (collect (λ n. sizedWords (rec 25 n 0 0 ∷ [])) ns) work).answer
judgedBy s (got (remaining cs k)) = refused 5
judgedBy s (got (stopped n k)) = refused n

-- none: there is nothing to judge
agreed : Option Bool → Got Bool → Bool
agreed (some v) (got w) = beq v w
agreed (some v) (refused n) = false
agreed none (got w) = false
agreed none (refused n) = true

-- what adding answers and, as none of them is Satisfied, that all n records are stored in front of what was in the buffer
addedAs : List Rec → Got Added → AddedTo → Bool
addedAs s e r = go e r.answer
  where
    go : Got Added → Got (Added × ℕ) → Bool
    go (got v) (got w) = is_yes (Added-discrete v w.0) && eqb w.1 (length s) && same_words r.buffer (sizedWords s ++ drop (length (sizedWords s)) result)
    go (got v) (refused m) = false
    go (refused n) (got w) = false
    go (refused n) (refused m) = eqb n m && same_words r.buffer result

-- what adding leaves; answer, result buffer (the records, then what was there), work buffer (zero), and the judge's verdict
pub agrees : Example → Bool
agrees e = addedAs e.set e.added (addCall pool table result 0 (sizedWords e.set)) && same (solveCall pool table (sizedWords e.set) result work)
    && agreed e.judged (judgedBy e.set (solvedSet (table_of pool table) (sizedWords e.set)))
  where
    same : Solution → Bool
    same s = sameSolved s.answer e.answer && same_words s.result (sizedWords e.records ++ drop (length (sizedWords e.records)) result) && all (eqb 0) s.work
        && eqb (length s.work) 16384

pub K1-to-K13 : all agrees examples ≡ true
unfolding rules counting pool table result work examples sameSolved same_words entriesFrom type_of judgedBy agreed addedAs agrees
K1-to-K13 = refl
