-- Small histories by computation: what one office may not rely on, so that the exceptions in the promise are needed.
use Rattle.std.specs.Prelude.{◌≡◌, refl, List, [], ◌∷◌, ◌++◌, map, ℕ, zero, suc, replicate, take}
use Rattle.rules.specs.Base.{Got, got, refused}
use Rattle.rules.specs.Names.{Bytes, table_of, names_of, enter}
use Rattle.rules.specs.declared.Was.{Was}
use Rattle.rules.specs.declared.Was.TheVariants.{New, Known}
use Rattle.rules.specs.Writing.{Rec, rec, head, words}
use Rattle.rules.specs.Lengths.{sized, sizedWords, counting}
use Rattle.rules.specs.Calls.{Solved, solved, refusedAfter, setCall, solveCall}
use Rattle.rules.specs.CasesOfCompaction.{group}
use Rattle.rules.specs.Compaction.{Compacted, compactCall}
use Rattle.rules.specs.Grammar.{ascii}
use Rattle.rules.specs.TextReading.{ReadAnswer, wasRead, notRead, sheet, refusedIn, readTextCall}
use Rattle.rules.specs.Trees.{Con, opened, var, basic, boolean, equal}
use Rattle.rules.specs.Rules.{rules}
use Rattle.rules.specs.Sheets.{sheets}
use Rattle.rules.specs.Examples.{pool, table, result, work, x}
use Rattle.rules.specs.Offices.{
  named,
  nameNo,
  Word,
  number,
  name,
  namesOne,
  readBack,
  Office,
  here,
  there,
  Entering,
  Shared,
  tableIn,
  entered,
  afterAll,
  answersTo,
  fill,
  written,
}
use Rattle.theorems_offices.specs.Deeds as deeds
use Rattle.theorems_offices.specs.Deeds.{Deed, reads, Done, afterDeeds, Reply, outcome, repliesTo}

-- ══ Names and their numbers ══

abbrev enters : Office → Bytes → Entering
enters o n = record { by = o; name = n }

-- nothing is held
abbrev empty : Shared
empty = record { pool = replicate 8192 0; table = replicate 257 0 }

-- what entering answers
abbrev told : Shared → Bytes → Got (ℕ × Was)
told s n = (enter s.pool s.table n).answer

-- whether a name is new depends on the other office: 'x' is new in the first history, known in the second
known-before : told empty (120 ∷ []) ∷ told (afterAll empty (enters there (120 ∷ []) ∷ [])) (120 ∷ []) ∷ [] ≡ got (0, New) ∷ got (0, Known) ∷ []
unfolding rules entered afterAll
known-before = refl

-- so do numbers: the same name is number 0 alone, and number 1 where the other office came first with 'y'
numbers-differ : answersTo here empty (enters here (120 ∷ []) ∷ []) ∷ answersTo here empty (enters there (121 ∷ []) ∷ enters here (120 ∷ []) ∷ [])
    ∷ [] ≡ (got 0 ∷ []) ∷ (got 1 ∷ []) ∷ []
unfolding rules entered answersTo
numbers-differ = refl

-- the list 'x is boolean', written with those numbers, reads alike
abbrev draft : List Rec
draft = sized (rec 20 0 0 0 ∷ rec 1 0 0 0 ∷ rec 4 0 0 0 ∷ [])

reads-alike : readBack (tableIn (afterAll empty (enters here (120 ∷ []) ∷ []))) (words draft)
    ≡ readBack (tableIn (afterAll empty (enters there (121 ∷ []) ∷ enters here (120 ∷ []) ∷ []))) (written (1 ∷ []) draft [])
unfolding rules counting entered afterAll readBack namesOne nameNo written fill
reads-alike = refl

-- bounds come in the order of bytes, 'a' before 'b', also where the other office came first with 'b', so that the numbers are the other way about
abbrev bounds : Shared → List Rec → List Word
bounds s rs = readBack (tableIn s) (take 8 (solveCall s.pool s.table (words rs) result work).result)

abbrev alone : Shared
alone = afterAll empty (enters here (97 ∷ []) ∷ enters here (98 ∷ []) ∷ [])

abbrev second : Shared
second = afterAll empty (enters there (98 ∷ []) ∷ enters here (97 ∷ []) ∷ enters here (98 ∷ []) ∷ [])

-- is-dimension of 'b', then of 'a'
abbrev twoBounds : List Rec
twoBounds = sized (rec 21 0 0 0 ∷ rec 1 1 0 0 ∷ rec 21 0 0 0 ∷ rec 1 0 0 0 ∷ [])

bounds-by-bytes : bounds alone twoBounds ∷ bounds second (map (fill (1 ∷ 0 ∷ [])) twoBounds) ∷ []
    ≡ (number (head 25 1) ∷ name (named (97 ∷ [])) ∷ number 0 ∷ number 0 ∷ number (head 25 1) ∷ name (named (98 ∷ [])) ∷ number 0 ∷ number 0 ∷ [])
    ∷ (number (head 25 1) ∷ name (named (97 ∷ [])) ∷ number 0 ∷ number 0 ∷ number (head 25 1) ∷ name (named (98 ∷ [])) ∷ number 0 ∷ number 0 ∷ [])
    ∷ []
unfolding rules counting result work entered afterAll readBack namesOne nameNo fill
bounds-by-bytes = refl

-- ══ Where there is no room ══

-- 255 names of one byte each, and room for one more
up_to : ℕ → ℕ → List ℕ
up_to a zero = []
up_to a (suc n) = a ∷ up_to (suc a) n

abbrev almostFull : Shared
almostFull = record { pool = up_to 0 255 ++ replicate 7937 0; table = 255 ∷ (up_to 1 255 ++ 0 ∷ []) }

-- 3 may come sooner: the last number goes to whoever comes first
three-sooner : answersTo here almostFull (enters here (65 ∷ 66 ∷ []) ∷ [])
    ∷ answersTo here almostFull (enters there (255 ∷ []) ∷ enters here (65 ∷ 66 ∷ []) ∷ []) ∷ [] ≡ (got 255 ∷ []) ∷ (refused 3 ∷ []) ∷ []
unfolding rules up_to entered answersTo
three-sooner = refl

-- a stray number, which the office was not given, is 1 until the other office enters a name
abbrev strays : List ℕ
strays = sizedWords (rec 20 0 0 0 ∷ rec 1 6 0 0 ∷ rec 4 0 0 0 ∷ [])

abbrev shared : Shared
shared = record { pool = pool; table = table }

abbrev later : Shared
later = afterAll shared (enters there (113 ∷ []) ∷ [])

stray-number : setCall pool table strays ∷ setCall later.pool later.table strays ∷ [] ≡ refused 1 ∷ got tt ∷ []
unfolding rules counting pool table entered afterAll
stray-number = refl

-- ══ Other calls ══

-- the check of 4 is within one set: x is a variable of one office's set and a parameter of the other's, and both are accepted; together they are 4
abbrev variableSet : List Rec
variableSet = rec 20 0 0 0 ∷ rec 1 x 0 0 ∷ rec 4 0 0 0 ∷ []

abbrev parameterSet : List Rec
parameterSet = rec 21 0 0 0 ∷ rec 2 x 0 0 ∷ []

abbrev answered : List Rec → Solved
answered rs = (solveCall pool table (sizedWords rs) result work).answer

within-one-set : map answered (variableSet ∷ parameterSet ∷ (variableSet ++ parameterSet) ∷ []) ≡ solved 2 0 1 ∷ solved 0 1 0 ∷ refusedAfter 4 0 ∷ []
unfolding rules counting pool table result work
within-one-set = refl

-- how many names of a sheet are new depends on the other office: 'x' is new in the first history, known in the second
abbrev typed : Bytes → Shared → ReadAnswer
typed text s = (readTextCall s.pool s.table text result work).answer

news-differ : map (typed (ascii "?x ~ Bool")) (empty ∷ afterAll empty (enters there (120 ∷ []) ∷ []) ∷ []) ≡ wasRead 3 1 1 ∷ wasRead 3 1 0 ∷ []
unfolding rules sheets result work entered afterAll
news-differ = refl

-- where one reading meets 3, the other may not
three-on-one : map (typed (ascii "?AB ~ Bool")) (almostFull ∷ afterAll almostFull (enters there (255 ∷ []) ∷ []) ∷ []) ≡ wasRead 3 1 1 ∷ notRead 3 1 2 ∷ []
unfolding rules sheets up_to result work entered afterAll
three-on-one = refl

-- compaction keeps the same names, in the order of each table: 'a', 'b' and 'b', 'a'
abbrev left : Shared → List ℕ → List Bytes
left s sets = names_of (table_of c.pool c.table)
  where
    c : Compacted
    c = compactCall s.pool s.table sets (4 ∷ [])

orders-differ : left alone (words twoBounds) ∷ left second (words (map (fill (1 ∷ 0 ∷ [])) twoBounds)) ∷ []
    ≡ ((97 ∷ []) ∷ (98 ∷ []) ∷ []) ∷ ((98 ∷ []) ∷ (97 ∷ []) ∷ []) ∷ []
unfolding rules group counting entered afterAll fill
orders-differ = refl

-- the same sheet has other numbers where the other office came first, with a sheet or a name of its own; a sheet that is refused in its second line
-- leaves no name
abbrev does : Office → Deed → Done
does o d = record { by = o; deed = d }

abbrev setOf : Reply → List (Con ℕ)
setOf (outcome (sheet cs u)) = cs
setOf (outcome (refusedIn n l c)) = []
setOf (deeds.number a) = []

sheet-numbers : map setOf (repliesTo here empty (does here (reads (ascii "?x ~ Bool")) ∷ [])
    ++ repliesTo here empty (does there (reads (ascii "?y ~ Bool")) ∷ does there (deeds.enters (122 ∷ [])) ∷ does here (reads (ascii "?x ~ Bool")) ∷ []))
    ≡ (equal (opened (var 0)) (basic boolean) ∷ []) ∷ (equal (opened (var 2)) (basic boolean) ∷ []) ∷ []
unfolding rules sheets entered repliesTo deeds.replyTo deeds.afterDeed
sheet-numbers = refl

refused-leaves-nothing : names_of (tableIn (afterDeeds empty (does there (reads (ascii "?y ~ Bool\n?")) ∷ does here (reads (ascii "?x ~ Bool")) ∷ [])))
    ≡ (120 ∷ []) ∷ []
unfolding rules sheets afterDeeds deeds.afterDeed
refused-leaves-nothing = refl
