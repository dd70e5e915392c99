-- Compaction by computation, over the names of rules' Examples: x y z a L P.
use Rattle.std.specs.Prelude.{◌≡◌, refl, List, [], ◌∷◌, ◌++◌, ℕ, take, replicate}
use Rattle.rules.specs.Base.{got, refused}
use Rattle.rules.specs.Batches.{cutSets}
use Rattle.rules.specs.Examples.{pool, table}
use Rattle.rules.specs.Lengths.{sizedWords, counting}
use Rattle.rules.specs.Names.{enter}
use Rattle.rules.specs.Offices.{namesOne}
use Rattle.rules.specs.Rules.{rules}
use Rattle.rules.specs.Writing.{rec}
use Rattle.rules.specs.Compaction.{
  Compacted,
  compactCall,
  compactIf,
  compactChecks,
  squeezed,
  eachGiven,
  poolOf,
  endsOver,
  endsFrom,
  joined,
  keptFrom,
  renumbered,
  newNumber,
  keeps,
  occurs,
}

-- y = scalar; z has the field P, which is x
abbrev first : List ℕ
first = sizedWords (rec 20 0 0 0 ∷ rec 1 1 0 0 ∷ rec 4 0 0 0 ∷ [])

abbrev second : List ℕ
second = sizedWords (rec 23 5 0 0 ∷ rec 1 2 0 0 ∷ rec 2 2 0 0 ∷ [])

unfoldable pub group : Type 0
unfolding rules counting pool table namesOne cutSets compactCall compactIf compactChecks squeezed eachGiven poolOf endsOver endsFrom joined keptFrom
    renumbered newNumber keeps occurs
group = Unit {0}

abbrev both : Compacted
both = compactCall pool table (first ++ second) (3 ∷ 3 ∷ [])

-- y, z and P are kept; P only since a has-field asks for it
kept : (both.answer ≡ got 3) × (take 8 both.pool ≡ 121 ∷ 122 ∷ 80 ∷ 0 ∷ 0 ∷ 0 ∷ 0 ∷ 0 ∷ []) × (take 8 both.table ≡ 3 ∷ 1 ∷ 2 ∷ 3 ∷ 0 ∷ 0 ∷ 0 ∷ 0 ∷ [])
unfolding group
kept = (refl, refl, refl)

-- the sets with their new numbers; a boolean's word a is no name
numbers : both.sets ≡ sizedWords (rec 20 0 0 0 ∷ rec 1 0 0 0 ∷ rec 4 0 0 0 ∷ []) ++ sizedWords (rec 23 2 0 0 ∷ rec 1 1 0 0 ∷ rec 2 1 0 0 ∷ [])
unfolding group
numbers = refl

-- no sets: no names, and all is 0
none_kept : compactCall pool table [] [] ≡ record { answer = got 0; pool = replicate 8192 0; table = replicate 257 0; sets = [] }
unfolding group
none_kept = refl

-- what lies behind the old last end and the old count stays
behind : take 8 (compactCall (take 6 pool ++ replicate 8186 7) (take 7 table ++ replicate 250 9) first (3 ∷ [])).pool
    ++ take 9 (compactCall (take 6 pool ++ replicate 8186 7) (take 7 table ++ replicate 250 9) first (3 ∷ [])).table
    ≡ 121 ∷ 0 ∷ 0 ∷ 0 ∷ 0 ∷ 0 ∷ 7 ∷ 7 ∷ 1 ∷ 1 ∷ 0 ∷ 0 ∷ 0 ∷ 0 ∷ 0 ∷ 9 ∷ 9 ∷ []
unfolding group
behind = refl

-- a number not held, lengths that don't add up: 1; a length over 2,048 before that: 8; a short pool before all: 10
refusals : (compactCall pool table (sizedWords (rec 20 0 0 0 ∷ rec 1 6 0 0 ∷ rec 4 0 0 0 ∷ [])) (3 ∷ [])).answer
    ∷ (compactCall pool table first (2 ∷ [])).answer
    ∷ (compactCall pool table first (2049 ∷ [])).answer
    ∷ (compactCall pool table first (replicate 65 0)).answer
    ∷ (compactCall [] table first (2049 ∷ [])).answer
    ∷ []
    ≡ refused 1 ∷ refused 1 ∷ refused 8 ∷ refused 8 ∷ refused 10 ∷ []
unfolding group
refusals = refl

-- entering goes on at the first freed byte with the next number
goes_on : take 5 (enter both.pool both.table (65 ∷ 66 ∷ [])).pool ++ take 6 (enter both.pool both.table (65 ∷ 66 ∷ [])).table
    ≡ 121 ∷ 122 ∷ 80 ∷ 65 ∷ 66 ∷ 4 ∷ 1 ∷ 2 ∷ 3 ∷ 5 ∷ 0 ∷ []
unfolding group
goes_on = refl
