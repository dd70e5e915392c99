-- Which lines of a set conflict. First what a conflict is, by choices of dimensions: nothing of the solver is used. Then the call that finds one.
use Rattle.std.specs.Prelude.{◌≡◌, Bool, true, false, ℕ, zero, suc, ◌/◌, leb, length, take, drop}
use mathlib.Core.List.{List, [], ◌∷◌, ◌++◌, map}
use Rattle.std.proofs.Math.Option.{Option, none, some}
use Rattle.rules.specs.Base.{Got, got, refused, ◌>>=◌, ◌>>◌, bounded, keep, collect}
use Rattle.rules.specs.Trees.{Names, Con, opensCon}
use Rattle.rules.specs.Names.{Table, table_of, numbersOf}
use Rattle.rules.specs.Solving.{Answer, accepted, remaining, stopped, solve}
use Rattle.rules.specs.Choices.{ChoosingWide, wide}
use Rattle.rules.specs.Calls.{lent, shortLists, tableKept, setGiven, apart, resultAfter, workAfter}

-- ══ What a conflict is ══

-- constraints that no choice of dimensions with rational powers makes true together, though for each of them there is a choice that makes all the
-- others true
pub record Conflict {N : Type 0} (same : Discrete N) (cs : List (Con N)) : Type 0 where
  pub none-for-all : ChoosingWide same cs → ⊥
  pub some-without-one : (before : List (Con N)) (c : Con N) (behind : List (Con N)) → cs ≡ before ++ c ∷ behind → ChoosingWide same (before ++ behind)

-- ══ How one is found: by leaving out lines as long as the rest is refused with 5 ══

-- a constraint behind its place in the set, counted from 0
abbrev pub Line : Type 0 → Type 0
Line N = ℕ × Con N

module _ {N : Type 0} where
  unfoldable pub linesFrom : ℕ → List (Con N) → List (Line N)
  linesFrom i [] = []
  linesFrom i (c ∷ cs) = (i, c) ∷ linesFrom (suc i) cs

  -- of lines, the constraints that are wide: the others are passed over
  abbrev pub wideOf : List (Line N) → List (Con N)
  wideOf ls = keep wide (map (λ l. l.1) ls)

  -- 5 is a yes and an accepted answer a no; another refusal is an answer of its own
  unfoldable pub remains : Answer N → Got Bool
  remains (accepted bs ns k) = got false
  remains (remaining cs k) = got true
  remains (stopped n k) = refused n

module _ {N : Type 0} (ν : Names N) where
  -- are the wide ones of these lines refused with 5?
  unfoldable pub conflicting : List (Line N) → Got Bool
  conflicting ls = remains (solve ν bounded (wideOf ls))

  -- Of three runs of lines that are refused with 5 together: what is kept, what is looked at, and what lies behind and is looked at later. Where the
  -- others are still refused with 5, all that is looked at is left out; else its first half is looked at, then its second, down to single lines, which
  -- are kept. d is how many halvings are left. The answer: all that is kept then
  unfoldable pub leaveOut : ℕ → List (Line N) → List (Line N) → List (Line N) → Got (List (Line N))
  leaveOut zero kept ls behind = conflicting (kept ++ behind) >>= λ r. elim r [ true ↦ got kept | false ↦ got (kept ++ ls) ]
  leaveOut (suc d) kept ls behind = conflicting (kept ++ behind) >>= λ r. elim r [
    | true ↦ got kept
    | false ↦ elim (leb (length ls) 1) [
      | true ↦ got (kept ++ ls)
      | false ↦ leaveOut d kept (take (length ls / 2) ls) (drop (length ls / 2) ls ++ behind) >>= λ more. leaveOut d more (drop (length ls / 2) ls) behind
    ]
  ]

  -- the lines of a conflict among the wide constraints of a set, if these are refused with 5. A set has at most 2,048 constraints: 11 halvings
  unfoldable pub conflictIn : List (Con N) → Got (Option (List (Line N)))
  conflictIn cs = conflicting (linesFrom 0 cs) >>= λ r. elim r [
    | true ↦ leaveOut 11 [] (linesFrom 0 cs) [] >>= λ ls. got (some ls)
    | false ↦ got none
  ]

-- ══ The call ══

-- the checks at entry are those of solving, in its order: 8, 1, 4
unfoldable pub conflictOf : Table → List ℕ → Got (Option (List (Line ℕ)))
conflictOf t set = do
  shortLists (set ∷ [])
  tableKept t
  cs ← setGiven t set
  apart t (collect opensCon cs)
  conflictIn (numbersOf t) cs

-- the places of the lines, and how many there are
abbrev pub placesOf : Option (List (Line ℕ)) → List ℕ
placesOf none = []
placesOf (some ls) = map (λ l. l.0) ls

abbrev pub manyOf : Option (List (Line ℕ)) → Option ℕ
manyOf none = none
manyOf (some ls) = some (length ls)

-- how many lines conflict, if any do; and the two buffers
pub record Conflicts : Type 0 where
  pub answer : Got (Option ℕ)
  pub result : List ℕ
  pub work : List ℕ

-- 10 first. The places of the lines that conflict stand at the front of the result buffer, which is unchanged past them, and where nothing conflicts or
-- the answer is a refusal; the work buffer is all zero except for 10
unfoldable pub conflictCall : List ℕ → List ℕ → List ℕ → List ℕ → List ℕ → Conflicts
conflictCall pool table set result work = record {
  answer = lent pool table result work >> conflictOf (table_of pool table) set >>= λ f. got (manyOf f);
  result = resultAfter (lent pool table result work >> conflictOf (table_of pool table) set >>= λ f. got (placesOf f)) result;
  work = workAfter (lent pool table result work) work;
}
