-- What stands at the front of a list, put at the front of the result buffer.
use Rattle.std.specs.Prelude as std
use Rattle.std.specs.Prelude.{Result, Ok, Err, IfOk, is_none, ◌≡◌, refl, Bool, List, [], ◌∷◌, ◌++◌, ℕ, ◌*◌, ◌≤◌, ◌⊎◌, length, take, drop, replicate}
use Rattle.std.proofs.Common.{sym, ap, subst, ◌∙◌, inl, inr, arith, zero-add, length-append}
use Rattle.std.proofs.lemmas.List.Edits.{sets, sets-eq}
use Rattle.std.proofs.Math.Seq.{slice, take-append_seam}
use Rattle.rules.specs.Base.{Got, got, refused, ◌>>◌, bounded}
use Rattle.rules.specs.Batches.{answeredWords, recordsOf}
use Rattle.rules.specs.Calls.{shortLists, lent, over, resultAfter, workAfter, setGiven, solvedOf, solvedWords, solvedSet}
use Rattle.rules.specs.Confirming.{confirmedSet, confirmCall}
use Rattle.rules.specs.Names.{Table, table_of, numbersOf, lentTable, tableGiven}
use Rattle.rules.specs.Refusals.{number_of, toldBy}
use Rattle.rules.specs.declared.Refusal.{Refusal}
use Rattle.names.specs.Told.{unit_of}
use Rattle.names.specs.declared.tables.NameTable.{NameTable}
use Rattle.types.specs.Given.{call_over}
use Rattle.types.proofs.Entering.{over_tested}
use Rattle.rules.specs.Solving.{Answer, solve}
use Rattle.rules.specs.Trees.{Con}
use Rattle.rules.specs.declared.Refusal.TheVariants.{ShortBuffer}
use Rattle.laws.specs.Answers.{words_of, manyOf}
use Rattle.laws.proofs.Answers.{answer-long}
use Rattle.solve.specs.declared.Solution.{Solution}
use Rattle.judge.specs.Found.{JudgedAs}
use Rattle.solve.specs.Told.{toldSolution, refusedAs, solutionAs, Answered}
use Rattle.solve_confirm.specs.Told.{ruledBy, VerdictBy, VerdictOn}
use Rattle.solve_confirm.proofs.Ruled.{Ruled, is-ruled}

-- the words of an answer, where they were written to
front-of : (m : Got (List ℕ)) (b : List ℕ) → take (length (answeredWords m)) (resultAfter m b) ≡ answeredWords m
unfolding answeredWords resultAfter over
front-of (got ws) b = take-append_seam ws (drop (length ws) b)
front-of (refused i) b = refl

within : (m : Got (List ℕ)) (b : List ℕ) → length (answeredWords m) ≤ length (resultAfter m b)
unfolding answeredWords resultAfter over
within (got ws) b = omega (arith, length-append ws (drop (length ws) b))
within (refused i) b = omega arith

pub after-is : (m : Got (List ℕ)) (b : List ℕ) → over (answeredWords m) b ≡ resultAfter m b
unfolding answeredWords resultAfter over
after-is (got ws) b = refl
after-is (refused i) b = refl

-- m: what is answered; a: what was written at the front of w, with the words of m or, where m has none, any
module _ (m a : Got (Answer ℕ)) (b w : List ℕ) (e : w ≡ resultAfter (solvedWords a) b) (h : (words_of m ≡ words_of a) ⊎ (words_of m ≡ [])) where
  pub stands : take (manyOf m * 4) w ≡ words_of m
  stands = ap (λ (k : ℕ). take k w) (sym (answer-long m)) ∙ go h
    where
      go : ((words_of m ≡ words_of a) ⊎ (words_of m ≡ [])) → take (length (words_of m)) w ≡ words_of m
      go (inl q) = rw (q, e) (front-of (solvedWords a) b)
      go (inr q) = rw q refl

  pub few : length w ≡ 8192 → manyOf m ≤ 2048
  few k = go h
    where
      go : ((words_of m ≡ words_of a) ⊎ (words_of m ≡ [])) → manyOf m ≤ 2048
      go (inl q) = omega (arith, answer-long m, ap length q, within (solvedWords a) b, ap length e, k)
      go (inr q) = omega (arith, answer-long m, ap length q)

  -- copied to the front of a buffer that has room
  pub copied : (n : ℕ) (result result' : List ℕ) → n ≡ manyOf m → length w ≡ 8192 → 8192 ≤ length result
      → result' ≡ sets result 0 (slice 0 (n * 4) w) → result' ≡ resultAfter (solvedWords m) result
  unfolding over
  copied n result result' i k room c =
      let f : slice 0 (n * 4) w ≡ words_of m = ap (λ (j : ℕ). slice 0 (j * 4) w) i ∙ stands in
      c
      ∙ ap (sets result 0) f
      ∙ sets-eq (words_of m) result 0 (omega (arith, answer-long m, few k))
      ∙ ap (λ (j : ℕ). words_of m ++ drop j result) (zero-add (length (words_of m)))
      ∙ after-is (solvedWords m) result

-- b: the array in which solving left w; v: the verdict on its answer; s: what is answered
module _ (t : Table) (set b w : List ℕ) (v : Got Bool) (solution s : Solution) (a : Answered (solvedSet t set) b w solution)
    (j : (cs : List (Con ℕ)) → setGiven t set ≡ got cs → JudgedAs (numbersOf t) cs (solvedSet t set) v)
    (r : toldSolution s ≡ ruledBy v (toldSolution solution)) where
  abbrev by-ruling : Ruled t set v
  by-ruling = is-ruled t set v j

  pub told : toldSolution s ≡ solvedOf (confirmedSet t set)
  told = r ∙ ap (ruledBy v) a.answer ∙ by-ruling.answer

  pub small : length w ≡ 8192 → recordsOf (toldSolution s) ≤ 2048
  small k = omega (arith, ap recordsOf told, few (confirmedSet t set) (solvedSet t set) b w a.buffer by-ruling.words k)

  pub put-over : (n : ℕ) (result result' : List ℕ) → n ≡ recordsOf (toldSolution s) → length w ≡ 8192 → 8192 ≤ length result
      → result' ≡ sets result 0 (slice 0 (n * 4) w)
      → result' ≡ resultAfter (solvedWords (confirmedSet t set)) result
  put-over n result result' i k room c =
      copied (confirmedSet t set) (solvedSet t set) b w a.buffer by-ruling.words n result result' (i ∙ ap recordsOf told) k room c

module _ (pool table set result work : List ℕ) where
  pub call-short : (s : Solution) → s ≡ refusedAs ShortBuffer 0 → lent pool table result work ≡ refused 10
      → solutionAs s result work ≡ confirmCall pool table set result work
  unfolding confirmCall solvedOf solvedWords resultAfter workAfter
  call-short s i e = rw (i, e)

  pub called : (s : Solution) (w result' work' : List ℕ) → length w ≡ length work → lent pool table result work ≡ got tt
      → toldSolution s ≡ solvedOf (confirmedSet (table_of pool table) set)
      → result' ≡ resultAfter (solvedWords (confirmedSet (table_of pool table) set)) result → work' ≡ replicate (length w) 0
      → solutionAs s result' work' ≡ confirmCall pool table set result work
  unfolding confirmCall workAfter
  called s w result' work' n e a b z = rw (e, a, b, z, n)

-- ══ The table's test ══

-- what is said over the table that was tested is said over what was lent
module _ (pool table set : List ℕ) (l : lentTable pool table ≡ got tt) (names : Result NameTable Refusal) (e : toldBy unit_of names ≡ tableGiven pool table)
    (i : IfOk names (λ n. (n.pool.now ≡ pool) × (n.table.now ≡ table))) where
  same : call_over names solvedSet set ≡ solvedSet (table_of pool table) set
  unfolding solvedSet
  same = ap (λ (f : List ℕ → Got (Answer ℕ)). f set) (over_tested (λ t cs. got (solve (numbersOf t) bounded cs)) pool table l names e i)

  pub answered-over : (b b' : List ℕ) (s : Solution) → Answered (call_over names solvedSet set) b b' s → Answered (solvedSet (table_of pool table) set) b b' s
  answered-over b b' s a = subst (λ (m : Got (Answer ℕ)). Answered m b b' s) same a

  pub judged-over : (r : Result (std.Option ℕ) Refusal) → IfOk names (λ n. VerdictOn n set r) → (cs : List (Con ℕ))
      → setGiven (table_of pool table) set ≡ got cs → JudgedAs (numbersOf (table_of pool table)) cs (solvedSet (table_of pool table) set) (toldBy is_none r)
  judged-over r v = go names i v same
    where
      go : (names : Result NameTable Refusal) → IfOk names (λ n. (n.pool.now ≡ pool) × (n.table.now ≡ table)) → IfOk names (λ n. VerdictOn n set r)
          → call_over names solvedSet set ≡ solvedSet (table_of pool table) set → (cs : List (Con ℕ)) → setGiven (table_of pool table) set ≡ got cs
          → JudgedAs (numbersOf (table_of pool table)) cs (solvedSet (table_of pool table) set) (toldBy is_none r)
      go (Ok n) j w o cs g =
          (subst (λ (p : List ℕ). VerdictBy p table set r) j.0 (subst (λ (q : List ℕ). VerdictBy n.pool.now q set r) j.1 w)).judged cs g
      go (Err why) j w o cs g =
          subst (λ (m : Got (Answer ℕ)). JudgedAs (numbersOf (table_of pool table)) cs m (toldBy is_none r)) o (none (shortLists (set ∷ [])))
        where
          none : (m : Got (Unit {0})) → JudgedAs (numbersOf (table_of pool table)) cs (m >> refused (number_of why)) (toldBy is_none r)
          none (got u) = tt
          none (refused k) = tt
