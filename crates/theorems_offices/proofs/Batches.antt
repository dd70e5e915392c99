-- Several sets in one call, and the ceiling on rounds: lists that read alike are answered alike.
use Rattle.std.specs.Prelude.{◌≡◌, take, drop}
use Rattle.std.proofs.Math.Path.{refl, ap, ap₂, sym}
use Rattle.std.proofs.Common.{◌∙◌, arith, length-append}
use mathlib.Core.List.{List, [], ◌∷◌, ◌++◌, map}
use Prim.Native.Nat.{ℕ, zero, suc, ◌+◌, ◌*◌}
use Rattle.std.proofs.Math.ListN.{length, length-map}
use Rattle.rules.specs.Base.{Got, got, refused, ◌>>=◌, ◌>>◌, collect, sum_of}
use Rattle.rules.specs.Trees.{Con, opensCon}
use Rattle.rules.specs.Names.{Table, table_of, numbersOf}
use Rattle.rules.specs.Solving.{Answer, accepted, remaining, stopped}
use Rattle.rules.specs.Contents.{variablesIn, sort}
use Rattle.rules.specs.Calls.{over, resultAfter, solvedOf, solvedWords, solvedSet}
use Rattle.rules.specs.Batches.{cutSets, eachSolved, answeredWords, fourWords, recordsOf, writtenOver, batchLent, batchFits, batchCall}
use Rattle.rules.specs.Ceiling.{variablesOf, ceilingFor, ceilingCall}
use Rattle.rules.specs.Offices.{byBytes, nameNo, mapCon, readBack, ReadAlike, LentAlike, BatchAlike, frontSolved}
use Rattle.laws.specs.NameTable.{Good}
use Rattle.laws.specs.Answers.{words_of, manyOf}
use Rattle.laws.proofs.Answers.{answer-long, four-long}
use Rattle.laws.proofs.Alike.{both, onward}
use Rattle.theorems_offices.proofs.Both.{checked, equal-answers}
use Rattle.theorems_offices.proofs.Contents.{variables-in, sort-map}
use Rattle.theorems_offices.proofs.Naming.{keeps}
use Rattle.theorems_offices.proofs.Queries.{alone}
use Rattle.theorems_offices.proofs.Results.{nothing, front-over, joined-alike}
use Rattle.theorems_offices.proofs.Given.{Alike, as_long, lent-table, lent-work, constraints-given, set-opens}
use Rattle.theorems_offices.proofs.Solves.{solved-set, Same, same}

abbrev fourOf : Got (Answer ℕ) → List ℕ
fourOf a = fourWords (solvedOf a)

-- ══ A list cut behind whole records ══

pub four-more : (n : ℕ) → suc n * 4 ≡ suc (suc (suc (suc (n * 4))))
four-more n = omega arith

module _ (t : Table) where
  back-take : (n : ℕ) (ws : List ℕ) → readBack t (take (n * 4) ws) ≡ take (n * 4) (readBack t ws)
  unfolding readBack
  back-take zero ws = refl
  back-take (suc n) [] = rw (four-more n)
  back-take (suc n) (k ∷ []) = rw (four-more n)
  back-take (suc n) (k ∷ a ∷ []) = rw (four-more n)
  back-take (suc n) (k ∷ a ∷ b ∷ []) = rw (four-more n)
  back-take (suc n) (k ∷ a ∷ b ∷ c ∷ ws) = rw (four-more n, back-take n ws)

  back-drop : (n : ℕ) (ws : List ℕ) → readBack t (drop (n * 4) ws) ≡ drop (n * 4) (readBack t ws)
  unfolding readBack
  back-drop zero ws = refl
  back-drop (suc n) [] = rw (four-more n)
  back-drop (suc n) (k ∷ []) = rw (four-more n)
  back-drop (suc n) (k ∷ a ∷ []) = rw (four-more n)
  back-drop (suc n) (k ∷ a ∷ b ∷ []) = rw (four-more n)
  back-drop (suc n) (k ∷ a ∷ b ∷ c ∷ ws) = rw (four-more n) (back-drop n ws)

module _ (t t' : Table) (n : ℕ) (ws ws' : List ℕ) (e : ReadAlike t t' ws ws') where
  pub take-alike : ReadAlike t t' (take (n * 4) ws) (take (n * 4) ws')
  take-alike = record { words = back-take t n ws ∙ ap (take (n * 4)) e.words ∙ sym (back-take t' n ws') }

  pub drop-alike : ReadAlike t t' (drop (n * 4) ws) (drop (n * 4) ws')
  drop-alike = record { words = back-drop t n ws ∙ ap (drop (n * 4)) e.words ∙ sym (back-drop t' n ws') }

-- what was written stands in front
at_front : (ws b : List ℕ) (n : ℕ) → length ws ≡ n → take n (over ws b) ≡ ws
at_front ws b n e = ap (λ (k : ℕ). take k (over ws b)) (sym e) ∙ front-over ws b

-- what solving writes in an empty buffer is its answer's words
fronted : (a : Got (Answer ℕ)) → frontSolved (solvedOf a) (resultAfter (solvedWords a) []) ≡ words_of a
unfolding solvedOf solvedWords resultAfter answeredWords recordsOf
fronted (refused n) = refl
fronted (got (accepted bs ns k)) = at_front _ [] _ (answer-long (got (accepted bs ns k)))
fronted (got (remaining cs k)) = at_front _ [] _ (answer-long (got (remaining cs k)))
fronted (got (stopped n k)) = refl

-- ══ Many sets ══

module _ {pool table pool' table' : List ℕ} (good : Good pool table) (good' : Good pool' table') where
  abbrev T₁ : Table
  T₁ = table_of pool table

  abbrev T₂ : Table
  T₂ = table_of pool' table'

  record Each (as' bs : List (Got (Answer ℕ))) : Type 0 where
    counts : sum_of manyOf as' ≡ sum_of manyOf bs
    fours : collect fourOf as' ≡ collect fourOf bs
    words : ReadAlike T₁ T₂ (collect words_of as') (collect words_of bs)

  one : (ws ws' : List ℕ) → Alike good good' ws ws' → Same good good' (solvedSet T₁ ws) (solvedSet T₂ ws')
  one ws ws' e = same good good' (solved-set good good' ws ws' e)

  one-words : (m m' : Got (Answer ℕ)) → Same good good' m m' → ReadAlike T₁ T₂ (words_of m) (words_of m')
  one-words m m' s = let r = s.records [] [] in rw (fronted m, fronted m') at r

  each : (ns ws ws' : List ℕ) → Alike good good' ws ws' → Each (eachSolved T₁ ws ns) (eachSolved T₂ ws' ns)
  unfolding eachSolved cutSets collect
  each [] ws ws' e = record { counts = refl; fours = refl; words = nothing T₁ T₂ }
  each (n ∷ ns) ws ws' e =
      let m = solvedSet T₁ (take (n * 4) ws) in
      let m' = solvedSet T₂ (take (n * 4) ws') in
      let s = one (take (n * 4) ws) (take (n * 4) ws') (take-alike T₁ T₂ n ws ws' e) in
      let r = each ns (drop (n * 4) ws) (drop (n * 4) ws') (drop-alike T₁ T₂ n ws ws' e) in
      let many : manyOf m ≡ manyOf m' = ap recordsOf s.answer in
      record {
        counts = ap₂ ◌+◌ many r.counts;
        fours = ap₂ (λ (a b : List ℕ). a ++ b) (ap fourWords s.answer) r.fours;
        words = joined-alike T₁ T₂ (manyOf m) (words_of m) (words_of m') _ _ (answer-long m) (answer-long m' ∙ ap (λ (k : ℕ). k * 4) (sym many))
            (one-words m m' s) r.words;
      }

-- ══ The buffers ══

words_long : (as' : List (Got (Answer ℕ))) → length (collect words_of as') ≡ sum_of manyOf as' * 4
unfolding collect
words_long [] = refl
words_long (a ∷ as') = omega (arith, length-append (words_of a) (collect words_of as'), answer-long a, words_long as')

fours-long : (ns : List ℕ) (t : Table) (ws : List ℕ) → length (collect fourOf (eachSolved t ws ns)) ≡ length ns * 4
unfolding eachSolved cutSets collect
fours-long [] t ws = refl
fours-long (n ∷ ns) t ws =
    let a = solvedSet t (take (n * 4) ws) in
    omega (arith, length-append (fourOf a) (collect fourOf (eachSolved t (drop (n * 4) ws) ns)), four-long (solvedOf a), fours-long ns t (drop (n * 4) ws))

module _ {pool table pool' table' : List ℕ} (good : Good pool table) (good' : Good pool' table') where
  -- by what the checks of the whole call say
  built : (g : Got (Unit {0})) (as' bs : List (Got (Answer ℕ))) (n : ℕ) (r r' s s' w w' : List ℕ) → Each good good' as' bs → length (collect fourOf as') ≡ n * 4
      → BatchAlike (table_of pool table) (table_of pool' table') n
      (record { answer = g >>= λ u. got (sum_of manyOf as'); result = writtenOver g words_of as' r; answers = writtenOver g fourOf as' s; work = w })
      (record { answer = g >>= λ u. got (sum_of manyOf bs); result = writtenOver g words_of bs r'; answers = writtenOver g fourOf bs s'; work = w' })
  unfolding writtenOver
  built (refused k) as' bs n r r' s s' w w' e f = record { answer = refl; told = refl; records = nothing (table_of pool table) (table_of pool' table') }
  built (got u) as' bs n r r' s s' w w' e f = record {
    answer = ap got e.counts;
    told = at_front (collect fourOf as') s (n * 4) f ∙ e.fours ∙ sym (at_front (collect fourOf bs) s' (n * 4) (ap length (sym e.fours) ∙ f));
    records = rw (
      at_front (collect words_of as') r (sum_of manyOf as' * 4) (words_long as'),
      at_front (collect words_of bs) r' (sum_of manyOf bs * 4) (words_long bs),
    ) e.words;
  }

  batch-lent : (lengths result result' answers answers' work work' : List ℕ) → LentAlike result result' work work' → length answers ≡ length answers'
      → batchLent pool' table' lengths result' answers' work' ≡ batchLent pool table lengths result answers work
  unfolding batchLent
  batch-lent lengths result result' answers answers' work work' l a = sym (rw (lent-table good good', l.results, a, lent-work work work' l.works))

  batch-fits : (ws ws' lengths : List ℕ) → Alike good good' ws ws' → batchFits ws' lengths ≡ batchFits ws lengths
  unfolding batchFits
  batch-fits ws ws' lengths e = sym (rw (as_long e))

  pub batch-alike : (ws ws' lengths result result' answers answers' work work' : List ℕ) → Alike good good' ws ws'
      → LentAlike result result' work work' → length answers ≡ length answers'
      → BatchAlike (table_of pool table) (table_of pool' table') (length lengths) (batchCall pool table ws lengths result answers work)
      (batchCall pool' table' ws' lengths result' answers' work')
  unfolding batchCall
  batch-alike ws ws' lengths result result' answers answers' work work' e l a =
      rw (batch-lent lengths result result' answers answers' work work' l a, batch-fits ws ws' lengths e)
      (built (batchLent pool table lengths result answers work >> batchFits ws lengths) (eachSolved (table_of pool table) ws lengths)
      (eachSolved (table_of pool' table') ws' lengths) (length lengths) result result' answers answers' _ _
      (each good good' lengths ws ws' e) (fours-long lengths (table_of pool table) ws))

  -- V counts names, whatever their numbers
  counted : (cs cs' : List (Con ℕ)) → map (mapCon (nameNo (table_of pool table))) cs ≡ map (mapCon (nameNo (table_of pool' table'))) cs'
      → length (variablesOf (numbersOf (table_of pool table)) cs) ≡ length (variablesOf (numbersOf (table_of pool' table')) cs')
  unfolding variablesOf
  counted cs cs' i =
      let f = nameNo (table_of pool table) in
      let f' = nameNo (table_of pool' table') in
      let xs = variablesIn (collect opensCon cs) in
      let xs' = variablesIn (collect opensCon cs') in
      let names : map f xs ≡ map f' xs' = sym (variables-in f (collect opensCon cs)) ∙ ap variablesIn (set-opens good good' cs cs' i)
      ∙ variables-in f' (collect opensCon cs') in
      sym (length-map (sort (numbersOf (table_of pool table)) xs) f)
      ∙ ap length (sym (sort-map _ byBytes f (keeps good) xs) ∙ ap (sort byBytes) names ∙ sort-map _ byBytes f' (keeps good') xs')
      ∙ length-map (sort (numbersOf (table_of pool' table')) xs') f'

  pub ceiling-alike : (ws ws' : List ℕ) → Alike good good' ws ws' → ceilingCall pool table ws ≡ ceilingCall pool' table' ws'
  unfolding ceilingCall
  ceiling-alike ws ws' e = equal-answers
      (checked (alone good good' ws ws' e) (onward _ _ (constraints-given good good' ws ws' e) (λ cs cs' i. both (ap ceilingFor (counted cs cs' i)))))
