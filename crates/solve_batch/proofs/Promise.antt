-- Each set of a batch is answered as `solve` answers it by itself.
use Rattle.std.specs.Prelude.{◌≡◌, refl, drop}
use Rattle.std.proofs.Math.Path.{sym, ap, ap₂}
use Rattle.std.proofs.Common.{◌∙◌, arith, drop-drop}
use mathlib.Core.List.{List, [], ◌∷◌, ◌++◌, append_assoc, map}
use Prim.Native.Nat.{ℕ, zero, suc, ◌*◌, ◌<◌}
use Rattle.std.proofs.Math.ListN.{length, take, get_or}
use Rattle.std.proofs.Math.Seq.{take_at, drop_at}
use Rattle.rules.specs.Base.{Got, got, refused, collect, sum_of}
use Rattle.rules.specs.Calls.{lent, over, resultAfter, Solved, solvedOf, solvedWords, solvedSet, solveCall}
use Rattle.rules.specs.Names.{Table, table_of}
use Rattle.rules.specs.Solving.{Answer}
use Rattle.rules.specs.Batches.{cutSets, eachSolved, answeredWords, fourWords, recordsOf, batchLent, batchFits, writtenOver, batchCall}
use Rattle.laws.specs.Answers.{words_of, manyOf}
use Rattle.laws.proofs.Answers.{answer-long, four-long}
use Rattle.solve_batch.specs.Theorems.{OnlyMoved}
use Rattle.solve_batch.specs.Promise.{set_at, place_of, AsAlone}
use Rattle.solve_batch.specs.Steps.{fourOf}

-- ══ Parts one behind another ══

module _ {A : Type 0} (f : A → List ℕ) (g : A → ℕ) (long : (a : A) → length (f a) ≡ g a) where
  -- the i-th part stands behind those before it
  piece : (as' : List A) (i : ℕ) (d : A) (rest : List ℕ) → i < length as'
      → take (g (get_or as' i d)) (drop (sum_of g (take i as')) (collect f as' ++ rest)) ≡ f (get_or as' i d)
  unfolding collect
  piece [] i d rest h = absurd (omega arith)
  piece (a ∷ as') zero d rest h = ap (take (g a)) (append_assoc (f a) (collect f as') rest) ∙ take_at (f a) (collect f as' ++ rest) (g a) (long a)
  piece (a ∷ as') (suc i) d rest h =
      ap (take (g (get_or as' i d)))
      (sym (drop-drop (sum_of g (take i as')) (g a) ((f a ++ collect f as') ++ rest))
      ∙ ap (drop (sum_of g (take i as'))) (ap (drop (g a)) (append_assoc (f a) (collect f as') rest) ∙ drop_at (f a) (collect f as' ++ rest) (g a) (long a)))
      ∙ piece as' i d rest (omega arith)

fours : {A : Type 0} (as' : List A) (i : ℕ) → i < length as' → sum_of (λ _. 4) (take i as') ≡ i * 4
fours [] i h = absurd (omega arith)
fours (a ∷ as') zero h = refl
fours (a ∷ as') (suc i) h = omega (arith, fours as' i (omega arith))

sum-scale : {A : Type 0} (g : A → ℕ) (l : List A) → sum_of g l * 4 ≡ sum_of (λ a. g a * 4) l
sum-scale g [] = refl
sum-scale g (a ∷ l) = omega (arith, sum-scale g l)

get_d_map : {A B : Type 0} (f : A → B) (l : List A) (i : ℕ) (d : A) → get_or (map f l) i (f d) ≡ f (get_or l i d)
get_d_map f [] i d = refl
get_d_map f (x ∷ l) zero d = refl
get_d_map f (x ∷ l) (suc i) d = get_d_map f l i d

cut-length : (ns ws : List ℕ) → length (cutSets ns ws) ≡ length ns
unfolding cutSets
cut-length [] ws = refl
cut-length (n ∷ ns) ws = ap suc (cut-length ns (drop (n * 4) ws))

map-length : {A B : Type 0} (f : A → B) (l : List A) → length (map f l) ≡ length l
map-length f [] = refl
map-length f (x ∷ l) = ap suc (map-length f l)

-- ══ The promise ══

-- what solving by itself answers
module _ (pool table set fresh work : List ℕ) (room : lent pool table fresh work ≡ got tt) where
  alone-answer : (solveCall pool table set fresh work).answer ≡ solvedOf (solvedSet (table_of pool table) set)
  unfolding solveCall
  alone-answer = rw room

  front : (m : Got (List ℕ)) (n : ℕ) → length (answeredWords m) ≡ n → take n (resultAfter m fresh) ≡ answeredWords m
  unfolding resultAfter over answeredWords
  front (got ws) n e = take_at ws (drop (length ws) fresh) n e
  front (refused k) n e = ap (λ (j : ℕ). take j fresh) (sym e)

  alone-words : take (recordsOf (solveCall pool table set fresh work).answer * 4) (solveCall pool table set fresh work).result
      ≡ words_of (solvedSet (table_of pool table) set)
  unfolding solveCall
  alone-words = let a = solvedSet (table_of pool table) set in rw room (front (solvedWords a) (manyOf a * 4) (answer-long a))

module _ (pool table words lengths result answers work : List ℕ) (met : batchLent pool table lengths result answers work ≡ got tt)
    (fit : batchFits words lengths ≡ got tt) where
  abbrev t : Table
  t = table_of pool table

  abbrev all : List (Got (Answer ℕ))
  all = map (solvedSet t) (cutSets lengths words)

  batch-answers : (batchCall pool table words lengths result answers work).answers ≡ over (collect fourOf (eachSolved t words lengths)) answers
  unfolding batchCall writtenOver
  batch-answers = rw (met, fit)

  batch-result : (batchCall pool table words lengths result answers work).result ≡ over (collect words_of (eachSolved t words lengths)) result
  unfolding batchCall writtenOver
  batch-result = rw (met, fit)

  pub by_itself : (i : ℕ) → i < length lengths → (fresh w : List ℕ) → lent pool table fresh w ≡ got tt
      → AsAlone pool table (set_at words lengths i) i (place_of t words lengths i) (batchCall pool table words lengths result answers work).answers
      (batchCall pool table words lengths result answers work).result fresh w
  unfolding over eachSolved set_at place_of
  by_itself i h fresh w room =
      let one = solvedSet t (set_at words lengths i) in
      let picked : get_or all i (solvedSet t []) ≡ one = get_d_map (solvedSet t) (cutSets lengths words) i [] in
      let many : recordsOf (solveCall pool table (set_at words lengths i) fresh w).answer * 4 ≡ manyOf (get_or all i (solvedSet t [])) * 4 =
      ap (λ (s : Solved). recordsOf s * 4) (alone-answer pool table (set_at words lengths i) fresh w room)
      ∙ sym (ap (λ (a : Got (Answer ℕ)). manyOf a * 4) picked) in
      let inside : i < length all = omega (arith, map-length (solvedSet t) (cutSets lengths words), cut-length lengths words) in
      record {
        told =
            ap₂ (λ (k : ℕ) (b : List ℕ). take 4 (drop k b)) (sym (fours all i inside)) batch-answers
            ∙ piece fourOf (λ _. 4) (λ a. four-long (solvedOf a)) all i (solvedSet t []) (drop (length (collect fourOf all)) answers) inside
            ∙ ap fourOf picked
            ∙ sym (ap fourWords (alone-answer pool table (set_at words lengths i) fresh w room));
        written =
            ap₂ (λ (n : ℕ) (b : List ℕ). take n (drop (sum_of manyOf (take i all) * 4) b)) many batch-result
            ∙ ap (λ (k : ℕ). take (manyOf (get_or all i (solvedSet t [])) * 4) (drop k (over (collect words_of all) result))) (sum-scale manyOf (take i all))
            ∙ piece words_of (λ a. manyOf a * 4) answer-long all i (solvedSet t []) (drop (length (collect words_of all)) result) inside
            ∙ ap words_of picked
            ∙ sym (alone-words pool table (set_at words lengths i) fresh w room);
      }

-- two batches over one table that hold the same set tell the same of it
pub moved : OnlyMoved
moved pool table words lengths result answers work words' lengths' result' answers' work' i j m f h m' f' h' same fresh w room =
    let a = by_itself pool table words lengths result answers work m f i h fresh w room in
    let b = by_itself pool table words' lengths' result' answers' work' m' f' j h' fresh w room in
    let alone : solveCall pool table (set_at words lengths i) fresh w ≡ solveCall pool table (set_at words' lengths' j) fresh w =
    ap (λ (set : List ℕ). solveCall pool table set fresh w) same in
    let told = (rw (← alone) at b.told) in
    let written = (rw (← alone) at b.written) in
    (a.told ∙ sym told, a.written ∙ sym written)
