-- What follows from the definitions of specs/Steps: one set after another: what a step leaves, and what is left to do.
use Rattle.std.specs.Prelude.{◌≡◌, refl}
use Rattle.std.proofs.Math.Path.{sym, ap, ap₂}
use Rattle.std.proofs.Common.{◌∙◌, subst, add-one, drop_of_length-le, length-drop, drop-cons, length-take-le}
use mathlib.Core.List.{List, [], ◌∷◌, ◌++◌, append_assoc, append-nil, map}
use Prim.Native.Nat.{ℕ, suc, ◌+◌, ◌*◌, ◌-◌, ◌≤◌, ◌<◌, zero-le}
use native.Mathlib.Omega.{arith}
use Rattle.std.proofs.Math.ListN.{length, take, drop, get_or, length-append, take-append-drop}
use Rattle.std.proofs.Math.Seq.{sets, length-sets, drop-drop}
use Rattle.std.proofs.lemmas.List.Edits.{sets-eq}
use Rattle.std.proofs.lemmas.List.{drop-append-le}
use Rattle.rules.specs.Base.{Got, got, refused, collect, sum_of}
use Rattle.rules.specs.Calls.{Solved, solvedOf, solvedWords, over, resultAfter}
use Rattle.rules.specs.Solving.{Answer}
use Rattle.laws.specs.Answers.{words_of, manyOf}
use Rattle.laws.proofs.Answers.{over-is, answer-long, four-long}
use Rattle.records.proofs.Stores.{sets-append}
use Rattle.rules.specs.Batches.{cutSets, answeredWords, fourWords}
use Rattle.solve_batch.specs.Steps.{fourOf, each, Finished}

-- a set's answer was written from a word on
pub record Written (a : Got (Answer ℕ)) (s : Solved) (result result' : List ℕ) (at : ℕ) : Type 0 where
  pub answer : s ≡ solvedOf a
  pub buffer : result' ≡ sets result at (words_of a)
  pub long : length (words_of a) ≡ manyOf a * 4
  pub few : manyOf a ≤ 2048

pub finished-as : (f g : List ℕ → Got (Answer ℕ)) (words lengths result result' answers answers' : List ℕ) (r : ℕ) → f ≡ g
    → Finished f words lengths result result' answers answers' r → Finished g words lengths result result' answers answers' r
finished-as f g words lengths result result' answers answers' r e h =
    subst (λ (x : List ℕ → Got (Answer ℕ)). Finished x words lengths result result' answers answers' r) e h

-- ══ Parts of a list ══

pub rest_sum : (lengths : List ℕ) (i : ℕ) → i < length lengths → sum_of (λ n. n) (drop i lengths) ≡ get_or lengths i 0 + sum_of (λ n. n) (drop (i + 1) lengths)
rest_sum lengths i more = rw (add-one i) (ap (sum_of (λ n. n)) (drop-cons lengths i 0 more))

-- ══ One answer ══

-- what was written into a part of the buffer that has the room of one answer: k words from the place `at` on
module _ (a : Got (Answer ℕ)) (result part : List ℕ) (at k : ℕ) (room : at + k ≤ length result) (small : k ≤ 8192) where
  abbrev tail : List ℕ
  tail = drop at result

  abbrev whole : List ℕ
  whole = take at result ++ (part ++ drop k tail)

  inside : length (take k tail) ≡ k
  inside = length-take-le k tail (omega (arith, length-drop at result))

  fits : length part ≡ length (take k tail) → (m : Got (List ℕ)) → part ≡ resultAfter m (take k tail) → length (answeredWords m) ≤ k
  unfolding resultAfter over answeredWords
  fits kept (refused n) e = zero-le
  fits kept (got ws) e = omega (arith, kept, inside, simp length-append at (ap length e))

  put : (m : Got (List ℕ)) → part ≡ resultAfter m (take k tail) → length (answeredWords m) ≤ k → whole ≡ sets result at (answeredWords m)
  unfolding resultAfter over answeredWords
  put (refused n) e l = ap (λ (p : List ℕ). take at result ++ (p ++ drop k tail)) e ∙ ap (take at result ++◌) (take-append-drop k tail)
      ∙ take-append-drop at result
  put (got ws) e l =
      let rest : drop (length ws) (take k tail) ++ drop k tail ≡ drop (at + length ws) result =
      sym (drop-append-le (length ws) (take k tail) (drop k tail) (omega (arith, inside))) ∙ ap (drop (length ws)) (take-append-drop k tail)
      ∙ drop-drop (length ws) at result in
      ap (λ (p : List ℕ). take at result ++ (p ++ drop k tail)) e
      ∙ ap (take at result ++◌) (append_assoc ws (drop (length ws) (take k tail)) (drop k tail) ∙ ap (ws ++◌) rest)
      ∙ sym (append_assoc (take at result) ws (drop (at + length ws) result))
      ∙ sym (sets-eq ws result at (omega arith))

  pub one_written : {s : Solved} → length part ≡ length (take k tail) → s ≡ solvedOf a → part ≡ resultAfter (solvedWords a) (take k tail)
      → Written a s result whole at
  one_written kept i is =
      let f = fits kept (solvedWords a) is in
      record { answer = i; buffer = put (solvedWords a) is f; long = answer-long a; few = omega (arith, answer-long a, f) }

pub part-long : (result : List ℕ) (at : ℕ) → at + 8192 ≤ length result → 8192 ≤ length (take (at + 8192 - at) (drop at result))
part-long result at h = omega (arith, length-take-le (at + 8192 - at) (drop at result) (omega (arith, length-drop at result)))

-- the four words of a set's answer, where they were copied to
pub told-at : (answers four : List ℕ) (at n : ℕ) (a : Got (Answer ℕ)) (s : Solved) → four ≡ fourWords s → s ≡ solvedOf a → n ≡ 4 → at + 4 ≤ length answers
    → take at answers ++ (four ++ drop n (drop at answers)) ≡ sets answers at (fourOf a)
told-at answers four at n a s i e k room =
    let is : four ≡ fourOf a = i ∙ ap fourWords e in
    let long : length four ≡ 4 = ap length is ∙ four-long (solvedOf a) in
    let past : at + n ≡ at + length four = omega (arith, k, long) in
    ap (λ (x : List ℕ). take at answers ++ (four ++ x)) (drop-drop n at answers ∙ ap (λ (k : ℕ). drop k answers) past)
    ∙ sym (append_assoc (take at answers) four (drop (at + length four) answers))
    ∙ sym (sets-eq four answers at (omega (arith, long, room))) ∙ ap (sets answers at) is

-- ══ One set after another ══

module _ (f : List ℕ → Got (Answer ℕ)) (words lengths : List ℕ) where
  abbrev from_on : ℕ → ℕ → List (Got (Answer ℕ))
  from_on from i = each f (drop from words) (drop i lengths)

  -- after i sets: what was written, and that the rest gives the whole
  pub record Doing (result₀ answers₀ result answers : List ℕ) (i from out : ℕ) : Type 0 where
    pub done : List ℕ
    pub said : List ℕ
    pub inside : i ≤ length lengths
    pub sums : from + sum_of (λ n. n) (drop i lengths) * 4 ≡ length words
    pub buffer : result ≡ sets result₀ 0 done
    pub told : answers ≡ sets answers₀ 0 said
    pub long : length done ≡ out * 4
    pub wide : length said ≡ i * 4
    pub few : out ≤ i * 2048
    pub left : done ++ collect words_of (from_on from i) ≡ collect words_of (each f words lengths)
    pub leftSaid : said ++ collect fourOf (from_on from i) ≡ collect fourOf (each f words lengths)
    pub count : out + sum_of manyOf (from_on from i) ≡ sum_of manyOf (each f words lengths)

  pub doing-first : (result answers : List ℕ) → sum_of (λ n. n) lengths * 4 ≡ length words → Doing result answers result answers 0 0 0
  doing-first result answers e = record {
    done = [];
    said = [];
    inside = zero-le;
    sums = omega arith;
    buffer = refl;
    told = refl;
    long = refl;
    wide = refl;
    few = zero-le;
    left = refl;
    leftSaid = refl;
    count = omega arith;
  }

  module _ {result₀ answers₀ result answers : List ℕ} {i from out : ℕ} (d : Doing result₀ answers₀ result answers i from out) where
    -- the next set, and those behind it
    module _ (more : i < length lengths) where
      abbrev to : ℕ
      to = from + get_or lengths i 0 * 4

      -- the words of the next set
      abbrev next : List ℕ
      next = take (to - from) (drop from words)

      rest-is : from_on from i ≡ f next ∷ from_on to (i + 1)
      unfolding cutSets
      rest-is =
          ap (λ (ls : List ℕ). map f (cutSets ls (drop from words))) (drop-cons lengths i 0 more)
          ∙ rw (add-one i) (ap₂ (λ (set rest : List ℕ). f set ∷ map f (cutSets (drop (suc i) lengths) rest))
          (ap (λ (k : ℕ). take k (drop from words)) (let k : get_or lengths i 0 * 4 ≡ to - from = omega arith in k))
          (drop-drop (get_or lengths i 0 * 4) from words))

      module _ {result' answers' : List ℕ} {r : ℕ} {s : Solved} (w : Written (f next) s result result' (out * 4))
          (told : answers' ≡ sets answers (i * 4) (fourOf (f next))) (many : r ≡ out + manyOf (f next)) where
        abbrev a : Got (Answer ℕ)
        a = f next

        pub doing-next : Doing result₀ answers₀ result' answers' (i + 1) to r
        unfolding collect
        doing-next = record {
          done = d.done ++ words_of a;
          said = d.said ++ fourOf a;
          inside = omega arith;
          sums = omega (arith, d.sums, rest_sum lengths i more);
          buffer = w.buffer ∙ ap₂ (λ (b : List ℕ) (k : ℕ). sets b k (words_of a)) d.buffer (omega (arith, d.long))
              ∙ sym (sets-append d.done (words_of a) result₀ 0);
          told = told ∙ ap₂ (λ (b : List ℕ) (k : ℕ). sets b k (fourOf a)) d.told (omega (arith, d.wide)) ∙ sym (sets-append d.said (fourOf a) answers₀ 0);
          long = omega (arith, length-append d.done (words_of a), d.long, w.long, many);
          wide = omega (arith, length-append d.said (fourOf a), d.wide, four-long (solvedOf a));
          few = omega (arith, d.few, w.few, many);
          left = append_assoc d.done (words_of a) (collect words_of (from_on to (i + 1)))
              ∙ sym (ap (λ (l : List (Got (Answer ℕ))). d.done ++ collect words_of l) rest-is) ∙ d.left;
          leftSaid = append_assoc d.said (fourOf a) (collect fourOf (from_on to (i + 1)))
              ∙ sym (ap (λ (l : List (Got (Answer ℕ))). d.said ++ collect fourOf l) rest-is) ∙ d.leftSaid;
          count = omega (arith, many, d.count, ap (sum_of manyOf) rest-is);
        }

    -- there is room for one more answer
    pub room-left : i < length lengths → length lengths * 8192 ≤ length result₀ → out * 4 + 8192 ≤ length result
    room-left more p = omega (arith, d.few, ap length d.buffer ∙ length-sets result₀ 0 d.done)

    pub doing-last : length lengths ≤ i → length lengths * 8192 ≤ length result₀ → length lengths * 4 ≤ length answers₀
        → Finished f words lengths result₀ result answers₀ answers out
    unfolding cutSets collect over
    doing-last h p q =
        let z : from_on from i ≡ [] = ap (λ (ls : List ℕ). map f (cutSets ls (drop from words))) (drop_of_length-le lengths h) in
        let w : d.done ≡ collect words_of (each f words lengths) = sym (append-nil d.done)
        ∙ sym (ap (λ (l : List (Got (Answer ℕ))). d.done ++ collect words_of l) z) ∙ d.left in
        let v : d.said ≡ collect fourOf (each f words lengths) = sym (append-nil d.said)
        ∙ sym (ap (λ (l : List (Got (Answer ℕ))). d.said ++ collect fourOf l) z) ∙ d.leftSaid in
        record {
          many = omega (arith, d.count, ap (sum_of manyOf) z);
          buffer = d.buffer ∙ over-is d.done result₀ (omega (arith, d.long, d.few, d.inside)) ∙ ap (λ (l : List ℕ). over l result₀) w;
          told = d.told ∙ over-is d.said answers₀ (omega (arith, d.wide, d.inside)) ∙ ap (λ (l : List ℕ). over l answers₀) v;
        }
