-- What follows from the definitions of specs/StepLists: the steps of a line one by one from a place on, in words, and read.
use Rattle.std.specs.Prelude.{◌≡◌, refl, Bool, true, false, not, ◌&&◌, ℕ, ◌+◌, ◌-◌, ◌%◌, ◌/◌, ◌<◌, ◌≤◌, eqb, length, take, drop, set, get_or}
use Rattle.std.proofs.Common.{sym, arith, ne_eqb, ap, ◌∙◌, append_assoc, add-one}
use borrow.Author.Tests.{le-leb, lt-leb}
use Rattle.std.proofs.lemmas.List.{append-nil, drop_all, drop_more, map-append, take_more_set}
use mathlib.Core.List.{List, [], ◌∷◌, ◌++◌, map}
use Rattle.std.proofs.Math.Option.{none, some}
use Rattle.rules.specs.Base.{Got, got, refused, ◌>>=◌, ◌>>◌, need, all, each}
use Rattle.rules.specs.Names.{Table}
use Rattle.rules.specs.Writing.{Rec}
use Rattle.records.specs.Views.{recs, from}
use Rattle.records.specs.Places.{recAt, from_some, from-none}
use Rattle.records.specs.Given.{records-whole, records-broken}
use Rattle.rules.specs.Steps.{
  Two,
  LineStep,
  joins,
  chooses,
  operands,
  whole,
  StepWords,
  four,
  stepWords,
  StepKind,
  isChoose,
  isTwo,
  stepNumbers,
  stepKind,
  step_of,
  stepGiven,
  lineGiven,
}
use Rattle.lines_entry.specs.StepLists.{fourOf, plainly}

-- the steps from a place on
abbrev pub stepsFrom : List ℕ → ℕ → List StepWords
stepsFrom s i = map fourOf (from s i)

-- ══ The number of a step ══

past : (k : ℕ) (xs : List (ℕ × StepKind)) → all (λ x. not (eqb k x.0)) xs ≡ true → stepKind k xs ≡ none
unfolding stepKind all
past k [] h = refl
past k (x ∷ xs) h = go (eqb k x.0) refl h (past k xs)
  where
    go : (b : Bool) → eqb k x.0 ≡ b → (not b && all (λ x. not (eqb k x.0)) xs) ≡ true → (all (λ x. not (eqb k x.0)) xs ≡ true → stepKind k xs ≡ none)
        → stepKind k (x ∷ xs) ≡ none
    go true q h ih = cc
    go false q h ih = rw (q, stepKind) (ih h)

module _ (t : Table) (rs : List Rec) (lines : List ℕ) (k a b c : ℕ) where
  abbrev its-step : Got (LineStep ℕ)
  its-step = stepGiven t rs lines (four k a b c)

  pub step-as : (n : ℕ) (x : StepKind) → k ≡ n → stepKind n stepNumbers ≡ some x → step_of t rs lines x a b c ≡ its-step
  unfolding stepGiven
  step-as n x e h = rw (e, h)

  pub step-joins : (n : ℕ) (o : Two) → k ≡ n → stepKind n stepNumbers ≡ some (isTwo o) → plainly a b c (joins o) ≡ its-step
  unfolding step_of
  step-joins n o e h = step-as n (isTwo o) e h

  pub step-chooses : k ≡ 9 → plainly a b c chooses ≡ its-step
  unfolding step_of stepKind
  step-chooses e = step-as 9 isChoose e refl

  -- a number that no step has
  pub step-unknown : ((n : ℕ) → 1 ≤ n → n ≤ 9 → k ≡ n → ⊥) → refused 1 ≡ its-step
  unfolding stepGiven all
  step-unknown f =
      let no : (n : ℕ) → 1 ≤ n → n ≤ 9 → eqb k n ≡ false = λ n p q. ne_eqb k n (f n p q) in
      let e : stepKind k stepNumbers ≡ none = past k stepNumbers (rw (
        no 1 (omega arith) (omega arith),
        no 2 (omega arith) (omega arith),
        no 3 (omega arith) (omega arith),
        no 4 (omega arith) (omega arith),
        no 5 (omega arith) (omega arith),
        no 6 (omega arith) (omega arith),
        no 7 (omega arith) (omega arith),
        no 8 (omega arith) (omega arith),
        no 9 (omega arith) (omega arith),
      )) in
      rw e

-- ══ Words as steps ══

unfoldable mutual
  unfolding stepWords recs

  steps-whole : (s : List ℕ) → length s % 4 ≡ 0 → stepWords s ≡ some (map fourOf (recs s))
  steps-whole [] h = refl
  steps-whole (k ∷ []) h = absurd (omega arith)
  steps-whole (k ∷ a ∷ []) h = absurd (omega arith)
  steps-whole (k ∷ a ∷ b ∷ []) h = absurd (omega arith)
  steps-whole (k ∷ a ∷ b ∷ c ∷ ws) h = rw (steps-whole ws (omega arith), stepWords)

  steps-broken : (s : List ℕ) → ((length s % 4 ≡ 0) → ⊥) → stepWords s ≡ none
  steps-broken [] h = absurd (h refl)
  steps-broken (k ∷ []) h = refl
  steps-broken (k ∷ a ∷ []) h = refl
  steps-broken (k ∷ a ∷ b ∷ []) h = refl
  steps-broken (k ∷ a ∷ b ∷ c ∷ ws) h = rw (steps-broken ws (λ e. h (omega arith)), stepWords)

-- ══ One step after another ══

module _ (f : StepWords → Got (LineStep ℕ)) (s : List ℕ) where
  -- these were read of the steps up to place i
  abbrev pub ReadTo : ℕ → List (LineStep ℕ) → Type 0
  ReadTo i ss = each f (stepsFrom s 0) ≡ (each f (stepsFrom s i) >>= λ more. got (ss ++ more))

  pub read-none : ReadTo 0 []
  read-none = go (each f (stepsFrom s 0))
    where
      go : (m : Got (List (LineStep ℕ))) → m ≡ (m >>= λ more. got more)
      go (got ss) = refl
      go (refused n) = refl

  module _ (i : ℕ) (ss : List (LineStep ℕ)) (r : ReadTo i ss) where
    its-steps : i < length s / 4 → stepsFrom s i ≡ fourOf (recAt s i) ∷ stepsFrom s (i + 1)
    its-steps h = ap (map fourOf) (from_some s i h)

    pub read_more : i < length s / 4 → (y : LineStep ℕ) → got y ≡ f (fourOf (recAt s i)) → ReadTo (i + 1) (ss ++ y ∷ [])
    unfolding each
    read_more h y e = r ∙ rw (its-steps h, ← e) (go (each f (stepsFrom s (i + 1))))
      where
        go : (m : Got (List (LineStep ℕ))) → ((m >>= λ ys. got (y ∷ ys)) >>= λ more. got (ss ++ more)) ≡ (m >>= λ more. got ((ss ++ y ∷ []) ++ more))
        go (got ys) = ap got (sym (append_assoc ss (y ∷ []) ys))
        go (refused n) = refl

    pub read-stops : i < length s / 4 → (n : ℕ) → refused n ≡ f (fourOf (recAt s i)) → each f (stepsFrom s 0) ≡ refused n
    unfolding each
    read-stops h n e = r ∙ rw (its-steps h, ← e)

    pub read-all : length s / 4 ≤ i → each f (stepsFrom s 0) ≡ got ss
    unfolding each
    read-all h = r ∙ rw (from-none s i h) (ap got (append-nil ss))

-- the step that was stored at place i, behind those before it
pub stored : {A : Type 0} (f : A → LineStep ℕ) (xs : List A) (i : ℕ) (x : A) → i < length xs
    → map f (take (i + 1) (set xs i x)) ≡ map f (take i xs) ++ f x ∷ []
stored f xs i x h = ap (map f) (take_more_set xs i x h) ∙ map-append f (take i xs) (x ∷ [])

-- ══ Lists from a place on ══

module _ {A : Type 0} (xs : List A) (i : ℕ) where
  -- does each of the steps from there on find its operands, where there are n types
  module _ (g : A → LineStep ℕ) (n : ℕ) where
    pub whole-on : (d : A) → i < length xs → (k : ℕ) → k ≡ operands (g (get_or xs i d)) → k ≤ n
        → whole (n - k + 1) (map g (drop (i + 1) xs)) ≡ whole n (map g (drop i xs))
    unfolding whole
    whole-on d h k e l = rw (drop_more xs i d h, ← e, le-leb k n l, add-one (n - k))

    pub whole-off : (d : A) → i < length xs → (k : ℕ) → k ≡ operands (g (get_or xs i d)) → n < k → false ≡ whole n (map g (drop i xs))
    unfolding whole
    whole-off d h k e l = rw (drop_more xs i d h, ← e, lt-leb k n l)

    pub whole-end : length xs ≤ i → eqb n 1 ≡ whole n (map g (drop i xs))
    unfolding whole
    whole-end h = rw (drop_all i xs h)

-- ══ The line ══

module _ (t : Table) (steps types lines : List ℕ) where
  pub line-torn : (length steps % 4 ≡ 0 → ⊥) → refused 1 ≡ lineGiven t steps types lines
  unfolding lineGiven
  line-torn f = rw (steps-broken steps f)

  pub line-types : length steps % 4 ≡ 0 → (length types % 4 ≡ 0 → ⊥) → refused 1 ≡ lineGiven t steps types lines
  unfolding lineGiven
  line-types e f = rw (steps-whole steps e, records-broken types f)

  module _ (e : length steps % 4 ≡ 0) (f : length types % 4 ≡ 0) where
    abbrev read : Got (List (LineStep ℕ))
    read = each (stepGiven t (recs types) lines) (stepsFrom steps 0)

    line-is : lineGiven t steps types lines ≡ (read >>= λ ss. need (whole 0 ss) 1 >> got ss)
    unfolding lineGiven from
    line-is = rw (steps-whole steps e, records-whole types f)

    pub line_refused : (k : ℕ) → read ≡ refused k → refused k ≡ lineGiven t steps types lines
    line_refused k h = sym (line-is ∙ rw h)

    pub line-made : (ss : List (LineStep ℕ)) → read ≡ got ss → whole 0 ss ≡ true → got ss ≡ lineGiven t steps types lines
    line-made ss h e = sym (line-is ∙ rw (h, e))

    pub line-torn-off : (ss : List (LineStep ℕ)) → read ≡ got ss → whole 0 ss ≡ false → refused 1 ≡ lineGiven t steps types lines
    line-torn-off ss h e = sym (line-is ∙ rw (h, e))
