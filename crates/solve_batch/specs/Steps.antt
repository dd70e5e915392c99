-- One set after another: what a step leaves, and what is left to do.
use Rattle.std.specs.Prelude.{◌≡◌}
use mathlib.Core.List.{List, map}
use Prim.Native.Nat.{ℕ, ◌*◌, ◌≤◌}
use Rattle.std.proofs.Math.ListN.{length}
use Rattle.std.proofs.Math.Seq.{sets}
use Rattle.rules.specs.Base.{Got, collect, sum_of}
use Rattle.rules.specs.Calls.{solvedOf, over}
use Rattle.rules.specs.Solving.{Answer}
use Rattle.laws.specs.Answers.{words_of, manyOf}
use Rattle.rules.specs.Batches.{cutSets, fourWords}

-- a set's four words
abbrev pub fourOf : Got (Answer ℕ) → List ℕ
fourOf a = fourWords (solvedOf a)

-- what a batch needs, once its checks are met
pub record Begun (words lengths result answers work : List ℕ) : Type 0 where
  pub few : length lengths ≤ 64
  pub sums : sum_of (λ n. n) lengths * 4 ≡ length words
  pub results : length lengths * 8192 ≤ length result
  pub answer : length lengths * 4 ≤ length answers
  pub works : 16384 ≤ length work

-- each set answered by itself
abbrev pub each : (List ℕ → Got (Answer ℕ)) → List ℕ → List ℕ → List (Got (Answer ℕ))
each f sets lengths = map f (cutSets lengths sets)

-- what it leaves
pub record Finished (f : List ℕ → Got (Answer ℕ)) (words lengths result result' answers answers' : List ℕ) (r : ℕ) : Type 0 where
  pub many : r ≡ sum_of manyOf (each f words lengths)
  pub buffer : result' ≡ over (collect words_of (each f words lengths)) result
  pub told : answers' ≡ over (collect fourOf (each f words lengths)) answers
