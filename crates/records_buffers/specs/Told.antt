-- A call's answer and its two buffers as the rules tell them.
use Rattle.rules.specs.declared.Refusal.{Refusal}
use Rattle.std.specs.Prelude.{Result, ◌≡◌, List, ℕ, ◌*◌, ◌≤◌, length, replicate, take}
use Rattle.rules.specs.Base.{Got, got, ◌>>=◌}
use Rattle.rules.specs.Calls.{Written, resultAfter}
use Rattle.rules.specs.Refusals.{told}
use Rattle.rules.specs.Writing.{Rec, words}

-- the answer, and what the result and the work buffer hold then
abbrev pub writtenAs : Result ℕ Refusal → List ℕ → List ℕ → Written
writtenAs r result work = record { answer = told r; result = result; work = work }

-- the outcome of a call past the check of 10, whose rest makes m
abbrev pub handed : Got (List Rec) → List ℕ → List ℕ → Written
handed m result work = record {
  answer = m >>= λ rs. got (length rs);
  result = resultAfter (m >>= λ rs. got (words rs)) result;
  work = replicate (length work) 0;
}

-- these records, 2,048 at most, stand at the front of w
pub record Front (rs : List Rec) (w : List ℕ) : Type 0 where
  pub few : length rs ≤ 2048
  pub room : length rs * 4 ≤ length w
  pub there : take (length rs * 4) w ≡ words rs

-- the answer says how many records m has, or why it has none; and they stand at the front of w
pub record Made (m : Got (List Rec)) (w : List ℕ) (r : Result ℕ Refusal) : Type 0 where
  pub answer : told r ≡ (m >>= λ rs. got (length rs))
  pub front : (rs : List Rec) → m ≡ got rs → Front rs w
