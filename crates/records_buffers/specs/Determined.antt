-- The contracts leave no choice: two results that one of them allows coincide (`..-determined`). And each answer has the number of
-- its outcome (`..-numbered`). Of the calls that write records, too, whose answer is this crate's.
use Rattle.rules.specs.declared.Refusal.{Refusal}
use Rattle.std.specs.Prelude.{Result, ◌≡◌, Bool, List, ℕ}
use Rattle.std.proofs.Math.Bool.{true, false}
use Rattle.rules.specs.Refusals.{number_of}
use Rattle.rules.specs.declared.Refusal.TheVariants.{ShortBuffer}

pub record OneResult (a b : Result ℕ Refusal) (result result' work work' : List ℕ) : Type 0 where
  pub answer : a ≡ b
  pub results : result ≡ result'
  pub works : work ≡ work'

-- `lent`: no is 10
abbrev pub numberLent : Bool → ℕ
numberLent true = 0
numberLent false = number_of ShortBuffer
