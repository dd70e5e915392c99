-- The contract leaves no choice: two results that it allows coincide; and the answer has the number of its outcome.
use Rattle.rules.specs.declared.Refusal.{Refusal}
use Rattle.std.specs.Prelude.{Result, ◌≡◌, ℕ}
use Rattle.std.proofs.Math.Path.{ap}
use Rattle.std.proofs.Common.{sym, ◌∙◌}
use mathlib.Core.List.{List}
use Rattle.rules.specs.Batches.{Batch}
use Rattle.rules.specs.Numbers.{refusalIn, number}
use Rattle.laws.proofs.Numbers.{answer-in, told-injective}
use Rattle.solve_batch.specs.Told.{batchAs}
use Rattle.solve_batch.specs.Theorems.{OneResult, BatchDetermined, BatchNumbered}

one-result : (a b : Result ℕ Refusal) (result result' answers answers' work work' : List ℕ)
    → batchAs a result answers work ≡ batchAs b result' answers' work' → OneResult a b result result' answers answers' work work'
one-result a b result result' answers answers' work work' e = record {
  answer = told-injective a b (ap (λ (x : Batch). x.answer) e);
  results = ap (λ (x : Batch). x.result) e;
  told = ap (λ (x : Batch). x.answers) e;
  works = ap (λ (x : Batch). x.work) e;
}

pub batch-determined : BatchDetermined
batch-determined pool table sets lengths result answers work p q a b c d e f h k = one-result p q a b c d e f (h ∙ sym k)

pub batch-numbered : BatchNumbered
unfolding number
batch-numbered pool table sets lengths result answers work p a c e h = answer-in p ∙ ap (λ (x : Batch). refusalIn x.answer) h
