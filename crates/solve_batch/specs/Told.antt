-- The answer of a batch with its three buffers as the request tells them.
use Rattle.rules.specs.Refusals.{told}
use Rattle.rules.specs.declared.Refusal.{Refusal}
use Rattle.std.specs.Prelude.{Result, List, ℕ}
use Rattle.rules.specs.Batches.{Batch}

abbrev pub batchAs : Result ℕ Refusal → List ℕ → List ℕ → List ℕ → Batch
batchAs r result answers work = record { answer = told r; result = result; answers = answers; work = work }
