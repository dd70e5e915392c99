-- The judge's answer with the work buffer, as the definitions tell them.
use Rattle.std.specs.Prelude.{Bool, List, ℕ, Result}
use Rattle.rules.specs.Calls.{Judged}
use Rattle.rules.specs.Refusals.{told}
use Rattle.rules.specs.declared.Refusal.{Refusal}

abbrev pub judgedAs : Result Bool Refusal → List ℕ → Judged
judgedAs answer work = record { answer = told answer; work = work }
