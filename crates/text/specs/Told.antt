-- The answer of the code as that of the rules.
use Rattle.std.specs.Prelude.{List, ℕ, Result}
use Rattle.rules.specs.Calls.{Listed}
use Rattle.rules.specs.Refusals.{told}
use Rattle.rules.specs.declared.Refusal.{Refusal}

-- the answer, and what the text buffer holds
abbrev pub listedAs : Result ℕ Refusal → List ℕ → Listed
listedAs a text = record { answer = told a; result = text }
