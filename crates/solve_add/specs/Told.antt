-- What the answers of the code say.
use Rattle.std.specs.Prelude.{List, ℕ, Result}
use Rattle.rules.specs.Adding as rules
use Rattle.rules.specs.Adding.{satisfied, violated, unknown}
use Rattle.rules.specs.Calls.{AddedTo}
use Rattle.rules.specs.Refusals.{toldBy}
use Rattle.rules.specs.declared.Refusal.{Refusal}
use Rattle.solve_add.specs.declared.Verdict.{Verdict}
use Rattle.solve_add.specs.declared.Verdict.TheVariants as verdict

abbrev pub toldVerdict : Verdict → rules.Added
toldVerdict verdict.Satisfied = satisfied
toldVerdict verdict.Violated = violated
toldVerdict verdict.Unknown = unknown

-- with the count of records afterwards
abbrev pub counted : Verdict × ℕ → rules.Added × ℕ
counted p = (toldVerdict p.0, p.1)

-- the answer, and what the buffer holds
abbrev pub addedAs : Result (Verdict × ℕ) Refusal → List ℕ → AddedTo
addedAs r buffer = record { answer = toldBy counted r; buffer = buffer }
