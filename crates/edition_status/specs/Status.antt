-- How a run ends.
use Rattle.std.specs.Prelude.{ℕ, Result, Ok, Err}
use Rattle.edition_status.specs.declared.status.Status.{Status}
use Rattle.edition_status.specs.declared.status.Status.TheVariants.{Accepted, Refused, Usage, NoReport}

-- the exit status
abbrev pub code_of : Status → ℕ
code_of Accepted = 0
code_of Refused = 1
code_of Usage = 2
code_of NoReport = 3

-- a run that fails has no whole report
abbrev pub endedAs : {E : Type 0} → Result Status E → Status
endedAs (Ok s) = s
endedAs (Err e) = NoReport
