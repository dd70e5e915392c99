-- What the answers of the code say.
use Rattle.std.specs.Prelude.{Bool, true, false, List, ℕ, Result}
use Rattle.rules.specs.Refusals.{told}
use Rattle.rules.specs.Calls.{Listed}
use Rattle.rules.specs.declared.Refusal.{Refusal}
use Rattle.queries.specs.declared.Kind.{Kind}
use Rattle.queries.specs.declared.Kind.TheVariants.{Variables, Both}

-- the answer, and what the result buffer holds
abbrev pub listedAs : Result ℕ Refusal → List ℕ → Listed
listedAs c result = record { answer = told c; result = result }

-- the names of parameters too, where asked
abbrev pub kind_of : Bool → Kind
kind_of true = Both
kind_of false = Variables
