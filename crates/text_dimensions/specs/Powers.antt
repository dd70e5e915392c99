-- A factor's power: its worth, or 7 at its sign.
use Rattle.std.specs.Prelude.{◌≡◌, List, [], ℕ, pos, Result, Err, Ok}
use Rattle.rules.specs.Exponents.{Exp}
use Rattle.rules.specs.Grammar.{PowerAt}
use Rattle.rules.specs.declared.Refusal.{Refusal}
use Rattle.rules.specs.Writing.{Rec}
use Rattle.rules.specs.TextReading.{Step, placed, powerOf}
use Rattle.exponents.specs.Answers.{expOf}
use Rattle.exponents.specs.declared.Exponent.{Exponent}
use Rattle.text_names.specs.Stands.{Stand}
use Rattle.text_names.specs.Stands as stand

-- what a power does: its worth, or a refusal at its column
abbrev pub powered : PowerAt → Step Exp
powered e = placed e.column (powerOf e)

abbrev pub powerStand : Stand → ℕ → Result Exponent Refusal → Stand
powerStand (Err stop) at v = stand.Refused stop.why stop.at
powerStand (Ok tally) at (Ok e) = stand.Going tally.names tally.records
powerStand (Ok tally) at (Err why) = stand.Refused why at

abbrev pub unit : Exponent
unit = record { num = pos 1; den = 1 }

abbrev pub expIn : Result Exponent Refusal → Exponent
expIn (Ok e) = e
expIn (Err why) = unit

-- the exponent x is told, and nothing is written
pub record ExpTold (x : Exponent) (e : Exp) (rs : List Rec) : Type 0 where
  pub is : e ≡ expOf x
  pub none : rs ≡ []
