-- The code's rows as the definitions' rows.
use Rattle.rules.specs.Base.{Got, bounded, each}
use Rattle.rules.specs.Exponents.{Exp, neg, quotient}
use Rattle.engine_matrix.specs.declared.inner.parts.Row.{Row}
use Rattle.rules.specs.Elimination as Rows
use Rattle.engine_matrix.specs.Powers.{powersIn}

abbrev pub row_in : Row → Rows.Row
row_in r = powersIn r.powers

-- -j/k for each power j
unfoldable pub quotients : Exp → Rows.Row → Got Rows.Row
quotients k r = each (λ j. quotient bounded (neg j) k) r
