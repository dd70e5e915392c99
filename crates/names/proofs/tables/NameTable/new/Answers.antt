-- A table that passed is well formed.
use mathlib.Core.Path.{sym}
use Rattle.laws.proofs.NameTable.{given-good}
use Rattle.names.proofs.tables.NameTable.new.Goals as goal

pub invariant_of-result : goal.invariant_of-result
invariant_of-result c = record { good = given-good (sym c.in_ok-check_table.ensures) }
