-- A table that passed is well formed.
use mathlib.Core.Path.{sym}
use Rattle.laws.proofs.NameTable.{given-good}
use Rattle.names.proofs.enter.Goals as goal

pub enter_good-requires : goal.enter_good-requires
enter_good-requires c = given-good (sym c.in_ok-check_table.ensures)
