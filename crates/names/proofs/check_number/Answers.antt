-- A table that passed is long enough.
use mathlib.Core.Path.{sym}
use Rattle.laws.proofs.NameTable.{given-good}
use Rattle.names.proofs.check_number.Goals as goal

pub is_held-requires : goal.is_held-requires
is_held-requires c = (given-good (sym c.in_ok-check_table.ensures)).words
