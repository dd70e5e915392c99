-- `read_all` meets its contract: the table is tested first.
use Rattle.std.proofs.Common.{sym}
use Rattle.laws.proofs.NameTable.{given-good}
use Rattle.edition.proofs.intake.read_all.Goals as goal

pub read_files-requires : goal.read_files-requires
read_files-requires c = given-good (sym c.in-Ok.ensures)
