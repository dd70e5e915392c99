use Rattle.theorems_sheets_apart.proofs.Apart.{alone}
use Rattle.theorems_sheets_apart.proofs.each_sheet_as_alone.Goals as goal

pub returns : goal.returns
returns c = alone
