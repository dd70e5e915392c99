use Rattle.theorems_sheets_apart.proofs.Apart.{apart}
use Rattle.theorems_sheets_apart.proofs.sheets_apart.Goals as goal

pub returns : goal.returns
returns c = apart
