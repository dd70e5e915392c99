use Rattle.theorems_sheets_apart.proofs.Apart.{pages}
use Rattle.theorems_sheets_apart.proofs.pages_apart.Goals as goal

pub returns : goal.returns
returns c = pages
