-- `given::table_over` meets its contract.
use Rattle.types.proofs.given.table_over.Goals as goal

pub returns : goal.returns
returns c = rw (← c.in_ok-short.ensures)
