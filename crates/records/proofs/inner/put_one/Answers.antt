-- `put_one` meets its contract: a length of 1 fits.
use Rattle.records.specs.Cut.{fit}
use Rattle.records.proofs.inner.put_one.Goals as goal

pub returns : goal.returns
unfolding fit
returns c = c.put_record.ensures
