use Rattle.theorems_completeness.proofs.Instances.{k9-read, dimensions-needed}
use Rattle.theorems_completeness.proofs.dimensions_are_needed.Goals as goal

pub returns : goal.returns
returns c = record { read = k9-read; not-complete = dimensions-needed }
