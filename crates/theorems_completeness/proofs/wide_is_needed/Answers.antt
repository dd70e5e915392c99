use Rattle.theorems_completeness.proofs.Instances.{k9-read, wide-needed}
use Rattle.theorems_completeness.proofs.wide_is_needed.Goals as goal

pub returns : goal.returns
returns c = record { read = k9-read; not-complete = wide-needed }
