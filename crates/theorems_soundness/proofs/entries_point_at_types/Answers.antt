use Rattle.theorems_soundness.proofs.Soundness.{k2-entries}
use Rattle.theorems_soundness.proofs.entries_point_at_types.Goals as goal

pub returns : goal.returns
returns c = k2-entries
