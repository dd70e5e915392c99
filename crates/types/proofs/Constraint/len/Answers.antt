use Rattle.std.proofs.Common.{◌∙◌}
use Rattle.records.proofs.Holds.{con-long}
use Rattle.types.proofs.Constraint.len.Goals as goal

pub returns : goal.returns
returns c = c.length_at.ensures ∙ con-long _ _ _ c.args.self.tree.1
