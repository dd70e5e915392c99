use Rattle.std.proofs.Common.{◌∙◌}
use Rattle.records.proofs.Holds.{holds-long}
use Rattle.types.proofs.Type.len.Goals as goal

pub returns : goal.returns
returns c = c.length_at.ensures ∙ holds-long _ _ _ c.args.self.tree.1
