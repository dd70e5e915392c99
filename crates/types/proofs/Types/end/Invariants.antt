use Rattle.std.proofs.Common.{◌+◌, ◌-◌}
use Rattle.rules.specs.Trees.{sizeTys}
use Rattle.types.proofs.Seen.{Behind}
use Rattle.types.proofs.Types.end.Given as goal

abbrev pub invariant-past : goal.invariant-past
invariant-past l = Behind l.words l.at (l.fn.self.count - l._i) (l.fn.self.at + sizeTys l.fn.self.trees.0)
