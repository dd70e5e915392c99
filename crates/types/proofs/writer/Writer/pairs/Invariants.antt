use Rattle.std.proofs.Common.{◌+◌, ◌<◌}
use Rattle.rules.specs.Trees.{sizeTys}
use Rattle.types.proofs.Puts.{Still}
use Rattle.types.proofs.writer.Writer.pairs.Given as goal

abbrev pub invariant-pairs : goal.invariant-pairs
invariant-pairs l = (sizeTys l.ts.trees.0 + sizeTys l.us.trees.0 < 65_535)
    × Still l.fn.self l.self l.ts.trees.0 l.us.trees.0 l.fn.left.trees.0 l.fn.right.trees.0

abbrev pub decreases-pairs : goal.decreases-pairs
decreases-pairs l = l.ts.count
