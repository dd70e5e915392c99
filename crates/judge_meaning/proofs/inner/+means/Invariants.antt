use Rattle.std.proofs.Common.{◌+◌, ◌*◌, ◌≤◌, false}
use Rattle.rules.specs.Plain.{plain, plainTys}
use Rattle.rules.specs.Trees.{size, sizeTys}
use Rattle.judge_meaning.proofs.Rows.{Decide}
use Rattle.judge_meaning.proofs.inner.+means.Given as goal

abbrev pub decreases-means : goal.decreases-means
decreases-means l = size (plain l.left.tree.0 false) * 2

abbrev pub decreases-all_mean : goal.decreases-all_mean
decreases-all_mean l = sizeTys (plainTys l.left.trees.0 false) * 2 + 1

-- those that are left decide, and are of no more records
abbrev pub invariant-all_mean-pairs : goal.invariant-all_mean-pairs
invariant-all_mean-pairs l = Decide l.ts.trees.0 l.us.trees.0 l.fn.left.trees.0 l.fn.right.trees.0
    × (sizeTys (plainTys l.ts.trees.0 false) ≤ sizeTys (plainTys l.fn.left.trees.0 false))

abbrev pub decreases-all_mean-pairs : goal.decreases-all_mean-pairs
decreases-all_mean-pairs l = l.ts.count
