use Rattle.std.proofs.Common.{◌+◌, ◌*◌}
use Rattle.rules.specs.Trees.{size}
use Rattle.replace.proofs.Leaves.{sizeParts}
use Rattle.replace.proofs.inner.walk.+replace.Given as goal

abbrev pub decreases-replace_type : goal.decreases-replace_type
decreases-replace_type l = 2 * size l.t.tree.0

abbrev pub decreases-replace_list : goal.decreases-replace_list
decreases-replace_list l = 2 * sizeParts l.parts + 1
