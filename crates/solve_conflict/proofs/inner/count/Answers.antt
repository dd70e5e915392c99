use Rattle.solve_conflict.proofs.Steps.{count-init as init}
use Rattle.solve_conflict.proofs.inner.count.Goals as goal

pub count-init : goal.count-init
count-init c = rw c.into_iter-c-iterator.ensures.into_iter_gives (init c.args.set.words.now c.args.set.at c.args.set.trees.0)
