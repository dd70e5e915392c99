-- Each record says how long its type is.
use Rattle.std.proofs.Common.{arith}
use Rattle.types.proofs.Seen.{behind-start, behind-step, behind-near, behind-end}
use Rattle.types.proofs.Types.end.Goals as goal

pub past-init : goal.past-init
past-init c = behind-start _ _ _ c.args.self.trees

pub overflow_add-at : goal.overflow_add-at
overflow_add-at c = omega (arith, behind-near _ _ _ _ _ c.past.invariant (omega arith) c.length_at-at.ensures c.args.self.near)

pub past-preserved : goal.past-preserved
past-preserved c = behind-step _ _ _ _ _ _ c.past.invariant (omega arith) (omega arith) c.length_at-at.ensures

pub returns : goal.returns
returns c = behind-end _ _ _ _ c.past.invariant (omega arith)
