use Rattle.std.proofs.Common.{arith}
use Rattle.records.proofs.ByView.{con-in}
use Rattle.types.proofs.Constraint.end.Goals as goal

pub overflow_add-result : goal.overflow_add-result
overflow_add-result c = omega (arith, c.len.ensures, con-in _ _ _ c.args.self.tree.1)

pub returns : goal.returns
returns c = omega (arith, c.len.ensures)
