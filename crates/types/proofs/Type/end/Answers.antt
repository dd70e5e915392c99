-- The first record says how long the type is.
use Rattle.std.proofs.Common.{arith}
use Rattle.records.specs.ByView.{ends-in}
use Rattle.records.proofs.Holds.{holds-long}
use Rattle.types.proofs.Type.end.Goals as goal

pub overflow_add-result : goal.overflow_add-result
overflow_add-result c =
    let (t, h) = c.args.self.tree in
    omega (arith, c.length_at.ensures, holds-long _ t _ h, ends-in _ t _ h)

pub returns : goal.returns
returns c = omega (arith, c.length_at.ensures, holds-long _ _ _ c.args.self.tree.1)
