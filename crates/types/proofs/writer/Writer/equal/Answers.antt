use Rattle.std.proofs.Common.{arith}
use Rattle.types.proofs.Puts.{short, equal-writes}
use Rattle.types.proofs.writer.Writer.equal.Goals as goal

pub overflow_add-len : goal.overflow_add-len
overflow_add-len c = omega (arith, c.len.ensures, short _ _ c.args.left.tree c.args.left.near)

pub overflow_add-len-2 : goal.overflow_add-len-2
overflow_add-len-2 c = omega (arith, c.len.ensures, c.len-2.ensures, short _ _ c.args.left.tree c.args.left.near, short _ _ c.args.right.tree c.args.right.near)

pub returns : goal.returns
returns c =
    let e = c.len.ensures in
    let f = c.len-2.ensures in
    equal-writes _ _ _ (omega arith) (omega (arith, c.requires)) c.put.ensures c.copy.ensures c.copy-2.ensures
