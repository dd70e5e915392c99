use Rattle.std.proofs.Common.{arith}
use Rattle.laws.proofs.Size.{size-con}
use Rattle.records.proofs.ByView.{con-in}
use Rattle.types.proofs.Puts.{con-words}
use Rattle.types.proofs.writer.Writer.copy_constraint.Goals as goal

pub copy_records-requires : goal.copy_records-requires
copy_records-requires c =
    let k = c.args.c in
    let e = c.end.ensures in
    record { order = omega arith; within = omega (arith, e, con-in k.words.now k.tree.0 k.at k.tree.1); near = k.near }

pub returns : goal.returns
returns c =
    let k = c.args.c in
    let e = c.end.ensures in
    c.copy_records.ensures _ (omega (arith, e, size-con k.tree.0)) (con-words _ _ _ k.tree e)
