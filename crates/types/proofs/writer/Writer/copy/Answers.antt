use Rattle.std.proofs.Common.{arith}
use Rattle.laws.proofs.Size.{size-ty}
use Rattle.records.specs.ByView.{ends-in}
use Rattle.types.proofs.Puts.{type-words}
use Rattle.types.proofs.writer.Writer.copy.Goals as goal

pub copy_records-requires : goal.copy_records-requires
copy_records-requires c =
    let t = c.args.t in
    let e = c.end.ensures in
    record { order = omega arith; within = omega (arith, e, ends-in t.words.now t.tree.0 t.at t.tree.1); near = t.near }

pub returns : goal.returns
returns c =
    let t = c.args.t in
    let e = c.end.ensures in
    c.copy_records.ensures _ (omega (arith, e, size-ty t.tree.0)) (type-words _ _ _ t.tree e)
