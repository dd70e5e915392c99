use Rattle.std.proofs.Common.{arith}
use Rattle.laws.proofs.Size.{bindings-length}
use Rattle.types.proofs.Puts.{binds-within, binds-words, no-bindings}
use Rattle.types.proofs.writer.Writer.copy_bindings.Goals as goal

pub copy_records-requires : goal.copy_records-requires
copy_records-requires c =
    let k = c.args.bs in
    record { order = omega arith; within = omega (arith, binds-within _ _ _ k.trees c.if-bs.true); near = k.near }

pub returns-then-bs : goal.returns-then-bs
returns-then-bs c =
    let k = c.args.bs in
    c.copy_records.ensures _ (omega (arith, k.trees.1.ends, bindings-length k.trees.0)) (binds-words _ _ _ k.trees (binds-within _ _ _ k.trees c.if-bs.true))

pub returns-else-bs : goal.returns-else-bs
returns-else-bs c = no-bindings _ _ _ _ c.args.bs.trees c.if-bs.false
