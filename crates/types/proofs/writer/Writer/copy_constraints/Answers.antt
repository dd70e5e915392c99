use Rattle.std.proofs.Common.{arith}
use Rattle.laws.proofs.Size.{set-length}
use Rattle.types.proofs.Puts.{set-within, set-words, no-set}
use Rattle.types.proofs.writer.Writer.copy_constraints.Goals as goal

pub copy_records-requires : goal.copy_records-requires
copy_records-requires c =
    let k = c.args.cs in
    record { order = omega arith; within = omega (arith, set-within _ _ _ k.trees c.if-cs.true); near = k.near }

pub returns-then-cs : goal.returns-then-cs
returns-then-cs c =
    let k = c.args.cs in
    c.copy_records.ensures _ (omega (arith, k.trees.1.ends, set-length k.trees.0)) (set-words _ _ _ k.trees (set-within _ _ _ k.trees c.if-cs.true))

pub returns-else-cs : goal.returns-else-cs
returns-else-cs c = no-set _ _ _ _ c.args.cs.trees c.if-cs.false
