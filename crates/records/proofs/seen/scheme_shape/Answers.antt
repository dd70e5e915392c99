-- `scheme_shape` meets its contract: by the kind.
use Rattle.std.proofs.Common.{arith, ne_eqb}
use Rattle.records.proofs.seen.scheme_shape.Goals as goal

pub returns-in-0 : goal.returns-in-0
returns-in-0 c = simp c.in-0.is

pub returns-in-1 : goal.returns-in-1
returns-in-1 c = simp c.in-1.is c.plain_one.ensures

pub returns-in_default : goal.returns-in_default
returns-in_default c = let k = c.args.b in simp (ne_eqb k 0 (omega arith), ne_eqb k 1 (omega arith))
