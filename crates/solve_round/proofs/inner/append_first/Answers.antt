use Rattle.std.proofs.Common.{refl, arith}
use Rattle.solve_round.proofs.Performing.{appends-same}
use Rattle.solve_round.proofs.Written.{append-over, next-stops}
use Rattle.solve_round.proofs.inner.append_first.Goals as goal

pub invariant_of-constraints : goal.invariant_of-constraints
invariant_of-constraints c =
    let (cs, f) = c.requires.first in
    record { near = c.requires.new_near; trees = (cs, f.there c.if-end-gt-RECORDS.false) }

pub returns-then-end-gt-RECORDS : goal.returns-then-end-gt-RECORDS
returns-then-end-gt-RECORDS c = λ pool table cs f s n. next-stops refl (append-over c.args.rest cs (omega (arith, f.many, c.if-end-gt-RECORDS.true)))

pub returns : goal.returns
returns c = λ pool table cs f s n. appends-same c.args.rest (f.there c.if-end-gt-RECORDS.false) n (c.append.ensures pool table s) (search)
