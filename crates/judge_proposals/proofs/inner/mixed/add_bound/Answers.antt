-- `inner::mixed::add_bound` meets its contract.
use Rattle.replace.proofs.Places.{says_some}
use Rattle.judge_proposals.proofs.Mixed.{unbound, bound}
use Rattle.queries.proofs.MarkLaws.{mark-none}
use Rattle.judge_proposals.proofs.inner.mixed.add_bound.Goals as goal
use Rattle.judge_proposals.proofs.inner.mixed.add_bound.Goals.{in-Some, in_default}

pub returns-then-w-eq0 : goal.returns-then-w-eq0
returns-then-w-eq0 c = λ t xs h m. unbound c.args.types.now c.args.x c.args.w c.args.k t xs h c.if-w-eq0.true m

pub end_of-end-requires : goal.end_of-end-requires
end_of-end-requires c =
    let (t, h) = c.requires in
    let (u, (i, k)) = says_some c.args.types.now c.args.w t h c.if-w-eq0.false in
    (u, k)

pub returns : goal.returns
returns c = λ t xs h m. bound c.args.types.now c.args.x c.args.w c.args.k t xs h c.if-w-eq0.false c.end_of-end.ensures c.chosen.ensures
    (c.extend.ensures _ (elim c.match-chosen.branch [
      | in-Some w ↦ rw (w.names-is, w.in-Some.is) (w.insert.ensures xs m)
      | in_default w ↦ rw (w.names-is, w.in_default.is) (mark-none _ xs m)
    ]))
