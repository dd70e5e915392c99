use Rattle.std.proofs.Common.{arith}
use Rattle.rules.specs.Base.{bounded}
use Rattle.rules.specs.Rounds.{otherSide}
use Rattle.exponents.specs.Answers.{expOf}
use Rattle.solve_step.proofs.Others.{solved}
use Rattle.solve_step.proofs.inner.others.solve_for.Goals as goal

pub returns : goal.returns
returns c =
    let o = c.args.others in
    solved c.args.x (otherSide bounded (expOf c.args.k)) _ _ o.factors.1.many
    (omega (arith, c.requires.short, o.factors.1.many)) c.put.ensures c.put-2.ensures c.in_ok-put_others.ensures
