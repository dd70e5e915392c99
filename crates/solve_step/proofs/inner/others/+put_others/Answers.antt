use Rattle.std.proofs.Common.{rules, ◌≡◌, Err}
use Rattle.exponents.specs.Answers.{expOf}
use Rattle.solve_step.proofs.Others.{others-none, others-stop, others-more}
use Rattle.solve_step.proofs.inner.others.+put_others.Goals as goal

pub returns-in_default : goal.returns-in_default
returns-in_default t c = others-none _ _ c.in_default.ensures

pub returns-in_err-e : goal.returns-in_err-e
returns-in_err-e t c =
    let r : c.from_residual.result ≡ Err c.in_err-e.field-0.0 = search rules in
    rw r (others-stop (expOf c.args.k) c.in-Some.factor.atom _ c.in-Some.ensures c.in_err-e.field-0.0 c.in_err-e.ensures)

pub returns : goal.returns
returns t c = others-more (expOf c.args.k) c.in-Some.factor.atom _ c.in-Some.ensures c.in_ok-e.e c.in_ok-e.ensures c.num_word.ensures c.put.ensures
    c.put_others.ensures
