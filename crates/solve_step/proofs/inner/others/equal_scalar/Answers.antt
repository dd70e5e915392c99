use Rattle.std.proofs.Common.{arith, length, sym, ap, ◌∙◌}
use Rattle.rules.specs.Base.{bounded, each}
use Rattle.rules.specs.Rounds.{otherSide}
use Rattle.solve_step.specs.Parts.{boundTo}
use Rattle.solve_step.proofs.Others.{scalar-none, scalar-variable, scalar-other}
use Rattle.solve_step.proofs.Written.{applied-as, done-is, stuck-is}
use Rattle.solve_step.proofs.inner.others.equal_scalar.Goals as goal

pub returns-in_default : goal.returns-in_default
returns-in_default c = λ names. done-is (scalar-none names c.in_default.ensures)

pub returns-in_default-variable_of : goal.returns-in_default-variable_of
returns-in_default-variable_of c = λ names. stuck-is (scalar-other names _ _ _ c.in-Some.ensures c.in_default-variable_of.ensures)

pub returns : goal.returns
returns c = λ names.
    applied-as
    (scalar-variable names _ _ _ c.in-Some.ensures c.in-Some-variable_of.x c.in-Some-variable_of.ensures
    ∙ ap (λ k. boundTo c.in-Some-variable_of.x (each (otherSide bounded k) c.in-Some.others.factors.0)) (sym c.from_words.ensures))
    c.solve_for.ensures

pub solve_for-requires-clause-short : goal.solve_for-requires-clause-short
solve_for-requires-clause-short c = omega (arith, c.requires.short, ap length c.in-Some.ensures)
