use Rattle.std.proofs.Common.{ap, sym, ◌∙◌, ℕ}
use Rattle.std.specs.Prelude.{eqb}
use Rattle.rules.specs.Adding.{satisfiedIf}
use Rattle.solve_add.proofs.Tests.{dim-closed, dim-open}
use Rattle.solve_add.proofs.inner.testing.test_dim.Goals as goal

pub returns-then-is_closed : goal.returns-then-is_closed
returns-then-is_closed c =
    λ names. dim-closed names _ (sym c.if-is_closed.ensures) (c.satisfied_if.ensures ∙ ap (λ (n : ℕ). satisfiedIf (eqb n 3)) c.kind.ensures)

pub returns-else-is_closed : goal.returns-else-is_closed
returns-else-is_closed c = λ names. dim-open names _ (sym c.if-is_closed.ensures)
