-- `inner::checks::check_unmixed` meets its contract.
use Rattle.std.specs.Prelude.{Bool}
use Rattle.std.proofs.Common.{sym, ap, ◌∙◌}
use Rattle.rules.specs.Base.{need}
use Rattle.schemes.proofs.inner.checks.check_unmixed.Goals as goal

pub returns-then-is_unmixed : goal.returns-then-is_unmixed
returns-then-is_unmixed c = λ names. ap (λ (b : Bool). need b 4) (sym c.if-is_unmixed.true ∙ c.is_unmixed.ensures names)

pub returns-else-is_unmixed : goal.returns-else-is_unmixed
returns-else-is_unmixed c = λ names. ap (λ (b : Bool). need b 4) (sym c.if-is_unmixed.false ∙ c.is_unmixed.ensures names)
