use Rattle.std.proofs.Common.{ap, ◌∙◌}
use Rattle.rules.specs.Adding.{violatedIf}
use Rattle.solve_add.proofs.Tests.{scalar-none, scalar-some}
use Rattle.solve_add.proofs.inner.testing.test_scalar.Goals as goal

pub returns-then-product-eq0 : goal.returns-then-product-eq0
returns-then-product-eq0 c = λ names. scalar-none names _ c.args.product.factors.1.many c.if-product-eq0.true

pub returns : goal.returns
returns c = λ names. scalar-some names _ c.args.product.factors.1.many c.if-product-eq0.false (c.violated_if.ensures ∙ ap violatedIf c.all_constant.ensures)
