use Rattle.std.proofs.Common.{ap, ◌∙◌}
use Rattle.rules.specs.Adding.{addTest}
use Rattle.rules.specs.Names.{numbered}
use Rattle.solve_add.proofs.inner.testing.test.Goals as goal

pub returns-in-Equal : goal.returns-in-Equal
unfolding addTest
returns-in-Equal c = λ names. c.test_equal.ensures names ∙ ap (addTest (numbered names)) c.in-Equal.ensures

pub returns-in-IsDimension : goal.returns-in-IsDimension
unfolding addTest
returns-in-IsDimension c = λ names. c.test_dim.ensures names ∙ ap (addTest (numbered names)) c.in-IsDimension.ensures

pub returns-in-HasField : goal.returns-in-HasField
unfolding addTest
returns-in-HasField c = λ names. ap (addTest (numbered names)) c.in-HasField.ensures
