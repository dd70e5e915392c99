use Rattle.std.proofs.Common.{sym, ap}
use Rattle.rules.specs.Base.{got}
use Rattle.rules.specs.Rounds.{dimensionParts}
use Rattle.rules.specs.Views.{productOf}
use Rattle.solve_step.proofs.Others.{no-dimension}
use Rattle.solve_step.proofs.Written.{split-is, stuck-is}
use Rattle.solve_step.proofs.inner.others.is_dimension.Goals as goal

pub returns-in-Dimension : goal.returns-in-Dimension
unfolding dimensionParts
returns-in-Dimension c = split-is _ (ap (λ t. got (dimensionParts (productOf t))) (sym c.in-Dimension.ensures)) c.put_parts.ensures

pub returns-in_default : goal.returns-in_default
returns-in_default c = stuck-is (no-dimension _ c.shape.ensures c.in_default.not-Dimension)
