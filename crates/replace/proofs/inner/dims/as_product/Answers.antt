use Rattle.replace.proofs.Dimensions.{as-dim, as-other}
use Rattle.replace.proofs.inner.dims.as_product.Goals as goal

pub returns-in-Dimension : goal.returns-in-Dimension
returns-in-Dimension c = as-dim _ c.in-Dimension.ensures c.value.ensures

pub returns-in_default : goal.returns-in_default
returns-in_default c = as-other _ c.shape.ensures c.in_default.not-Open c.in_default.not-Dimension
