-- The inverse is well formed again.
use Rattle.laws.proofs.Ranges.{inverted-good}
use Rattle.exponents.proofs.inner.quotient_of.Goals as goal

pub product_of-requires : goal.product_of-requires
product_of-requires c = (c.requires.0, inverted-good _ _ c.requires.1 c.inverse_of.ensures)
