-- `products::Product::scalar` meets its contract: 64 unused places are computed.
use mathlib.Core.Path.{refl}
use Rattle.rules.specs.Values.{productValue}
use Rattle.products.specs.Told.{given}
use Rattle.products.proofs.Product.scalar.Goals as goal

pub returns : goal.returns
unfolding given productValue
returns c = refl
