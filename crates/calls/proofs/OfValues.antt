-- What is told of a product.
use Rattle.std.proofs.Math.Path.{◌≡◌, refl}
use Rattle.std.specs.Prelude.{List, ℕ}
use Rattle.rules.specs.Base.{Got, got, refused}
use Rattle.rules.specs.Values.{productValue}
use Rattle.products.specs.Told.{Tree, answer}
use Rattle.calls_defined.specs.Dispatch.{productShown}
use Rattle.calls.specs.Values.{valueShown}

-- what is told of a product by its value is what is told of the product
pub value-shown : (m : Got Tree) (d : List ℕ) → valueShown (answer m) d ≡ productShown m d
unfolding valueShown productShown answer productValue
value-shown (got t) d = refl
value-shown (refused n) d = refl
