-- What is proved of the calls by themselves. The functions of src/theorems.rt promise these statements.
use Rattle.std.specs.Prelude.{◌≡◌, List, ℕ, Result}
use Rattle.rules.specs.Base.{Got}
use Rattle.rules.specs.Exponents.{Exp}
use Rattle.rules.specs.Numbers as numbers
use Rattle.rules.specs.Numbers.{number}
use Rattle.rules.specs.Products.{scalar}
use Rattle.rules.specs.Refusals.{toldBy, numberAnswer}
use Rattle.rules.specs.Values.{ProductValue, productValue, multiplyCall, divideCall, inverseCall, raiseCall}
use Rattle.rules.specs.declared.Refusal.{Refusal}
use Rattle.products.specs.declared.Product.{Product}
use Rattle.products.specs.Told.{Tree, given, answer}

-- two results that a clause `toldBy given result ≡ answer m` allows are the same
abbrev pub OneAnswer : Got Tree → Type 0
OneAnswer m = (p q : Result Product Refusal) → toldBy given p ≡ answer m → toldBy given q ≡ answer m → p ≡ q

pub record CallsDetermined : Type 0 where
  pub multiplying : (pool table : List ℕ) (v w : ProductValue) → OneAnswer (multiplyCall pool table v w)
  pub dividing : (pool table : List ℕ) (v w : ProductValue) → OneAnswer (divideCall pool table v w)
  pub inverting : (pool table : List ℕ) (v : ProductValue) → OneAnswer (inverseCall pool table v)
  pub raising : (pool table : List ℕ) (v : ProductValue) (e : Exp) → OneAnswer (raiseCall pool table v e)
  pub scalars : (p q : Product) → given p ≡ productValue scalar → given q ≡ productValue scalar → p ≡ q

-- and the number of such a result is the rules': 0, or that of its refusal
abbrev pub Numbered : Got Tree → Type 0
Numbered m = (p : Result Product Refusal) → toldBy given p ≡ answer m → numberAnswer p ≡ number (numbers.product m)

pub record CallsNumbered : Type 0 where
  pub multiplying : (pool table : List ℕ) (v w : ProductValue) → Numbered (multiplyCall pool table v w)
  pub dividing : (pool table : List ℕ) (v w : ProductValue) → Numbered (divideCall pool table v w)
  pub inverting : (pool table : List ℕ) (v : ProductValue) → Numbered (inverseCall pool table v)
  pub raising : (pool table : List ℕ) (v : ProductValue) (e : Exp) → Numbered (raiseCall pool table v e)
