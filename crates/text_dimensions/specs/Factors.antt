-- Factors, multiplied from left to right while they are read.
use Rattle.std.specs.Prelude.{Bool, true, false, List, []}
use Prim.Native.Nat.{ℕ, ◌≤◌}
use Rattle.rules.specs.Names.{Bytes}
use Rattle.rules.specs.Grammar.{Rule, FactorAt, moreFactors}
use Rattle.rules.specs.TextReading.{Step, factorsOf}
use Rattle.products.specs.Told.{Tree, productOf}
use Rattle.products.specs.Held.{Well}
use Rattle.products.specs.declared.Product.{Product}
use Rattle.text_grammar.specs.declared.inner.Point.TheVariants as point
use Rattle.text_grammar.specs.declared.inner.Point.{Point}
use Rattle.text_grammar.specs.Points.{Reads, left_at}
use Rattle.text_names.specs.Stands.{Stand}
use Rattle.text_names.specs.Effects.{Lent, lent, Ready, Kept, Effect, NotBad}
use Rattle.text_names.specs.Effects.{Done}
use Rattle.text_dimensions.specs.Times.{ProductIs}

abbrev pub is_at : Point → Bool
is_at (point.At i) = true
is_at point.Deep = false
is_at (point.Bad q) = false

-- factors are read and multiplied, whatever the buffer holds: the product is o then, and well formed
abbrev pub ProductDone : {A : Type 0} → Bytes → Rule A → (A → Step Tree) → Point → List ℕ → List ℕ → Stand → Point → Product → List ℕ → List ℕ → Stand → Type 0
ProductDone line R f p pool table s r o pool' table' s' = (Well pool' table' o) ×
    ((dst : List ℕ) → Done line R f (ProductIs o) p (lent pool table dst s) r (lent pool' table' dst s'))

-- ══ Further factors ══

-- all further factors, whatever bounds their number: the product t becomes o
abbrev pub MoreDone : Bytes → Point → Tree → Lent → Point → Product → Lent → Type 0
MoreDone line p t x r o z = (n : ℕ) → left_at line p ≤ n → Reads line p (moreFactors n) (λ fs. NotBad r → Effect (factorsOf fs t) (ProductIs o) x z) r

-- ══ The factors of a dimension ══

abbrev pub fromNone : List FactorAt → Step Tree
fromNone fs = factorsOf fs []

-- what further factors did: the product q became o
pub record Followed (line : Bytes) (p : Point) (q : Product) (pool table : List ℕ) (s : Stand) (r : Point) (o : Product) (pool' table' : List ℕ)
    (s' : Stand) : Type 0 where
  pub ready : Ready line r pool' table' s'
  pub well : Well pool' table' o
  pub kept : (dst : List ℕ) → Kept (lent pool table dst s) (lent pool' table' dst s')
  pub more : (dst : List ℕ) → MoreDone line p (productOf q) (lent pool table dst s) r o (lent pool' table' dst s')
