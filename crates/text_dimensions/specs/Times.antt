-- A product multiplied by one factor.
use Rattle.std.proofs.Math.Path.{◌≡◌}
use Rattle.std.specs.Prelude.{ℕ, suc}
use mathlib.Core.List.{List, []}
use Rattle.rules.specs.Base.{bounded}
use Rattle.rules.specs.Exponents.{Exp}
use Rattle.rules.specs.Products.{put, multiply}
use Rattle.rules.specs.TextReading.{Step, placed, namesSofar}
use Rattle.rules.specs.Writing.{Rec}
use Rattle.rules.specs.declared.Refusal.{Refusal}
use Rattle.products.specs.Told.{Tree, productOf}
use Rattle.products.specs.Kinds.{atomBy}
use Rattle.products.specs.Held.{Well}
use Rattle.products.specs.declared.Product.{Product}
use Rattle.text_names.specs.Effects.{lent, Effect}
use Rattle.text_names.specs.Stands.{Stand}
use Rattle.text_names.specs.Stands as stand
use Rattle.text_dimensions.specs.Atoms.{AtomHeld}

-- where the sheet goes on, the factor's name is held
abbrev pub HeldIf : List ℕ → ℕ → ℕ → Stand → Type 0
HeldIf table kind name s = (k n : ℕ) → s ≡ stand.Going k n → AtomHeld table kind name

abbrev pub timesBy : ℕ → Tree → ℕ → ℕ → Exp → Step Tree
timesBy at p kind name e = λ t. placed (suc at) (multiply (namesSofar t) bounded p (put (atomBy kind name) e [])) t

-- this product is told, and nothing is written
pub record ProductIs (o : Product) (t : Tree) (rs : List Rec) : Type 0 where
  pub is : t ≡ productOf o
  pub none : rs ≡ []

pub record Timed (pool table : List ℕ) (q : Product) (kind name : ℕ) (e : Exp) (at : ℕ) (s s' : Stand) (o : Product) : Type 0 where
  pub well : Well pool table o
  pub refused : (r : Refusal) (c : ℕ) → s ≡ stand.Refused r c → s' ≡ stand.Refused r c
  pub going : (k n : ℕ) → s' ≡ stand.Going k n → s ≡ stand.Going k n
  pub effect : (dst : List ℕ) → Effect (timesBy at (productOf q) kind name e) (ProductIs o) (lent pool table dst s) (lent pool table dst s')
