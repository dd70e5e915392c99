-- A dimension: its record and those of the factors that are left, counted and written.
use Rattle.std.specs.Prelude.{◌≡◌, List, Err, Ok}
use Prim.Native.Nat.{ℕ, suc, ◌*◌}
use Rattle.std.proofs.Math.ListN.{length}
use Rattle.std.proofs.Math.Seq.{sets}
use Rattle.rules.specs.Names.{Bytes}
use Rattle.rules.specs.Grammar.{FactorAt, TyAt, dimAt, dimension}
use Rattle.rules.specs.Writing.{words, writeProduct}
use Rattle.rules.specs.TextReading as TextReading
use Rattle.products.specs.Told.{productOf}
use Rattle.products.specs.declared.Product.{Product}
use Rattle.text_grammar.specs.declared.inner.Point.{Point}
use Rattle.text_grammar.specs.Points.{Reads}
use Rattle.text_names.specs.Stands.{countOf, Stand}
use Rattle.text_names.specs.Effects.{Lent, lent, Kept}
use Rattle.text_names.specs.Effects.{Effect, Writes, Halted, NotBad}
use Rattle.text_names.specs.Stands as stand
use Rattle.text_dimensions.specs.Times.{ProductIs}
use Rattle.text_dimensions.specs.Factors.{fromNone}

-- the product's records at the place that s counted, if all was counted up to r
abbrev pub productPut : Product → Stand → Stand → List ℕ → List ℕ
productPut q (Ok tally) (Ok tally') d = sets d (tally.records * 4) (words (writeProduct (productOf q)))
productPut q (Ok tally) (Err stop) d = d
productPut q (Err stop) s d = d

module _ (q : Product) {pool table pool' table' dst dst' : List ℕ} (s s₁ s₂ s₃ : Stand) (at at₂ c e : ℕ) (fs : List FactorAt)
    (first : s₁ ≡ countOf 1 at s) (last : s₃ ≡ countOf (length (productOf q)) at₂ s₂)
    (begins : (i n : ℕ) → s ≡ stand.Going i n → c ≡ suc at) (ends : (i n : ℕ) → s₂ ≡ stand.Going i n → e ≡ suc at₂)
    (kept : Kept (lent pool table dst s₁) (lent pool' table' dst s₂))
    (f : Effect (fromNone fs) (ProductIs q) (lent pool table dst s₁) (lent pool' table' dst s₂))
    (put : dst' ≡ productPut q s s₃ dst) where
  abbrev pub end : Lent
  end = lent pool' table' dst' s₃

-- ══ A dimension, read and written ══

-- what was read is a dimension, and its product was counted and written
pub record DimMeant (t : TyAt) (x y : Lent) : Type 0 where
  pub start : ℕ
  pub factors : List FactorAt
  pub end : ℕ
  pub is : t ≡ dimAt start factors end
  pub effect : Effect (TextReading.productOf start factors end) (Writes writeProduct) x y

pub record DimDone (line : Bytes) (p : Point) (x : Lent) (r : Point) (y : Lent) : Type 0 where
  pub reads : Reads line p dimension (λ t. NotBad r → DimMeant t x y) r
  pub kept : Kept x y
  pub halted : Halted r y.stand
