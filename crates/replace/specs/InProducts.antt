-- Replacing in a product, factor by factor.
use Rattle.std.specs.Prelude.{ℕ}
use mathlib.Core.List.{[], ◌∷◌}
use Rattle.std.proofs.Math.Option.{Option, none, some}
use Rattle.rules.specs.Base.{Got, got, ◌>>=◌, bounded}
use Rattle.rules.specs.Products.{divide, raise, multiply}
use Rattle.rules.specs.Replacing.{Look, asProduct}
use Rattle.rules.specs.Trees.{free, base, Factor, ◌↑◌, Names, Ty}
use Rattle.products.specs.Told.{Tree}

-- what the atom of a factor is bound to
abbrev pub atomLooked : Look ℕ → Factor ℕ → Option (Ty ℕ)
atomLooked look (free o ↑ e) = look o
atomLooked look (base n ↑ e) = none

module _ (ν : Names ℕ) where
  -- 'divide by variable^p, multiply by the bound dimension^p'; a factor that isn't bound stays
  unfoldable pub put_in : Option (Ty ℕ) → Factor ℕ → Tree → Got Tree
  put_in none f acc = got acc
  put_in (some t) (a ↑ e) acc = do
    d ← asProduct t
    left ← divide ν bounded acc (a ↑ e ∷ [])
    more ← raise ν bounded d e
    multiply ν bounded left more
