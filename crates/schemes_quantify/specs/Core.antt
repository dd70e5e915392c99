-- A scheme that was written from the start of the work buffer is what quantifying makes, or it is too long.
use mathlib.Core.List.{List}
use Prim.Native.Nat.{ℕ}
use Rattle.rules.specs.Base.{Got, got, ◌>>=◌, bounded}
use Rattle.rules.specs.Schemes.{scheme, schemeLimited}
use Rattle.rules.specs.Trees.{Open, Ty}
use Rattle.rules.specs.Writing.{Rec, writeScheme}

module _ (n : ℕ) (bs : List (Open ℕ)) where
  -- what quantifying makes of the renamed type
  abbrev pub limitedScheme : Got (Ty ℕ) → Got (List Rec)
  limitedScheme R = R >>= λ u. schemeLimited bounded 1 u bs (scheme n u bs) >>= λ s. got (writeScheme s)
