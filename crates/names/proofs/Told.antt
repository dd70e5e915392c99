-- What follows from the definitions of specs/Told: the answers of the code as values of the rules.
use Rattle.std.specs.Prelude.{◌≡◌}
use Rattle.std.specs.Prelude.{◌⊎◌, ◌<◌}
use Rattle.std.specs.Ordering.{nat_cmp}
use Rattle.std.proofs.Common.{inl, inr, arith}
use Rattle.std.proofs.lemmas.Bool.{cases_order, le-ltb, lt-ltb}
use Rattle.laws.proofs.ByteOrder.{compare-equal, compare-below, compare-above}
use Prim.Native.Nat.{ℕ, compare}
use Rattle.names.specs.Told.{toldOrder}

-- std's order of numbers is the rules'
pub ordered : (x y : ℕ) → toldOrder (nat_cmp x y) ≡ compare x y
ordered x y = go (cases_order x y)
  where
    go : (x ≡ y) ⊎ ((x < y) ⊎ (y < x)) → toldOrder (nat_cmp x y) ≡ compare x y
    go (inl e) = rw (compare-equal x y e, le-ltb x y (omega arith))
    go (inr (inl h)) = rw (compare-below x y h, lt-ltb x y h)
    go (inr (inr h)) = rw (compare-above x y h, le-ltb x y (omega arith))
