-- What a comparison of two names says of whether they are the same.
use mathlib.Core.Path.{◌≡◌, refl, sym, ◌∙◌, ap}
use Rattle.std.specs.Prelude.{◌⊎◌}
use Rattle.std.proofs.Common.{inl, inr}
use mathlib.Core.Bool.{true, false}
use mathlib.Core.List.{[], ◌∷◌}
use Prim.Native.Nat.{Ordering, compare}
use Rattle.std.specs.Ordering.{nat_cmp, ordering_then}
use Rattle.std.specs.Cmp.Lexicographic.{slice_cmp}
use Rattle.rules.specs.Names.{Bytes, then, orderBytes, sameBytes}
use Rattle.laws.proofs.Order.{self}
use Rattle.laws.proofs.ByteOrder.{bytes_same, bytes-lawful}
use Rattle.laws.proofs.NameTable.{same-no, same-yes}
use Rattle.std.specs.declared.cmp.Ordering as std
use Rattle.std.specs.declared.cmp.Ordering.TheVariants.{Less, Equal, Greater}
use Rattle.names.specs.Told.{toldOrder}
use Rattle.names.proofs.Told.{ordered}

module _ (n m : Bytes) where
  pub hit : toldOrder Equal ≡ orderBytes n m → sameBytes n m ≡ true
  hit e = same-yes n m (bytes_same n m (sym e))

  unequal : (orderBytes n m ≡ Ordering.eq → ⊥) → sameBytes n m ≡ false
  unequal f = same-no n m (λ e. f (ap (orderBytes n) (sym e) ∙ self bytes-lawful n))

  pub missed : (o : std.Ordering) → toldOrder o ≡ orderBytes n m → (o ≡ Less) ⊎ (o ≡ Greater) → sameBytes n m ≡ false
  missed Less e t = unequal (λ h. cc)
  missed Greater e t = unequal (λ h. cc)
  missed Equal e (inl h) = cc
  missed Equal e (inr h) = cc

-- std's order of slices is the order by bytes
pub compared : (a b : Bytes) → toldOrder (slice_cmp nat_cmp a b) ≡ orderBytes a b
unfolding orderBytes
compared [] [] = refl
compared [] (y ∷ b) = refl
compared (x ∷ a) [] = refl
compared (x ∷ a) (y ∷ b) = go (nat_cmp x y) (ordered x y) (compared a b)
  where
    go : (o : std.Ordering) → toldOrder o ≡ compare x y → toldOrder (slice_cmp nat_cmp a b) ≡ orderBytes a b
        → toldOrder (ordering_then o (slice_cmp nat_cmp a b)) ≡ then (compare x y) (orderBytes a b)
    go Less e h = rw (← e)
    go Equal e h = rw (← e) h
    go Greater e h = rw (← e)
