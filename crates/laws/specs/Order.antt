-- What is asked of an order of names, or of the atoms of a product.
use Rattle.std.specs.Prelude.{◌≡◌}
use Prim.Native.Nat.{Ordering}

abbrev pub turned : Ordering → Ordering
turned Ordering.lt = Ordering.gt
turned Ordering.eq = Ordering.eq
turned Ordering.gt = Ordering.lt

-- it turns with its arguments, it is transitive, and equals stand alike to all else
pub record Lawful {A : Type 0} (order : A → A → Ordering) : Type 0 where
  pub turn : (a b : A) → order b a ≡ turned (order a b)
  pub trans : (a b c : A) → order a b ≡ Ordering.lt → order b c ≡ Ordering.lt → order a c ≡ Ordering.lt
  pub alike : (a b c : A) → order a b ≡ Ordering.eq → order a c ≡ order b c

-- an order that tells apart what differs, among those of P
pub record Tells {A : Type 0} (P : A → Type 0) (order : A → A → Ordering) : Type 0 where
  pub same : (a b : A) → P a → P b → order a b ≡ Ordering.eq → a ≡ b
