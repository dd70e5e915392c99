-- What follows from the definitions of specs/Order: what is asked of an order of names, or of the atoms of a product.
use Rattle.std.specs.Prelude.{◌≡◌, refl}
use Rattle.std.proofs.Common.{sym, ◌∙◌, ap}
use Prim.Native.Nat.{Ordering}
use Rattle.laws.specs.Order.{turned, Lawful}

module _ {A : Type 0} {order : A → A → Ordering} (law : Lawful order) where
  pub self : (a : A) → order a a ≡ Ordering.eq
  self a = go (order a a) refl
    where
      go : (o : Ordering) → order a a ≡ o → order a a ≡ Ordering.eq
      go Ordering.lt e = let z : Ordering.lt ≡ Ordering.gt = sym e ∙ law.turn a a ∙ ap turned e in cc
      go Ordering.eq e = e
      go Ordering.gt e = let z : Ordering.gt ≡ Ordering.lt = sym e ∙ law.turn a a ∙ ap turned e in cc

  -- what stands before something isn't it
  pub before_differs : (a b : A) → order a b ≡ Ordering.lt → ¬ (a ≡ b)
  before_differs a b h e = let i : order a b ≡ Ordering.eq = rw (← e) (self a) in cc

  pub after : (a b : A) → order a b ≡ Ordering.gt → order b a ≡ Ordering.lt
  after a b h = law.turn a b ∙ ap turned h
