-- Well formed products, factor by factor, and the test of a product.
use Rattle.std.proofs.Math.Path.{◌≡◌}
use Rattle.std.specs.Prelude.{List, ℕ, suc, ◌<◌, ◌≤◌}
use Rattle.std.proofs.Math.Bool.{true}
use Prim.Native.Nat.{Ordering}
use Rattle.std.proofs.Math.ListN.{length}
use Rattle.rules.specs.Exponents.{goodStored}
use Rattle.rules.specs.Names.{table_of, numbersOf}
use Rattle.rules.specs.Trees.{orderAtom}
use Rattle.exponents.specs.Answers.{expOf}
use Rattle.products.specs.declared.Product.{Product}
use Rattle.products.specs.Told.{atomAt, heldIn, factorAt}
use Rattle.products.specs.Kinds.{Kind, Fine}

-- known kinds and stored exponents
pub record Sound (p : Product) : Type 0 where
  pub few : p.len ≤ 64
  pub long : length p.factors ≡ 64
  pub kind : (i : ℕ) → i < p.len → Kind (factorAt p i).kind
  pub stored : (i : ℕ) → i < p.len → goodStored (expOf (factorAt p i).exp) ≡ true

-- a well formed product
pub record Well (pool table : List ℕ) (p : Product) : Type 0 where
  pub few : p.len ≤ 64
  pub long : length p.factors ≡ 64
  pub each : (i : ℕ) → i < p.len → Fine (numbersOf (table_of pool table)) (heldIn table) (factorAt p i)
  pub rises : (i : ℕ) → suc i < p.len → orderAtom (numbersOf (table_of pool table)) (atomAt (factorAt p i)) (atomAt (factorAt p (suc i))) ≡ Ordering.lt
