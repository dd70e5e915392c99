-- What is well formed: the parts of a constraint.
use Rattle.std.specs.Prelude.{◌≡◌, true, List, [], ◌∷◌, ℕ}
use Rattle.std.proofs.Common.{arith, sym, subst}
use Rattle.rules.specs.Trees.{◌↑◌, Product, Ty, dim, Con, equal, is_scalar}
use Rattle.rules.specs.WellFormed.{goodTy, goodCon}
use Rattle.laws.proofs.GoodProducts.{GoodFactor, good-product}
use Rattle.laws.specs.Lists.{and_left, and_right, Every}
use Rattle.laws.proofs.Ranges.{stored-good}
use Rattle.laws.proofs.Weaker.{ty-weaker}
use Rattle.products.proofs.Held.{law}
use Rattle.records.specs.Good.{numbers, holding}
use Rattle.replace.specs.Well.{GoodTy, GoodProduct}
use Rattle.solve_step.specs.Parts.{GoodPowers}
use Rattle.solve_step.specs.Stepped.{GoodCon}

module _ (pool table : List ℕ) where
  -- what is well formed without quantified variables is so with any
  wider : (t : Ty ℕ) → goodTy (numbers pool table) (holding pool table) 0 t ≡ true → GoodTy pool table t
  wider t g = ty-weaker (numbers pool table) (holding pool table) 0 4_294_967_296 (omega arith) t g

  pub left-good : (l r : Ty ℕ) {c : Con ℕ} → equal l r ≡ c → GoodCon pool table c → GoodTy pool table l
  unfolding goodCon
  left-good l r e g = wider l (and_left (goodTy _ _ _ l) (goodTy _ _ _ r) (subst (GoodCon pool table) (sym e) g))

  pub right-good : (l r : Ty ℕ) {c : Con ℕ} → equal l r ≡ c → GoodCon pool table c → GoodTy pool table r
  unfolding goodCon
  right-good l r e g = wider r (and_right (goodTy _ _ _ l) (goodTy _ _ _ r) (subst (GoodCon pool table) (sym e) g))

  powers : (p : Product ℕ) → Every (GoodFactor (numbers pool table) (holding pool table) 0) p → GoodPowers p
  powers [] h = tt
  powers (a ↑ e ∷ p) h = (stored-good e h.0.1, powers p h.1)

  pub powers-good : (p : Product ℕ) {c : Con ℕ} → is_scalar p ≡ c → GoodCon pool table c → GoodPowers p
  unfolding goodCon
  powers-good p e g = powers p (good-product (numbers pool table) (law pool table) (holding pool table) 0 p (subst (GoodCon pool table) (sym e) g)).each

  pub product-good : (p : Product ℕ) {t : Ty ℕ} → dim p ≡ t → GoodTy pool table t → GoodProduct pool table p
  unfolding goodTy
  product-good p e g = subst (GoodTy pool table) (sym e) g
