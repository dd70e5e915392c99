-- The base dimensions that the records of a set name are those of its products.
use Rattle.std.specs.Prelude.{◌≡◌, length}
use Rattle.std.proofs.Math.Path.{refl, ap, ap₂, sym}
use Rattle.std.proofs.Common.{◌∙◌, subst}
use mathlib.Core.List.{List, [], ◌∷◌, ◌++◌, map, append_assoc}
use Prim.Native.Nat.{ℕ, zero, suc, ◌+◌, ◌-◌, ◌≤◌}
use native.Mathlib.Omega.{arith}
use Rattle.rules.specs.Base.{collect}
use Rattle.rules.specs.Exponents.{frac}
use Rattle.rules.specs.Trees.{var, quant, par, free, base, Factor, ◌↑◌, Product, is_scalar, size, sizeCon}
use Rattle.rules.specs.WellFormed.{atomOf}
use Rattle.records.specs.Views.{viewAt}
use Rattle.records.specs.Holds.{HoldsFactor, HoldsFactors, HoldsProduct, HoldsCon}
use Rattle.engine_rows.specs.Columns.{basesView, basesFrom, basesIn}
use Rattle.records.specs.Good.{Chain, GoodCon}
use Rattle.engine_rows.proofs.Sorting.{basesOf, bases-append}

module _ (s : List ℕ) where
  from-append : (m n at : ℕ) → basesFrom s (m + n) at ≡ basesFrom s m at ++ basesFrom s n (at + m)
  unfolding basesFrom
  from-append zero n at = let z : 0 + n ≡ n = omega arith in let y : at + 0 ≡ at = omega arith in rw (z, y) refl
  from-append (suc m) n at =
      let z : suc m + n ≡ suc (m + n) = omega arith in
      let y : at + 1 + m ≡ at + suc m = omega arith in
      rw z (ap (basesView (viewAt s at) ++◌) (from-append m n (at + 1) ∙ ap (λ (x : ℕ). basesFrom s m (at + 1) ++ basesFrom s n x) y)
      ∙ sym (append_assoc (basesView (viewAt s at)) (basesFrom s m (at + 1)) (basesFrom s n (at + suc m))))

  factor-bases : (f : Factor ℕ) (at : ℕ) → HoldsFactor s f at → basesView (viewAt s at) ≡ basesOf (atomOf f ∷ [])
  unfolding collect
  factor-bases (free (var x) ↑ frac n d) at h = ap basesView h.0
  factor-bases (free (quant i) ↑ frac n d) at h = ap basesView h.0
  factor-bases (free (par x) ↑ frac n d) at h = ap basesView h.0
  factor-bases (base x ↑ frac n d) at h = ap basesView h.0

  factors-bases : (p : Product ℕ) (at : ℕ) → HoldsFactors s p at → basesFrom s (length p) at ≡ basesOf (map atomOf p)
  unfolding collect basesFrom HoldsFactors
  factors-bases [] at h = refl
  factors-bases (f ∷ p) at h = ap₂ ◌++◌ (factor-bases f at h.0) (factors-bases p (at + 1) h.1) ∙ sym (bases-append (atomOf f ∷ []) (map atomOf p))

  con-bases : (p : Product ℕ) (at : ℕ) → HoldsCon s (is_scalar p) at → basesFrom s (sizeCon (is_scalar p)) at ≡ basesOf (map atomOf p)
  unfolding basesFrom HoldsCon HoldsProduct sizeCon size
  con-bases p at h = ap₂ ◌++◌ (ap basesView h.0) (ap₂ ◌++◌ (ap basesView h.1.0) (factors-bases p (at + 1 + 1) h.1.1))

  module _ (pool table : List ℕ) where
    pub set-bases : (ps : List (Product ℕ)) (at e : ℕ) → Chain (GoodCon pool table 0 s) e (map is_scalar ps) at
        → (at ≤ e) × (basesIn s at e ≡ basesOf (collect (λ p. map atomOf p) ps))
    unfolding collect basesFrom
    set-bases [] at e c = (omega (arith, c), let z : e - at ≡ 0 = omega (arith, c) in rw z refl)
    set-bases (p ∷ ps) at e c =
        let m = sizeCon (is_scalar p) in
        let r : (at + m ≤ e) × (basesIn s (at + m) e ≡ basesOf (collect (λ p. map atomOf p) ps)) =
        subst (λ (x : ℕ). (x ≤ e) × (basesIn s x e ≡ basesOf (collect (λ p. map atomOf p) ps))) c.1.0.past (set-bases ps c.0 e c.1.1) in
        let z : e - at ≡ m + (e - (at + m)) = omega (arith, r.0) in (
          omega (arith, r.0),
          rw z (from-append m (e - (at + m)) at ∙ ap₂ ◌++◌ (con-bases p at c.1.0.held) r.1
              ∙ sym (bases-append (map atomOf p) (collect (λ p. map atomOf p) ps))),
        )
