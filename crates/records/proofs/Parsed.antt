-- What follows from the definitions of specs/Parsed: what is held at a place is what is read there; and so one tree at most is held at a place.
use Rattle.std.specs.Prelude.{◌≡◌}
use Rattle.std.proofs.Math.Path.{sym, ap, ap₂}
use Rattle.std.proofs.Common.{subst}
use mathlib.Core.List.{List}
use Prim.Native.Nat.{ℕ, suc, ◌+◌, ◌≤◌}
use native.Mathlib.Omega.{arith}
use Rattle.std.proofs.Math.ListN.{length}
use Rattle.rules.specs.Base.{all}
use Rattle.rules.specs.Trees.{
  Ty,
  opened,
  basic,
  dim,
  fn,
  struct,
  list,
  Tys,
  Con,
  equal,
  isDim,
  is_scalar,
  hasField,
  Binding,
  ◌≔◌,
  size,
  sizeTys,
  sizeCon,
  sizeBinding,
  depthCon,
  depthBinding,
}
use Rattle.rules.specs.Reading.{next, readTy, scalarKinds, conKinds, readCon, bindingKinds, readBinding}
use Rattle.records.specs.Views.{from}
use Rattle.records.specs.Places.{seen}
use Rattle.records.specs.Holds.{HoldsProduct, Holds, HoldsFields, HoldsCon, HoldsBinding}
use Rattle.records.proofs.Holds.{Body}
use Rattle.records.specs.ByView.{open-back, product-in}
use Rattle.records.proofs.ByView.{basic-back, by-body, con-in, binding-in}
use Rattle.records.specs.Parsed.{Gives, by_first, factors-read, read, only, only-tys, only-fields, only-factors}

module _ (s : List ℕ) where
  pub con-read : (c : Con ℕ) (at : ℕ) → HoldsCon s c at → depthCon c ≤ 64 → Gives s (readCon (from s at)) c (at + sizeCon c)
  unfolding HoldsCon HoldsProduct sizeCon size depthCon readCon all
  con-read (equal l r) at h k =
      let q : at + 1 + size l + size r ≡ at + suc (size l + size r) = omega arith in
      by_first s (conKinds (readTy 64)) 20 (suc (size l + size r)) 0 0 0 at (equal l r) (omega arith) (seen s at h.0 h.3 tt)
      (rw (read s l 64 (at + 1) h.1 (omega arith), read s r 64 (at + 1 + size l) h.2 (omega arith), q)) (omega arith) (con-in s (equal l r) at h)
  con-read (isDim t) at h k =
      let q : at + 1 + size t ≡ at + suc (size t) = omega arith in
      by_first s (conKinds (readTy 64)) 21 (suc (size t)) 0 0 0 at (isDim t) (omega arith) (seen s at h.0 h.2 tt) (rw (read s t 64 (at + 1) h.1 k, q))
      (omega arith) (con-in s (isDim t) at h)
  con-read (is_scalar p) at h k =
      let q : at + 1 + 1 + length p ≡ at + 1 + suc (length p) = omega arith in
      let u : at + 1 + suc (length p) ≡ at + suc (suc (length p)) = omega arith in
      let one : Gives s (next scalarKinds (from s (at + 1))) (is_scalar p) (at + 1 + suc (length p)) =
      by_first s scalarKinds 3 (suc (length p)) (length p) 0 0 (at + 1) (is_scalar p) (omega arith) (seen s (at + 1) h.1.0 h.1.2 tt)
      (rw (factors-read s p (at + 1 + 1) h.1.1, q)) (omega arith) (product-in s p (at + 1) h.1) in
      by_first s (conKinds (readTy 64)) 22 (suc (suc (length p))) 0 0 0 at (is_scalar p) (omega arith) (seen s at h.0 h.2 tt) (rw (one, u))
      (omega arith) (con-in s (is_scalar p) at h)
  con-read (hasField n l r) at h k =
      let q : at + 1 + size l + size r ≡ at + suc (size l + size r) = omega arith in
      by_first s (conKinds (readTy 64)) 23 (suc (size l + size r)) n 0 0 at (hasField n l r) (omega arith) (seen s at h.0 h.3 tt)
      (rw (read s l 64 (at + 1) h.1 (omega arith), read s r 64 (at + 1 + size l) h.2 (omega arith), q)) (omega arith) (con-in s (hasField n l r) at h)

  pub binding-read : (b : Binding ℕ) (at : ℕ) → HoldsBinding s b at → depthBinding b ≤ 64 → Gives s (readBinding (from s at)) b (at + sizeBinding b)
  unfolding HoldsBinding sizeBinding depthBinding readBinding all
  binding-read (x ≔ t) at h k =
      let q : at + 1 + size t ≡ at + suc (size t) = omega arith in
      by_first s bindingKinds 24 (suc (size t)) x 0 0 at (x ≔ t) (omega arith) (seen s at h.0 h.2 tt) (rw (read s t 64 (at + 1) h.1 k, q)) (omega arith)
      (binding-in s (x ≔ t) at h)

  -- also except for the length that the first record says
  pub only-body : (t u : Ty ℕ) (at : ℕ) → Body s t at → Body s u at → t ≡ u
  unfolding Body
  only-body t (opened o) at h k = by-body s (λ x. x ≡ opened o) t at h k (ap opened (open-back o))
  only-body t (basic b) at h k = by-body s (λ x. x ≡ basic b) t at h k (ap basic (basic-back b))
  only-body t (dim p) at h k = by-body s (λ x. x ≡ dim p) t at h k.0 (λ q n i. ap dim (only-factors s q p (at + 1) n i k.1))
  only-body t (fn ps r) at h k = by-body s (λ x. x ≡ fn ps r) t at h k.0 (λ qs r' n i j.
      let e = only-tys s qs ps (at + 1) n i k.1 in
      ap₂ fn e (only s r' r (at + 1 + sizeTys qs) j (subst (λ (x : Tys ℕ). Holds s r (at + 1 + sizeTys x)) (sym e) k.2)))
  only-body t (struct n as' fs) at h k = by-body s (λ x. x ≡ struct n as' fs) t at h k.0 (λ bs gs m c i j.
      let e = only-tys s bs as' (at + 1) m i k.1 in
      ap₂ (struct n) e (only-fields s gs fs (at + 1 + sizeTys bs) c j (subst (λ (x : Tys ℕ). HoldsFields s fs (at + 1 + sizeTys x)) (sym e) k.2)))
  only-body t (list u) at h k = by-body s (λ x. x ≡ list u) t at h k.0 (λ v i. ap list (only s v u (at + 1) i k.1))
