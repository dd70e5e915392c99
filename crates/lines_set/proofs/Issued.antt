-- The constraints of a step, put together from their records.
use Rattle.std.specs.Prelude.{◌≡◌, true, false, ℕ, ◌+◌, ◌≤◌, ℤ}
use Rattle.std.proofs.Math.Path.{refl, ap}
use Rattle.std.proofs.Common.{sym, ◌∙◌, arith, subst, append_assoc}
use Rattle.std.proofs.lemmas.List.{append-nil}
use mathlib.Core.List.{List, [], ◌∷◌, ◌++◌}
use Prim.Native.Nat.{Ordering}
use Rattle.rules.specs.Base.{collect}
use Rattle.rules.specs.Exponents.{Exp, frac, one, isZero}
use Rattle.rules.specs.Trees.{var, free, ◌↑◌, Product, Names, Ty, basic, boolean, dim, equal, isDim, size, sizeCon}
use Rattle.rules.specs.Writing.{Rec, twos, writeTy, writeProduct, writeFactor, writeCon}
use Rattle.rules.specs.Products.{put}
use Rattle.records.specs.Cut.{fit}
use Rattle.records.specs.Views.{recOf}
use Rattle.records.specs.declared.Atom.TheVariants as atoms
use Rattle.records.specs.declared.Basic.TheVariants as basics
use Rattle.records.specs.declared.Open.TheVariants as opens
use Rattle.records.specs.declared.View.TheVariants as view
use Rattle.types.specs.Written.{Writes}
use Rattle.types.proofs.Written.{writes-then}
use Rattle.types.proofs.Puts.{equal-writes}
use Rattle.types.specs.declared.writer.Writer.{Writer}
use Rattle.rules.specs.Steps.{adds, compares, gives, raised, chosen}
use Rattle.lines_entry.specs.Told.{twoOf}
use Rattle.lines_entry.specs.declared.inner.steps.Two.{Two}
use Rattle.lines_set.specs.Deeds.{deedOf}
use Rattle.lines_set.specs.declared.deeds.Deed.{Deed}
use Rattle.rules.specs.Lines.{its, dimensions, twoFactors, issuedByTwo, issued}

pub dim-put : {w w₁ w₂ : Writer} (x : ℕ) → Writes w w₁ (recOf view.IsDim (fit 2) ∷ []) → Writes w₁ w₂ (writeTy (its x)) → Writes w w₂ (writeCon (isDim (its x)))
unfolding writeCon sizeCon size fit
dim-put x p q = writes-then (recOf view.IsDim 2 ∷ []) (writeTy (its x)) p q

-- that x is a type of n - 2 records
equal-put : {w w₁ w₂ w₃ : Writer} (x : ℕ) (t : Ty ℕ) (n : ℕ) → n ≡ 2 + size t → n ≤ 65_535 → Writes w w₁ (recOf view.Equal (fit n) ∷ [])
    → Writes w₁ w₂ (writeTy (its x)) → Writes w₂ w₃ (writeTy t) → Writes w w₃ (writeCon (equal (its x) t))
unfolding size
equal-put x t n e l p q r = equal-writes (its x) t n e l p q r

pub same-put : {w w₁ w₂ w₃ : Writer} (x y : ℕ) → Writes w w₁ (recOf view.Equal (fit 3) ∷ []) → Writes w₁ w₂ (writeTy (its x)) → Writes w₂ w₃ (writeTy (its y))
    → Writes w w₃ (writeCon (equal (its x) (its y)))
unfolding size
same-put x y p q r = equal-put x (its y) 3 refl (omega arith) p q r

pub boolean-put : {w w₁ w₂ w₃ : Writer} (x : ℕ) → Writes w w₁ (recOf view.Equal (fit 3) ∷ []) → Writes w₁ w₂ (writeTy (its x))
    → Writes w₂ w₃ (recOf (view.Basic basics.Boolean) (fit 1) ∷ []) → Writes w w₃ (writeCon (equal (its x) (basic boolean)))
unfolding size writeTy fit
boolean-put x p q r = equal-put x (basic boolean) 3 refl (omega arith) p q r

pub dimensions-put : {w w₁ w₂ : Writer} (l r : ℕ) → Writes w w₁ (writeCon (isDim (its l))) → Writes w₁ w₂ (writeCon (isDim (its r)))
    → Writes w w₂ (collect writeCon (dimensions l r))
unfolding collect
dimensions-put {w} {w₁} {w₂} l r p q = subst (Writes w w₂) (ap (writeCon (isDim (its l)) ++◌) (sym (append-nil (writeCon (isDim (its r))))))
    (writes-then (writeCon (isDim (its l))) (writeCon (isDim (its r))) p q)

pub given-put : {w w₁ w₂ w₃ : Writer} (ν : Names ℕ) (v : ℕ) (t : Ty ℕ) (n : ℕ) → n ≡ 2 + size t → size t ≤ 2048 → Writes w w₁ (recOf view.Equal (fit n) ∷ [])
    → Writes w₁ w₂ (writeTy (its v)) → Writes w₂ w₃ (writeTy t) → Writes w w₃ (collect writeCon (issued ν v (gives t)))
unfolding collect issued
given-put {w} {w₁} {w₂} {w₃} ν v t n e l p q r = subst (Writes w w₃) (sym (append-nil (writeCon (equal (its v) t)))) (equal-put v t n e (omega
    (arith, e, l)) p q r)

-- three constraints, or two and one
module _ {w w₁ w₂ w₃ : Writer} (ν : Names ℕ) (v l r : ℕ) where
  pub sum-put : Writes w w₁ (collect writeCon (dimensions l r)) → Writes w₁ w₂ (writeCon (equal (its l) (its r)))
      → Writes w₂ w₃ (writeCon (equal (its v) (its l))) → Writes w w₃ (collect writeCon (issuedByTwo ν v adds l r))
  unfolding collect issuedByTwo writeCon writeTy
  sum-put p q e = writes-then (collect writeCon (dimensions l r)) (writeCon (equal (its l) (its r)) ++ writeCon (equal (its v) (its l))) p
      (writes-then (writeCon (equal (its l) (its r))) (writeCon (equal (its v) (its l))) q e)

  pub comparison-put : Writes w w₁ (collect writeCon (dimensions l r)) → Writes w₁ w₂ (writeCon (equal (its l) (its r)))
      → Writes w₂ w₃ (writeCon (equal (its v) (basic boolean))) → Writes w w₃ (collect writeCon (issuedByTwo ν v compares l r))
  unfolding collect issuedByTwo writeCon writeTy
  comparison-put p q e = writes-then (collect writeCon (dimensions l r)) (writeCon (equal (its l) (its r)) ++ writeCon (equal (its v) (basic boolean))) p
      (writes-then (writeCon (equal (its l) (its r))) (writeCon (equal (its v) (basic boolean))) q e)

  pub choice-put : (c : ℕ) → Writes w w₁ (writeCon (equal (its c) (basic boolean))) → Writes w₁ w₂ (writeCon (equal (its l) (its r)))
      → Writes w₂ w₃ (writeCon (equal (its v) (its l))) → Writes w w₃ (collect writeCon (issued ν v (chosen c l r)))
  unfolding collect issued writeCon writeTy
  choice-put c p q e = writes-then (writeCon (equal (its c) (basic boolean))) (writeCon (equal (its l) (its r)) ++ writeCon (equal (its v) (its l))) p
      (writes-then (writeCon (equal (its l) (its r))) (writeCon (equal (its v) (its l))) q e)

-- ══ Products ══

-- the left one stands first
abbrev pub Rising : Ordering → Type 0
Rising Ordering.lt = Unit {0}
Rising Ordering.eq = Unit {0}
Rising Ordering.gt = ⊥

module _ (ν : Names ℕ) (l r : ℕ) (e : Exp) where
  -- the left one stands first, except where its name comes later
  pub falls : Ordering.gt ≡ ν.order l r → free (var r) ↑ e ∷ free (var l) ↑ one ∷ [] ≡ twoFactors ν l r e
  unfolding twoFactors
  falls q = rw (← q, twoFactors)

  pub rises : (o : Ordering) → o ≡ ν.order l r → Rising o → free (var l) ↑ one ∷ free (var r) ↑ e ∷ [] ≡ twoFactors ν l r e
  unfolding twoFactors
  rises Ordering.lt q f = rw (← q, twoFactors)
  rises Ordering.eq q f = rw (← q, twoFactors)
  rises Ordering.gt q f = absurd f

  long-two : 5 ≡ 2 + size (dim (twoFactors ν l r e))
  unfolding size
  long-two = go (ν.order l r) refl
    where
      go : (o : Ordering) → o ≡ ν.order l r → 5 ≡ 2 + size (dim (twoFactors ν l r e))
      go Ordering.lt q = ap (λ (p : Product ℕ). 2 + size (dim p)) (rises Ordering.lt q tt)
      go Ordering.eq q = ap (λ (p : Product ℕ). 2 + size (dim p)) (rises Ordering.eq q tt)
      go Ordering.gt q = ap (λ (p : Product ℕ). 2 + size (dim p)) (falls q)

  two-lists : (rs : List Rec) → collect writeCon (dimensions l r) ++ rs ≡ writeCon (isDim (its l)) ++ (writeCon (isDim (its r)) ++ rs)
  unfolding collect
  two-lists rs = append_assoc (writeCon (isDim (its l))) (writeCon (isDim (its r)) ++ []) rs
      ∙ ap (writeCon (isDim (its l)) ++◌) (ap (◌++ rs) (append-nil (writeCon (isDim (its r)))))

  pub product-put : {w w₁ w₂ w₃ w₄ : Writer} (v : ℕ) → Writes w w₁ (collect writeCon (dimensions l r)) → Writes w₁ w₂ (recOf view.Equal (fit 5) ∷ [])
      → Writes w₂ w₃ (writeTy (its v)) → Writes w₃ w₄ (writeTy (dim (twoFactors ν l r e)))
      → Writes w w₄ (collect writeCon (dimensions l r ++ equal (its v) (dim (twoFactors ν l r e)) ∷ []))
  unfolding collect
  product-put {w} {w₁} {w₂} {w₃} {w₄} v p q s t =
      let c : List Rec = writeCon (equal (its v) (dim (twoFactors ν l r e))) in
      let u : Writes w₁ w₄ (c ++ []) = subst (Writes w₁ w₄) (sym (append-nil c)) (equal-put v (dim (twoFactors ν l r e)) 5 long-two (omega arith) q s t) in
      subst (Writes w w₄) (two-lists (c ++ [])) (writes-then (collect writeCon (dimensions l r)) (c ++ []) p u)

-- the words of its record say a factor
pub factor-put : {w w₁ : Writer} (x n d : ℕ) (k : ℤ) → n ≡ twos k → Writes w w₁ (recOf (view.Factor (atoms.Free (opens.Var x)) n d) (fit 1) ∷ [])
    → Writes w w₁ (writeFactor (free (var x) ↑ frac k d) ∷ [])
unfolding writeFactor fit
factor-put x n d k e p = rw (← e) p

pub product-as : {w w₁ : Writer} (p q : Product ℕ) → p ≡ q → Writes w w₁ (writeTy (dim p)) → Writes w w₁ (writeTy (dim q))
product-as {w} {w₁} p q e h = subst (λ (f : Product ℕ). Writes w w₁ (writeTy (dim f))) e h

-- two powers behind their count
pub pair-put : {w w₁ w₂ w₃ : Writer} (x y : ℕ) (a b : Exp) → Writes w w₁ (recOf (view.Dim 2) (fit 3) ∷ [])
    → Writes w₁ w₂ (writeFactor (free (var x) ↑ a) ∷ []) → Writes w₂ w₃ (writeFactor (free (var y) ↑ b) ∷ [])
    → Writes w w₃ (writeTy (dim (free (var x) ↑ a ∷ free (var y) ↑ b ∷ [])))
unfolding writeTy writeProduct fit
pair-put x y a b q r s = writes-then (recOf (view.Dim 2) 3 ∷ []) (writeFactor (free (var x) ↑ a) ∷ writeFactor (free (var y) ↑ b) ∷ []) q
    (writes-then (writeFactor (free (var x) ↑ a) ∷ []) (writeFactor (free (var y) ↑ b) ∷ []) r s)

-- ══ Powers ══

module _ (ν : Names ℕ) (v x : ℕ) (e : Exp) where
  power-put : {w w₁ w₂ : Writer} (f : Product ℕ) → put (free (var x)) e [] ≡ f → Writes w w₁ (writeCon (isDim (its x)))
      → Writes w₁ w₂ (writeCon (equal (its v) (dim f))) → Writes w w₂ (collect writeCon (issued ν v (raised e x)))
  unfolding collect issued
  power-put {w} {w₁} {w₂} f h p q =
      rw h (writes-then (writeCon (isDim (its x))) (writeCon (equal (its v) (dim f)) ++ []) p
      (subst (Writes w₁ w₂) (sym (append-nil (writeCon (equal (its v) (dim f))))) q))

  pub scalar-put : {w w₁ w₂ w₃ w₄ : Writer} → isZero e ≡ true → Writes w w₁ (writeCon (isDim (its x))) → Writes w₁ w₂ (recOf view.Equal (fit 3) ∷ [])
      → Writes w₂ w₃ (writeTy (its v)) → Writes w₃ w₄ (recOf (view.Dim 0) (fit 1) ∷ []) → Writes w w₄ (collect writeCon (issued ν v (raised e x)))
  unfolding size writeTy writeProduct fit
  scalar-put z p q r s = power-put [] (rw (z, put)) p (equal-put v (dim []) 3 refl (omega arith) q r s)

  pub raised-put : {w w₁ w₂ w₃ w₄ w₅ : Writer} → isZero e ≡ false → Writes w w₁ (writeCon (isDim (its x))) → Writes w₁ w₂ (recOf view.Equal (fit 4) ∷ [])
      → Writes w₂ w₃ (writeTy (its v)) → Writes w₃ w₄ (recOf (view.Dim 1) (fit 2) ∷ []) → Writes w₄ w₅ (writeFactor (free (var x) ↑ e) ∷ [])
      → Writes w w₅ (collect writeCon (issued ν v (raised e x)))
  unfolding size writeTy writeProduct fit
  raised-put z p q r s t = power-put (free (var x) ↑ e ∷ []) (rw (z, put)) p (equal-put v (dim (free (var x) ↑ e ∷ [])) 4 refl (omega arith) q r
      (writes-then (recOf (view.Dim 1) 2 ∷ []) (writeFactor (free (var x) ↑ e) ∷ []) s t))

-- ══ Which deed it is ══

module _ (ν : Names ℕ) (v : ℕ) where
  pub joined-as : {w w₁ : Writer} (two it : Two) (l r : ℕ) → two ≡ it → Writes w w₁ (collect writeCon (issuedByTwo ν v (twoOf it) l r))
      → Writes w w₁ (collect writeCon (issuedByTwo ν v (twoOf two) l r))
  joined-as {w} {w₁} two it l r e h = subst (λ (o : Two). Writes w w₁ (collect writeCon (issuedByTwo ν v (twoOf o) l r))) (sym e) h

  pub deed-as : {w w₁ : Writer} (deed it : Deed) → deed ≡ it → Writes w w₁ (collect writeCon (issued ν v (deedOf it)))
      → Writes w w₁ (collect writeCon (issued ν v (deedOf deed)))
  deed-as {w} {w₁} deed it e h = subst (λ (d : Deed). Writes w w₁ (collect writeCon (issued ν v (deedOf d)))) (sym e) h
