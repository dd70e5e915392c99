-- Constraints and bindings that were written, and the steps that they are.
use Rattle.std.specs.Prelude.{◌≡◌, List, [], ◌∷◌, ℕ, suc, ◌+◌, ◌≤◌, length, Result, Ok, refl}
use Rattle.std.proofs.Common.{arith, ap, sym, subst, ◌∙◌, append-nil}
use Rattle.std.proofs.Math.Option.{Option}
use Rattle.rules.specs.Base.{Got, got, collect}
use Rattle.rules.specs.Products.{just}
use Rattle.rules.specs.Rounds as rules
use Rattle.rules.specs.Rounds.{asProducts}
use Rattle.rules.specs.declared.Refusal.{Refusal}
use Rattle.rules.specs.Trees.{var, Product, Ty, dim, Con, equal, is_scalar, ◌≔◌, size, sizeCon, sizeBinding}
use Rattle.rules.specs.Writing.{rec, head, twos, writeFactor, writeProduct, writeTy, writeCon, writeBinding}
use Rattle.records.specs.Cut.{fit}
use Rattle.records.proofs.Cut.{fits}
use Rattle.records.specs.Views.{recOf}
use Rattle.records.specs.declared.Atom.TheVariants as atoms
use Rattle.records.specs.declared.Open.TheVariants as opens
use Rattle.records.specs.declared.View.{View}
use Rattle.records.specs.declared.View.TheVariants as view
use Rattle.types.specs.declared.writer.Writer.{Writer}
use Rattle.types.specs.Written.{Writes}
use Rattle.types.proofs.Written.{writes-then, writes-none}
use Rattle.solve_step.specs.declared.Step.{Step}
use Rattle.solve_step.specs.declared.Step.TheVariants.{Bind, Split, Done, Stuck}
use Rattle.solve_step.specs.Applied.{Applied}
use Rattle.solve_step.specs.Parts.{isDimOf}

-- ══ Steps ══

pub applied-as : {w w' : Writer} {r : Result Step Refusal} {R Q : Got (rules.Step ℕ)} → R ≡ Q → Applied w w' r Q → Applied w w' r R
applied-as {w} {w'} {r} e h = subst (Applied w w' r) (sym e) h

pub products-as : {x y : Option ℕ} (p : Product ℕ) → x ≡ y → got (asProducts x p) ≡ got (asProducts y p)
products-as p e = ap (λ (x : Option ℕ). got (asProducts x p)) e

module _ {w w' : Writer} {R : Got (rules.Step ℕ)} where
  pub split-is : (cs : List (Con ℕ)) → R ≡ got (rules.split cs) → Writes w w' (collect writeCon cs) → Applied w w' (Ok (Split w'.at)) R
  split-is cs e p = subst (Applied w w' (Ok (Split w'.at))) (sym e) (record { same = p.same; says = (refl, p) })

  pub bind-is : (x : ℕ) (t : Ty ℕ) → R ≡ got (rules.bind x t) → Writes w w' (writeBinding (x ≔ t)) → Applied w w' (Ok (Bind w'.at)) R
  bind-is x t e p = subst (Applied w w' (Ok (Bind w'.at))) (sym e) (record { same = p.same; says = (refl, p) })

module _ {w : Writer} {R : Got (rules.Step ℕ)} where
  pub stuck-is : R ≡ got rules.stuck → Applied w w (Ok Stuck) R
  stuck-is e = subst (Applied w w (Ok Stuck)) (sym e) (record { same = refl; says = (refl, writes-none w) })

  pub done-is : R ≡ got rules.done → Applied w w (Ok Done) R
  done-is e = subst (Applied w w (Ok Done)) (sym e) (record { same = refl; says = (refl, writes-none w) })

-- ══ Records ══

pub type-as : {w w' : Writer} {t u : Ty ℕ} → t ≡ u → Writes w w' (writeTy t) → Writes w w' (writeTy u)
type-as {w} {w'} e p = subst (λ (t : Ty ℕ). Writes w w' (writeTy t)) e p

pub product-as : {w w' : Writer} {p q : Product ℕ} → p ≡ q → Writes w w' (writeProduct p) → Writes w w' (writeProduct q)
product-as {w} {w'} e h = subst (λ (p : Product ℕ). Writes w w' (writeProduct p)) e h

-- a record whose part is short enough for its length
headed : {w w' : Writer} (v : View) {n m : ℕ} → n ≡ m → m ≤ 65_535 → Writes w w' (recOf v (fit n) ∷ []) → Writes w w' (recOf v m ∷ [])
headed {w} {w'} v {n} {m} e l p = subst (λ (k : ℕ). Writes w w' (recOf v k ∷ [])) (ap fit e ∙ fits m l) p

pub one-con : {w w' : Writer} (c : Con ℕ) → Writes w w' (writeCon c) → Writes w w' (collect writeCon (c ∷ []))
unfolding collect
one-con {w} {w'} c p = subst (Writes w w') (sym (append-nil (writeCon c))) p

pub cons-con : {w w₁ w₂ : Writer} (c : Con ℕ) (cs : List (Con ℕ)) → Writes w w₁ (writeCon c) → Writes w₁ w₂ (collect writeCon cs)
    → Writes w w₂ (collect writeCon (c ∷ cs))
unfolding collect
cons-con c cs p q = writes-then (writeCon c) (collect writeCon cs) p q

pub bind-written : {w w₁ w₂ : Writer} (x : ℕ) (t : Ty ℕ) {n : ℕ} → n ≡ 1 + size t → size t ≤ 65_000 → Writes w w₁ (recOf (view.Binding x) (fit n) ∷ [])
    → Writes w₁ w₂ (writeTy t)
    → Writes w w₂ (writeBinding (x ≔ t))
unfolding writeBinding sizeBinding
bind-written x t e l p q = writes-then (rec (head 24 (suc (size t))) x 0 0 ∷ []) (writeTy t) (headed (view.Binding x) (omega arith) (omega arith) p) q

pub product-written : {w w₁ w₂ w₃ w₄ : Writer} (x : ℕ) (p : Product ℕ) {n : ℕ} → n ≡ 3 + size (dim p) → size (dim p) ≤ 65_000
    → Writes w w₁ (recOf view.Equal (fit n) ∷ [])
    → Writes w₁ w₂ (recOf (view.Dim 1) (fit 2) ∷ []) → Writes w₂ w₃ (recOf (view.Factor (atoms.Free (opens.Var x)) 1 1) (fit 1) ∷ [])
    → Writes w₃ w₄ (writeTy (dim p))
    → Writes w w₄ (collect writeCon (equal (dim (just (var x))) (dim p) ∷ []))
unfolding writeCon writeTy writeProduct writeFactor twos sizeCon size
product-written {w} {w₁} {w₂} {w₃} {w₄} x p {n} e l a b c d =
    let m : n ≡ suc (2 + size (dim p)) = omega arith in
    let h : Writes w w₁ (rec (head 20 (suc (2 + size (dim p)))) 0 0 0 ∷ []) = headed view.Equal m (omega arith) a in
    let g : Writes w₁ w₂ (rec (head 3 2) 1 0 0 ∷ []) = headed (view.Dim 1) refl (omega arith) b in
    let f : Writes w₂ w₃ (rec (head 11 1) x 1 1 ∷ []) = headed (view.Factor (atoms.Free (opens.Var x)) 1 1) refl (omega arith) c in
    one-con (equal (dim (just (var x))) (dim p))
    (writes-then (rec (head 20 (suc (2 + size (dim p)))) 0 0 0 ∷ []) (rec (head 3 2) 1 0 0 ∷ rec (head 11 1) x 1 1 ∷ writeProduct p) h
    (writes-then (rec (head 3 2) 1 0 0 ∷ []) (rec (head 11 1) x 1 1 ∷ writeProduct p) g (writes-then (rec (head 11 1) x 1 1 ∷ []) (writeProduct p) f d)))

pub scalar-written : {w w₁ w₂ : Writer} (q : Product ℕ) {n : ℕ} → n ≡ 2 + length q → length q ≤ 64 → Writes w w₁ (recOf view.IsScalar (fit n) ∷ [])
    → Writes w₁ w₂ (writeProduct q)
    → Writes w w₂ (collect writeCon (is_scalar q ∷ []))
unfolding writeCon sizeCon size
scalar-written q e l a b = one-con (is_scalar q) (writes-then (rec (head 22 (suc (suc (length q)))) 0 0 0 ∷ []) (writeProduct q)
    (headed view.IsScalar (omega arith) (omega arith) a) b)

pub is-dim-written : {w w₁ w₂ : Writer} (x : ℕ) → Writes w w₁ (recOf view.IsDim (fit 2) ∷ [])
    → Writes w₁ w₂ (recOf (view.Opened (opens.Var x)) (fit 1) ∷ []) → Writes w w₂ (collect writeCon (isDimOf x))
unfolding collect writeCon writeTy sizeCon size
is-dim-written x a b = writes-then (rec (head 21 2) 0 0 0 ∷ []) (rec (head 1 1) x 0 0 ∷ []) (headed view.IsDim refl (omega arith) a)
    (headed (view.Opened (opens.Var x)) refl (omega arith) b)

pub solved-written : {w w₁ w₂ : Writer} (x : ℕ) {k n : ℕ} → k ≡ n → n ≤ 65_000 → Writes w w₁ (recOf (view.Binding x) (fit (2 + k)) ∷ [])
    → Writes w₁ w₂ (recOf (view.Dim k) (fit (1 + k)) ∷ [])
    → Writes w w₂ (rec (head 24 (suc (suc n))) x 0 0 ∷ rec (head 3 (suc n)) n 0 0 ∷ [])
solved-written {w} {w₁} {w₂} x {k} {n} e l a b =
    let h : Writes w w₁ (rec (head 24 (suc (suc n))) x 0 0 ∷ []) = headed (view.Binding x) (omega (arith, e)) (omega arith) a in
    let g : Writes w₁ w₂ (recOf (view.Dim k) (suc n) ∷ []) = headed (view.Dim k) (omega (arith, e)) (omega arith) b in
    let f : Writes w₁ w₂ (rec (head 3 (suc n)) n 0 0 ∷ []) = subst (λ (m : ℕ). Writes w₁ w₂ (recOf (view.Dim m) (suc n) ∷ [])) e g in
    writes-then (rec (head 24 (suc (suc n))) x 0 0 ∷ []) (rec (head 3 (suc n)) n 0 0 ∷ []) h f
