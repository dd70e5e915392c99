-- A part that was found except for the length that its first record says, and that length.
use Rattle.std.specs.Prelude.{Option, Some, None, ◌≡◌, refl, Bool, true, false, List, ℕ, suc, ◌+◌, ◌≤◌, eqb, length}
use Rattle.std.proofs.Math.Path.{sym}
use Rattle.std.proofs.Common.{ap, ◌∙◌, arith, eqb-true}
use Rattle.std.proofs.lemmas.Bool.{eqb-false}
use Rattle.rules.specs.Trees.{Product, Ty, Con, Binding, size, sizeCon, sizeBinding, depth, depthCon, depthBinding}
use Rattle.records.specs.Views.{longAt}
use Rattle.records.specs.Holds.{Shows, Long, HoldsFactors, HoldsProduct, BodyCon, BodyBinding, con-body, binding-body}
use Rattle.records.proofs.Holds.{Body, holds-long, holds-body, body-holds, con-long, body-con, binding-long, body-binding}
use Rattle.records.specs.Parsed.{only, only-con-body, only-binding-body}
use Rattle.records.proofs.Parsed.{only-body}
use Rattle.records.specs.Good.{Ends, endIf, closedAt, goodProduct, goodTy, goodCon, goodBinding}
use Rattle.records.specs.Readers.{TypeAt, ProductAt, ConstraintAt, BindingAt}
use Rattle.records.specs.declared.reader.Reader.{Reader}
use Rattle.records.specs.declared.View.TheVariants as view

-- G is found up to e where the first record says so; and it has no other end
module _ {A : Type 0} (s : List ℕ) (at : ℕ) (G : A → ℕ → Type 0) (e : ℕ) (there : at + longAt s at ≡ e → (a : A) × G a e)
    (ends : (a : A) (f : ℕ) → G a f → at + longAt s at ≡ f) (one : (a : A) (f : ℕ) → G a f → f ≡ e) where
  pub closing : Ends G (closedAt s at e)
  closing = go (eqb (at + longAt s at) e) refl
    where
      go : (b : Bool) → eqb (at + longAt s at) e ≡ b → Ends G (endIf b e)
      go true q = there (eqb-true (at + longAt s at) e q)
      go false q = λ a f g. eqb-false (at + longAt s at) e q (ends a f g ∙ one a f g)

-- where G ends, if its parts end there
abbrev pub Closes : {A : Type 0} → List ℕ → ℕ → (A → ℕ → Type 0) → Option ℕ → Type 0
Closes s at G (Some e) = Ends G (closedAt s at e)
Closes s at G None = Ends G None

module _ (reader : Reader) where
  abbrev s : List ℕ
  s = reader.words.now

  pub record TypeBut (d at : ℕ) (t : Ty ℕ) (e : ℕ) : Type 0 where
    pub held : Body s t at
    pub past : e ≡ at + size t
    pub deep : depth t ≤ d
    pub good : goodTy reader.names.pool.now reader.names.table.now reader.quantified t ≡ true

  pub type-closed : {d at e : ℕ} {t : Ty ℕ} → TypeBut d at t e → Ends (TypeAt reader d at) (closedAt s at e)
  type-closed {d} {at} {e} {t} p = closing s at (TypeAt reader d at) e
      (λ l. (t, record { held = body-holds s t at p.held (omega (arith, l, p.past)); past = p.past; deep = p.deep; good = p.good }))
      (λ u f g. omega (arith, holds-long s u at g.held, g.past))
      (λ u f g. g.past ∙ ap (λ (x : Ty ℕ). at + size x) (only-body s u t at (holds-body s u at g.held) p.held) ∙ sym p.past)

  -- the type of a field whose record is at a place
  pub record FieldAt (d at : ℕ) (t : Ty ℕ) (e : ℕ) : Type 0 where
    pub type : TypeAt reader d (at + 1) t e
    pub long : Long s at (suc (size t))

  pub field-closed : (d at e : ℕ) {t : Ty ℕ} → TypeAt reader d (at + 1) t e → Ends (FieldAt d at) (closedAt s at e)
  field-closed d at e {t} p = closing s at (FieldAt d at) e
      (λ l. (t, record { type = p; long = omega (arith, l, p.past) }))
      (λ u f g. omega (arith, g.long, g.type.past))
      (λ u f g. g.type.past ∙ ap (λ (x : Ty ℕ). at + 1 + size x) (only s u t (at + 1) g.type.held p.held) ∙ sym p.past)

  pub record ProductBut (at : ℕ) (p : Product ℕ) (e : ℕ) : Type 0 where
    pub shows : Shows s at (view.Dim (length p))
    pub held : HoldsFactors s p (at + 1)
    pub past : e ≡ at + suc (length p)
    pub good : goodProduct reader.names.pool.now reader.names.table.now reader.quantified p ≡ true

  pub product-closed : {at e : ℕ} {p : Product ℕ} → ProductBut at p e → Ends (ProductAt reader at) (closedAt s at e)
  unfolding HoldsProduct
  product-closed {at} {e} {p} x = closing s at (ProductAt reader at) e
      (λ l. (p, record { held = (x.shows, x.held, omega (arith, l, x.past)); past = x.past; good = x.good }))
      (λ u f g. omega (arith, g.held.2, g.past))
      (λ u f g. let z : view.Dim (length u) ≡ view.Dim (length p) = sym g.held.0 ∙ x.shows in let n : length u ≡ length p = cc
      in omega (arith, g.past, x.past))

  pub record ConBut (at : ℕ) (c : Con ℕ) (e : ℕ) : Type 0 where
    pub held : BodyCon s c at
    pub past : e ≡ at + sizeCon c
    pub deep : depthCon c ≤ 64
    pub good : goodCon reader.names.pool.now reader.names.table.now reader.quantified c ≡ true

  pub con-closed : {at e : ℕ} {c : Con ℕ} → ConBut at c e → Ends (ConstraintAt reader at) (closedAt s at e)
  con-closed {at} {e} {c} p = closing s at (ConstraintAt reader at) e
      (λ l. (c, record { held = body-con s c at p.held (omega (arith, l, p.past)); past = p.past; deep = p.deep; good = p.good }))
      (λ u f g. omega (arith, con-long s u at g.held, g.past))
      (λ u f g. g.past ∙ ap (λ (x : Con ℕ). at + sizeCon x) (only-con-body s u c at (con-body s u at g.held) p.held) ∙ sym p.past)

  pub record BindingBut (at : ℕ) (b : Binding ℕ) (e : ℕ) : Type 0 where
    pub held : BodyBinding s b at
    pub past : e ≡ at + sizeBinding b
    pub deep : depthBinding b ≤ 64
    pub good : goodBinding reader.names.pool.now reader.names.table.now reader.quantified b ≡ true

  pub binding-closed : {at e : ℕ} {b : Binding ℕ} → BindingBut at b e → Ends (BindingAt reader at) (closedAt s at e)
  binding-closed {at} {e} {b} p = closing s at (BindingAt reader at) e
      (λ l. (b, record { held = body-binding s b at p.held (omega (arith, l, p.past)); past = p.past; deep = p.deep; good = p.good }))
      (λ u f g. omega (arith, binding-long s u at g.held, g.past))
      (λ u f g. g.past ∙ ap (λ (x : Binding ℕ). at + sizeBinding x) (only-binding-body s u b at (binding-body s u at g.held) p.held) ∙ sym p.past)
