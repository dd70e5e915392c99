-- A type as it is read, from what it begins with.
use Rattle.std.specs.Prelude.{◌≡◌, refl, false, ℕ}
use Rattle.std.proofs.Common.{ap, sym, ◌∙◌}
use Rattle.std.proofs.Math.Option.{Option, none, some}
use Rattle.rules.specs.Base.{is_none}
use Rattle.rules.specs.Plain.{plain, plainDim, plainTys, plainFields}
use Rattle.rules.specs.Products.{single}
use Rattle.rules.specs.Trees as tree
use Rattle.rules.specs.Trees.{Product, Ty, opened, basic, dim, fn, struct, list, Tys, nil, cons, Fields, noFields, field}
use Rattle.rules.specs.Views.{productOf}
use Rattle.laws.proofs.Lists.{true≢false}
use Rattle.types.specs.Shapes.{Begins, row}
use Rattle.types.specs.declared.Head.{Head}
use Rattle.types.specs.declared.Head.TheVariants as head
use Rattle.types.specs.declared.Product as products
use Rattle.judge_meaning.specs.Read.{ReadAs}

pub not-both : {A : Type 0} {x : A} {B : Type 0} → none ≡ some x → B
not-both e = absurd (true≢false (ap is_none e))

no_fields : (fs : Fields ℕ) → noFields ≡ plainFields fs false
unfolding plain
no_fields noFields = refl
no_fields (field n t fs) = refl

plain-row : (ps : Tys ℕ) (r : Ty ℕ) → row (plainTys ps false) (plain r false) ≡ plainTys (row ps r) false
unfolding plain
plain-row nil r = refl
plain-row (cons p ps) r = ap (cons (plain p false)) (plain-row ps r)

pub read-other : (t : Ty ℕ) (h : Head) → ((p : products.Product) → h ≡ head.Dimension p → ⊥) → Begins h t → ReadAs h (plain t false)
unfolding plain
read-other t (head.Open o) n e = ap (λ u. plain u false) e
read-other t (head.Basic b) n e = ap (λ u. plain u false) e
read-other t (head.Dimension p) n e = absurd (n p refl)
read-other t (head.Function ts) n e = (
  plainTys e.0 false,
  plain e.1 false,
  plain-row e.0 e.1 ∙ ap (λ us. plainTys us false) e.2,
  ap (λ u. plain u false) e.3,
)
read-other t (head.Struct x ts) n e = ap (struct x (plainTys ts.trees.0 false)) (no_fields e.0) ∙ ap (λ u. plain u false) e.1
read-other t (head.List u) n e = ap (λ u. plain u false) e

module _ {p : Product ℕ} where
  pub read-alone : (t : Ty ℕ) {o : tree.Open ℕ} → dim p ≡ t → some o ≡ single p → opened o ≡ plain t false
  unfolding plain plainDim
  read-alone t e h = ap (λ m. plainDim m p) h ∙ ap (λ u. plain u false) e

  pub read-product : (t : Ty ℕ) → dim p ≡ t → none ≡ single p → dim p ≡ plain t false
  unfolding plain plainDim
  read-product t e h = ap (λ m. plainDim m p) h ∙ ap (λ u. plain u false) e

  -- what reads as a dimension is that dimension
  pub dim-back : (t : Ty ℕ) → dim p ≡ plain t false → dim p ≡ t
  unfolding plain plainDim
  dim-back (opened o) e = not-both (sym (ap productOf e))
  dim-back (basic b) e = not-both (sym (ap productOf e))
  dim-back (dim q) e = go (single q) e
    where
      go : (m : Option (tree.Open ℕ)) → dim p ≡ plainDim m q → dim p ≡ dim q
      go (some o) e = not-both (sym (ap productOf e))
      go none e = e
  dim-back (fn ps r) e = not-both (sym (ap productOf e))
  dim-back (struct x ts fs) e = not-both (sym (ap productOf e))
  dim-back (list u) e = not-both (sym (ap productOf e))
