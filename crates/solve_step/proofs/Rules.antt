-- The rules for two types by their shapes.
use Rattle.std.specs.Prelude.{◌≡◌, Bool, true, false, ◌&&◌, List, [], ◌∷◌, ℕ, eqb, refl}
use Rattle.std.proofs.Common.{ap, ap₂, sym, ◌∙◌, eq-eqb}
use Rattle.std.proofs.Math.Option.{Option, none, some}
use borrow.Author.Tests.{ne_eqb}
use Rattle.rules.specs.Base.{got, bounded, is_yes, ◌or_else◌}
use Rattle.rules.specs.Names.{Bytes, numbered}
use Rattle.rules.specs.Products.{divide}
use Rattle.rules.specs.Rounds as rules
use Rattle.rules.specs.Rounds.{by_kind, pairs, asProducts, functions, lists, structs, variableLeft, dimensions, bindTo, firstRules, trySatisfy}
use Rattle.rules.specs.Trees as tree
use Rattle.rules.specs.Trees.{Names, Product, Ty, Tys, Fields, equal, ty-dec, count}
use Rattle.rules.specs.Views.{productOf, asVar, asPower}
use Rattle.types.proofs.FieldsFound.{named-same}
use Rattle.types.specs.declared.Fields as fields
use Rattle.types.specs.declared.Product as products
use Rattle.types.specs.declared.Shape.{Shape}
use Rattle.types.specs.declared.Shape.TheVariants as shape
use Rattle.types.specs.declared.Type as types
use Rattle.types.specs.declared.Types as lists'
use Rattle.types.specs.Shapes.{whole}
use Rattle.records.specs.declared.Open as names
use Rattle.solve_step.specs.Bindings.{either, firstBinding}
use Rattle.solve_step.specs.Parts.{asScalar}

-- ══ By kinds ══

-- a right side that isn't this
abbrev pub NotOpen : Shape → Type 0
NotOpen s = (o : names.Open) → s ≡ shape.Open o → ⊥

abbrev pub NotDimension : Shape → Type 0
NotDimension s = (p : products.Product) → s ≡ shape.Dimension p → ⊥

abbrev pub NotFunction : Shape → Type 0
NotFunction s = (ps : lists'.Types) (t : types.Type) → s ≡ shape.Function ps t → ⊥

abbrev pub NotStruct : Shape → Type 0
NotStruct s = (x : ℕ) (as' : lists'.Types) (fs : fields.Fields) → s ≡ shape.Struct x as' fs → ⊥

abbrev pub NotList : Shape → Type 0
NotList s = (t : types.Type) → s ≡ shape.List t → ⊥

no-product : (s : Shape) → NotDimension s → productOf (whole s) ≡ none
no-product (shape.Open o) n = refl
no-product (shape.Basic b) n = refl
no-product (shape.Dimension p) n = absurd (n p refl)
no-product (shape.Function ps r) n = refl
no-product (shape.Struct x as' fs) n = refl
no-product (shape.List t) n = refl

no-variable : (s : Shape) → NotOpen s → asVar (whole s) ≡ none
no-variable (shape.Open o) n = absurd (n o refl)
no-variable (shape.Basic b) n = refl
no-variable (shape.Dimension p) n = refl
no-variable (shape.Function ps r) n = refl
no-variable (shape.Struct x as' fs) n = refl
no-variable (shape.List t) n = refl

module _ (ν : Names ℕ) {l r : Ty ℕ} where
  pub two-dimensions : {p q : Product ℕ} → tree.dim p ≡ l → tree.dim q ≡ r → by_kind ν bounded l r ≡ asScalar (divide ν bounded p q)
  unfolding by_kind dimensions
  two-dimensions e f = rw (← e, ← f)

  pub dimension-open : {p : Product ℕ} {o : tree.Open ℕ} → tree.dim p ≡ l → tree.opened o ≡ r → by_kind ν bounded l r ≡ got (asProducts (asVar r) p)
  unfolding by_kind dimensions
  dimension-open e f = rw (← e, ← f)

  pub open-dimension : {o : tree.Open ℕ} {p : Product ℕ} → tree.opened o ≡ l → tree.dim p ≡ r → by_kind ν bounded l r ≡ got (asProducts (asVar l) p)
  unfolding by_kind variableLeft
  open-dimension e f = rw (← e, ← f)

  pub two-functions : {ps qs : Tys ℕ} {t u : Ty ℕ} → tree.fn ps t ≡ l → tree.fn qs u ≡ r → count ps ≡ count qs
      → by_kind ν bounded l r ≡ got (rules.split (equal t u ∷ pairs ps qs))
  unfolding by_kind functions
  two-functions {ps} {qs} e f q = rw (← e, ← f, eq-eqb (count ps) (count qs) q, functions)

  pub two-counts : {ps qs : Tys ℕ} {t u : Ty ℕ} → tree.fn ps t ≡ l → tree.fn qs u ≡ r → (count ps ≡ count qs → ⊥) → by_kind ν bounded l r ≡ got rules.stuck
  unfolding by_kind functions
  two-counts {ps} {qs} e f q = rw (← e, ← f, ne_eqb (count ps) (count qs) q, functions)

  pub two-lists : {t u : Ty ℕ} → tree.list t ≡ l → tree.list u ≡ r → by_kind ν bounded l r ≡ got (rules.split (equal t u ∷ []))
  unfolding by_kind lists
  two-lists e f = rw (← e, ← f)

module _ (ν : Names ℕ) {l r : Ty ℕ} (s : Shape) (f : whole s ≡ r) where
  pub dimension-other : {p : Product ℕ} → tree.dim p ≡ l → NotDimension s → NotOpen s → by_kind ν bounded l r ≡ got rules.stuck
  unfolding by_kind dimensions asProducts
  dimension-other e n m = rw (← e, ← f, no-product s n, no-variable s m)

  pub open-other : {o : tree.Open ℕ} → tree.opened o ≡ l → NotDimension s → by_kind ν bounded l r ≡ got rules.stuck
  unfolding by_kind variableLeft
  open-other e n = rw (← e, ← f, no-product s n)

  pub one-function : {ps : Tys ℕ} {t : Ty ℕ} → tree.fn ps t ≡ l → NotFunction s → by_kind ν bounded l r ≡ got rules.stuck
  unfolding by_kind functions
  one-function {ps} {t} e n = rw (← e, ← f) (go s n)
    where
      go : (s : Shape) → NotFunction s → by_kind ν bounded (tree.fn ps t) (whole s) ≡ got rules.stuck
      go (shape.Open o) n = refl
      go (shape.Basic b) n = refl
      go (shape.Dimension p) n = refl
      go (shape.Function qs u) n = absurd (n qs u refl)
      go (shape.Struct x as' fs) n = refl
      go (shape.List u) n = refl

  pub one-struct : {x : ℕ} {as' : Tys ℕ} {fs : Fields ℕ} → tree.struct x as' fs ≡ l → NotStruct s → by_kind ν bounded l r ≡ got rules.stuck
  unfolding by_kind structs
  one-struct {x} {as'} {fs} e n = rw (← e, ← f) (go s n)
    where
      go : (s : Shape) → NotStruct s → by_kind ν bounded (tree.struct x as' fs) (whole s) ≡ got rules.stuck
      go (shape.Open o) n = refl
      go (shape.Basic b) n = refl
      go (shape.Dimension p) n = refl
      go (shape.Function qs u) n = refl
      go (shape.Struct y bs gs) n = absurd (n y bs gs refl)
      go (shape.List u) n = refl

  pub one-list : {t : Ty ℕ} → tree.list t ≡ l → NotList s → by_kind ν bounded l r ≡ got rules.stuck
  unfolding by_kind lists
  one-list {t} e n = rw (← e, ← f) (go s n)
    where
      go : (s : Shape) → NotList s → by_kind ν bounded (tree.list t) (whole s) ≡ got rules.stuck
      go (shape.Open o) n = refl
      go (shape.Basic b) n = refl
      go (shape.Dimension p) n = refl
      go (shape.Function qs u) n = refl
      go (shape.Struct x as' fs) n = refl
      go (shape.List u) n = absurd (n u refl)

-- a left side for which there is no rule
pub basic-left : (ν : Names ℕ) {l : Ty ℕ} (r : Ty ℕ) {b : tree.Basic} → tree.basic b ≡ l → by_kind ν bounded l r ≡ got rules.stuck
unfolding by_kind
basic-left ν r e = rw (← e)

module _ (names : List Bytes) {l r : Ty ℕ} {x y : ℕ} {as' bs : Tys ℕ} {fs gs : Fields ℕ} (e : tree.struct x as' fs ≡ l) (f : tree.struct y bs gs ≡ r) where
  abbrev alike : Bool
  alike = is_yes ((numbered names).same x y) && eqb (count as') (count bs)

  same : (b : Bool) → eqb x y ≡ b → is_yes ((numbered names).same x y) ≡ b
  same b h = named-same x y ((numbered names).same x y) ∙ h

  pub two-structs : x ≡ y → count as' ≡ count bs → by_kind (numbered names) bounded l r ≡ got (rules.split (pairs as' bs))
  unfolding by_kind structs
  two-structs p q = let h : alike ≡ true = ap₂ ◌&&◌ (same true (eq-eqb x y p)) (eq-eqb (count as') (count bs) q) in rw (← e, ← f, h, structs)

  pub two-names : (x ≡ y → ⊥) → by_kind (numbered names) bounded l r ≡ got rules.stuck
  unfolding by_kind structs
  two-names p = let h : alike ≡ false = ap (◌&& eqb (count as') (count bs)) (same false (ne_eqb x y p)) in rw (← e, ← f, h, structs)

  pub other-count : x ≡ y → (count as' ≡ count bs → ⊥) → by_kind (numbered names) bounded l r ≡ got rules.stuck
  unfolding by_kind structs
  other-count p q = let h : alike ≡ false = ap₂ ◌&&◌ (same true (eq-eqb x y p)) (ne_eqb (count as') (count bs) q) in rw (← e, ← f, h, structs)

-- ══ Equal ══

or_assoc : {A : Type 0} (a b c : Option A) → ((a or_else b) or_else c) ≡ (a or_else (b or_else c))
or_assoc none b c = refl
or_assoc (some a) b c = refl

module _ (ν : Names ℕ) (t u : Ty ℕ) where
  pub same-records : is_yes (ty-dec ν t u) ≡ true → trySatisfy ν bounded (equal t u) ≡ got rules.done
  unfolding trySatisfy firstRules
  same-records e = rw e

  first-is : is_yes (ty-dec ν t u) ≡ false → firstRules ν t u ≡ firstBinding ν t u
  unfolding firstRules
  first-is e = rw e (sym (or_assoc (bindTo ν (asVar t) u) (bindTo ν (asVar u) t) (either ν (asPower t) (asPower u) t u)))

  pub bound-first : {s : rules.Step ℕ} → is_yes (ty-dec ν t u) ≡ false → some s ≡ firstBinding ν t u → trySatisfy ν bounded (equal t u) ≡ got s
  unfolding trySatisfy
  bound-first e q = rw (first-is e, ← q)

  pub none-bound : is_yes (ty-dec ν t u) ≡ false → none ≡ firstBinding ν t u → trySatisfy ν bounded (equal t u) ≡ by_kind ν bounded t u
  unfolding trySatisfy
  none-bound e q = rw (first-is e, ← q)
