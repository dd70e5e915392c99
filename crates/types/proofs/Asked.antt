-- What the first record of a constraint says of it, and where its types stand.
use Rattle.std.specs.Prelude.{◌≡◌, List, ℕ, ◌+◌, ◌<◌, ◌≤◌, refl, length}
use Rattle.std.proofs.Common.{arith, ap, ap₂, sym, subst, ◌∙◌}
use Rattle.rules.specs.Trees.{Product, Ty, dim, Con, equal, isDim, is_scalar, hasField, size, sizeCon}
use Rattle.records.specs.Views.{viewAt}
use Rattle.records.specs.Holds.{Holds}
use Rattle.records.specs.ByView.{ArmsCon}
use Rattle.records.proofs.ByView.{con-by-view, con-in}
use Rattle.records.specs.Parsed.{only}
use Rattle.records.specs.declared.View.{View}
use Rattle.records.specs.declared.View.TheVariants as view
use Rattle.types.specs.declared.Product as products
use Rattle.types.specs.declared.Shape.{Shape}
use Rattle.types.specs.declared.Shape.TheVariants as shape
use Rattle.types.specs.Once.{ATree, ACon, one-tree}
use Rattle.types.specs.Shapes.{whole}

module _ (s : List ℕ) where
  -- two types, one behind the other
  abbrev pub Sides : ℕ → (Ty ℕ → Ty ℕ → Con ℕ) → Con ℕ → Type 0
  Sides at f c = (t : ATree s (at + 1)) × (u : ATree s (at + 1 + size t.0)) × (c ≡ f t.0 u.0)

  -- the record at a place says v, and a constraint stands there: what it is
  abbrev pub Asks : ℕ → View → Con ℕ → Type 0
  Asks at (view.Opened o) c = ⊥
  Asks at (view.Basic b) c = ⊥
  Asks at (view.Dim n) c = ⊥
  Asks at (view.Function n) c = ⊥
  Asks at (view.Struct x n m) c = ⊥
  Asks at view.List c = ⊥
  Asks at (view.Field x) c = ⊥
  Asks at (view.Factor f n d) c = ⊥
  Asks at view.Equal c = Sides at equal c
  Asks at view.IsDim c = (t : ATree s (at + 1)) × (c ≡ isDim t.0)
  Asks at view.IsScalar c = (t : ATree s (at + 1)) × ((p : Product ℕ) × (t.0 ≡ dim p) × (c ≡ is_scalar p))
  Asks at (view.HasField x) c = Sides at (hasField x) c
  Asks at (view.Binding x) c = ⊥
  Asks at (view.Bound o) c = ⊥
  Asks at (view.Scheme n) c = ⊥
  Asks at view.Concrete c = ⊥
  Asks at view.Bad c = ⊥

  asks : (at : ℕ) (v : View) → ArmsCon s (Asks at v) at v
  unfolding Holds
  asks at (view.Opened o) = tt
  asks at (view.Basic b) = tt
  asks at (view.Dim n) = tt
  asks at (view.Function n) = tt
  asks at (view.Struct x n m) = tt
  asks at view.List = tt
  asks at (view.Field x) = tt
  asks at (view.Factor f n d) = tt
  asks at view.Equal = λ l r h k. ((l, h), (r, k), refl)
  asks at view.IsDim = λ t h. ((t, h), refl)
  asks at view.IsScalar = λ p h. ((dim p, h), (p, refl, refl))
  asks at (view.HasField x) = λ l r h k. ((l, h), (r, k), refl)
  asks at (view.Binding x) = tt
  asks at (view.Bound o) = tt
  asks at (view.Scheme n) = tt
  asks at view.Concrete = tt
  asks at view.Bad = tt

  pub asked-as : (at : ℕ) (h : ACon s at) {v : View} → viewAt s at ≡ v → Asks at v h.0
  asked-as at h {v} e = con-by-view s (Asks at v) h.0 at h.1 e (asks at v)

  pub asks-some : (at : ℕ) (h : ACon s at) (v : View) → v ≡ viewAt s at → (v ≡ view.Equal → ⊥) → (v ≡ view.IsDim → ⊥) → (v ≡ view.IsScalar → ⊥)
      → ((x : ℕ) → v ≡ view.HasField x → ⊥) → ⊥
  asks-some at h v q a b c d = go v (asked-as at h (sym q)) a b c d
    where
      go : (v : View) → Asks at v h.0 → (v ≡ view.Equal → ⊥) → (v ≡ view.IsDim → ⊥) → (v ≡ view.IsScalar → ⊥) → ((x : ℕ) → v ≡ view.HasField x → ⊥) → ⊥
      go (view.Opened o) y a b c d = y
      go (view.Basic x) y a b c d = y
      go (view.Dim n) y a b c d = y
      go (view.Function n) y a b c d = y
      go (view.Struct x n m) y a b c d = y
      go view.List y a b c d = y
      go (view.Field x) y a b c d = y
      go (view.Factor g n k) y a b c d = y
      go view.Equal y a b c d = a refl
      go view.IsDim y a b c d = b refl
      go view.IsScalar y a b c d = c refl
      go (view.HasField x) y a b c d = d x refl
      go (view.Binding x) y a b c d = y
      go (view.Bound o) y a b c d = y
      go (view.Scheme n) y a b c d = y
      go view.Concrete y a b c d = y
      go view.Bad y a b c d = y

  con-pos : (c : Con ℕ) → 1 ≤ sizeCon c
  unfolding sizeCon
  con-pos (equal l r) = omega arith
  con-pos (isDim t) = omega arith
  con-pos (is_scalar p) = omega arith
  con-pos (hasField x l r) = omega arith

  pub con-near : (at : ℕ) → ACon s at → length s ≤ 4_000_000_000 → at < 1_000_000_000
  con-near at h n = omega (arith, con-in s h.0 at h.1, con-pos h.0)

  module _ (at : ℕ) (f : Ty ℕ → Ty ℕ → Con ℕ) (c : Con ℕ) (x : Sides at f c) where
    pub right-side : {i : ℕ} (t : ATree s (at + 1)) → i ≡ at + 1 + size t.0 → ATree s i
    right-side t q = subst (ATree s) (sym (q ∙ ap (λ (z : ATree s (at + 1)). at + 1 + size z.0) (one-tree s (at + 1) t x.0))) x.1

    pub both-sides : {i : ℕ} (u : ATree s (at + 1)) → i ≡ at + 1 + size u.0 → (t : ATree s (at + 1)) (r : ATree s i) → f t.0 r.0 ≡ c
    both-sides {i} u q t r =
        let b : i ≡ at + 1 + size x.0.0 = q ∙ ap (λ (z : ATree s (at + 1)). at + 1 + size z.0) (one-tree s (at + 1) u x.0) in
        let k : Holds s r.0 (at + 1 + size x.0.0) = subst (Holds s r.0) b r.1 in
        let d : r.0 ≡ x.1.0 = only s r.0 x.1.0 (at + 1 + size x.0.0) k x.1.1 in
        ap₂ f (ap (λ (z : ATree s (at + 1)). z.0) (one-tree s (at + 1) t x.0)) d ∙ sym x.2

  module _ (at : ℕ) (c : Con ℕ) (x : Asks at view.IsScalar c) (t : ATree s (at + 1)) where
    dim-side : t.0 ≡ dim x.1.0
    dim-side = only s t.0 x.0.0 (at + 1) t.1 x.0.1 ∙ x.1.1

    pub scalar-is : {p : Product ℕ} → dim p ≡ t.0 → is_scalar p ≡ c
    scalar-is {p} e =
        let d : dim p ≡ dim x.1.0 = e ∙ dim-side in
        let q : p ≡ x.1.0 = cc in
        ap is_scalar q ∙ sym x.1.2

    pub scalar-some : (z : Shape) → whole z ≡ t.0 → ((p : products.Product) → z ≡ shape.Dimension p → ⊥) → ⊥
    scalar-some z e n = go z (e ∙ dim-side) n
      where
        go : (z : Shape) → whole z ≡ dim x.1.0 → ((p : products.Product) → z ≡ shape.Dimension p → ⊥) → ⊥
        go (shape.Open o) d n = cc
        go (shape.Basic b) d n = cc
        go (shape.Dimension p) d n = n p refl
        go (shape.Function ps r) d n = cc
        go (shape.Struct y as' fs) d n = cc
        go (shape.List u) d n = cc
