-- A dimension with its bound variables replaced, and the products that stand for types.
use Rattle.std.specs.Prelude.{◌≡◌, Bool, true, false, ◌||◌, List, [], ◌∷◌, ℕ, ◌≤◌, length, Result, Ok, Err, refl}
use Rattle.std.proofs.Common.{arith, ap, sym, subst, ◌∙◌}
use Rattle.std.proofs.Math.Option.{none, some, get_or}
use Rattle.rules.specs.Base.{Got, got, refused, bounded, any, collect}
use Rattle.rules.specs.Names.{table_of, is_held}
use Rattle.rules.specs.Products.{single}
use Rattle.rules.specs.Refusals.{number_of}
use Rattle.rules.specs.declared.Refusal.{Refusal}
use Rattle.rules.specs.Replacing.{Look, asProduct, replaceProduct, replaceDim, replaceTy}
use Rattle.rules.specs.Trees as tree
use Rattle.rules.specs.Trees.{Ty, opened, dim, size, opens, openOfFactor}
use Rattle.rules.specs.Values.{productValue}
use Rattle.rules.specs.Writing.{writeProduct, writeTy}
use Rattle.laws.proofs.Contents.{any_append}
use Rattle.laws.proofs.GoodProducts.{good-product}
use Rattle.products.specs.Told.{Tree, given, answer, productOf}
use Rattle.products.specs.Held.{Sound}
use Rattle.products.proofs.Held.{well-sound, law}
use Rattle.products.specs.declared.Product.{Product}
use Rattle.records.proofs.Cut.{short-product}
use Rattle.records.specs.declared.Open as names
use Rattle.types.specs.declared.Shape.{Shape}
use Rattle.types.specs.declared.Shape.TheVariants as shape
use Rattle.types.specs.declared.Product as types
use Rattle.types.specs.declared.writer.Writer.{Writer}
use Rattle.types.specs.Shapes.{whole}
use Rattle.types.specs.Written.{Writes}
use Rattle.types.proofs.Written.{writes-none}
use Rattle.replace.specs.Well as well
use Rattle.replace.specs.Well.{GoodProduct, Whole, LooksGood}
use Rattle.replace.proofs.InProducts.{done, taken, told-stop, fine-told, product-kept}
use Rattle.replace.specs.Leaves.{Leaves, replaced}
use Rattle.replace.proofs.Walks.{leaves, stops, behind, short-writes}

-- ══ Types as products ══

module _ {t : Ty ℕ} where
  pub as-dim : {p : Tree} (P : Product) → dim p ≡ t → given P ≡ productValue p → got (given P) ≡ answer (asProduct t)
  unfolding asProduct
  as-dim {p} P e h = fine-told P p h ∙ ap (λ (u : Ty ℕ). answer (asProduct u)) e

  -- all but an open name and a dimension are 6
  pub as-other : (s : Shape) → whole s ≡ t → ((o : names.Open) → s ≡ shape.Open o → ⊥) → ((p : types.Product) → s ≡ shape.Dimension p → ⊥) → refused 6
      ≡ answer (asProduct t)
  unfolding asProduct answer
  as-other s e a d = go s a d ∙ ap (λ (u : Ty ℕ). answer (asProduct u)) e
    where
      go : (s : Shape) → ((o : names.Open) → s ≡ shape.Open o → ⊥) → ((p : types.Product) → s ≡ shape.Dimension p → ⊥) → refused 6
          ≡ answer (asProduct (whole s))
      go (shape.Open o) a d = absurd (a o refl)
      go (shape.Basic b) a d = refl
      go (shape.Dimension p) a d = absurd (d p refl)
      go (shape.Function ps r) a d = refl
      go (shape.Struct n as' fs) a d = refl
      go (shape.List u) a d = refl

module _ (pool table : List ℕ) where
  pub few : (p : Tree) → GoodProduct pool table p → length p ≤ 64
  few p g = (good-product (well.names pool table) (law pool table) (is_held (table_of pool table)) 4_294_967_296 p g).few

  -- ══ A product with its bound variables replaced ══

  module _ (look : Look ℕ) (good : LooksGood pool table look) (p : Tree) (g : GoodProduct pool table p) where
    abbrev pub Replaced' : Got Tree
    Replaced' = replaceProduct (well.names pool table) bounded look p

    pub record Made (P : Product) : Type 0 where
      pub tree : Tree
      pub is : Replaced' ≡ got tree
      pub sound : Sound P
      pub product : tree ≡ productOf P

    pub made : (P : Product) → got (given P) ≡ answer Replaced' → Made P
    made P h =
        let d = done P Replaced' h in
        let x = taken pool table P d.tree (record { is = d.value; good = (product-kept pool table p look g good).holds d.tree d.is }) in
        record { tree = d.tree; is = d.is; sound = well-sound x.well; product = x.is }

    pub product-leaves : {w w' : Writer} (P : Product) → got (given P) ≡ answer Replaced' → Writes w w' (writeProduct (productOf P))
        → Leaves writeProduct w w' (Ok tt) Replaced'
    product-leaves {w} {w'} P h b =
        let m = made P h in
        let l = few m.tree ((product-kept pool table p look g good).holds m.tree m.is) in
        leaves m.tree m.is (subst (Writes w w') (ap writeProduct (sym m.product) ∙ sym (short-product m.tree (omega (arith, l)))) b)

    pub product-stops : {w : Writer} (k : Refusal) → refused (number_of k) ≡ answer Replaced' → Leaves writeProduct w w (Err k) Replaced'
    product-stops k h = stops (told-stop (number_of k) Replaced' h) refl

  -- ══ A dimension as a type ══

  module _ (look : Look ℕ) {t : Ty ℕ} {p : Tree} (e : dim p ≡ t) where
    abbrev Ty'' : Got (Ty ℕ)
    Ty'' = replaceTy (well.names pool table) bounded look t

    pub dimension-replaced : {w w' : Writer} {r : Result (Unit {0}) Refusal} → none ≡ single p
        → Leaves writeProduct w w' r (replaceProduct (well.names pool table) bounded look p) → Leaves writeTy w w' r Ty''
    unfolding replaceTy replaceDim writeTy
    dimension-replaced {w} {w'} {r} s h =
        subst (λ (u : Ty ℕ). Leaves writeTy w w' r (replaceTy (well.names pool table) bounded look u)) e
        (rw (← s) (behind dim [] (λ q. refl) (writes-none w) h))

    pub dimension-becomes : {w w' : Writer} {o : tree.Open ℕ} (u : Ty ℕ) → some o ≡ single p → get_or (look o) t ≡ u → size u ≤ 65_535 → Writes w w' (writeTy u)
        → Leaves writeTy w w' (Ok tt) Ty''
    unfolding replaceTy replaceDim
    dimension-becomes {o = o} u s k l h =
        leaves u (subst (λ (x : Ty ℕ). replaceTy (well.names pool table) bounded look x ≡ got u) e (rw (← s) (ap got (ap (get_or (look o)) e ∙ k))))
        (short-writes refl l h)

  pub dimension-short : {t : Ty ℕ} {p : Tree} → dim p ≡ t → GoodProduct pool table p → size t ≤ 65_535
  unfolding size
  dimension-short {p = p} e g = omega (arith, ap size e, few p g)

-- ══ Products in which nothing is replaced ══

module _ (look : Look ℕ) {f : tree.Factor ℕ} {p q : Tree} (e : p ≡ f ∷ q) where
  first-or-rest : any (replaced look) (opens (dim p)) ≡ (any (replaced look) (openOfFactor f) || any (replaced look) (opens (dim q)))
  unfolding opens collect
  first-or-rest = rw e (any_append (replaced look) (openOfFactor f) (opens (dim q)))

  pub product-hit : any (replaced look) (openOfFactor f) ≡ true → any (replaced look) (opens (dim p)) ≡ true
  product-hit h = first-or-rest ∙ ap (λ (b : Bool). b || any (replaced look) (opens (dim q))) h

  pub product-miss : any (replaced look) (openOfFactor f) ≡ false → any (replaced look) (opens (dim p)) ≡ any (replaced look) (opens (dim q))
  product-miss h = first-or-rest ∙ ap (λ (b : Bool). b || any (replaced look) (opens (dim q))) h

pub product-empty : (look : Look ℕ) (p : Tree) → p ≡ [] → any (replaced look) (opens (dim p)) ≡ false
unfolding opens collect any
product-empty look p e = rw e refl
