-- Two dimensions divided: what the division asks, and what is written of the quotient.
use Rattle.std.specs.Prelude.{◌≡◌, List, [], ◌∷◌, ℕ, ◌+◌, length, Ok, Err, refl}
use Rattle.std.proofs.Common.{arith, ap, ap₂, sym, subst, ◌∙◌}
use Rattle.rules.specs.Base.{Got, got, refused, bounded}
use Rattle.rules.specs.Names.{table_of, is_held}
use Rattle.rules.specs.Products.{divide}
use Rattle.rules.specs.Trees.{is_scalar}
use Rattle.rules.specs.Refusals.{number_of}
use Rattle.rules.specs.Values.{ProductValue, productValue}
use Rattle.rules.specs.Writing.{writeProduct}
use Rattle.rules.specs.declared.Refusal.{Refusal}
use Rattle.laws.proofs.GoodProducts.{divide-good}
use Rattle.products.specs.Told.{Tree, given, answer, productOf as treeIn}
use Rattle.products.specs.Held.{Well, Sound}
use Rattle.products.proofs.Held.{well-sound, law}
use Rattle.products.proofs.Places.{length-product}
use Rattle.products.specs.declared.Product as code
use Rattle.records.specs.Cut.{fit}
use Rattle.records.specs.Views.{recOf}
use Rattle.records.specs.declared.View.TheVariants as view
use Rattle.replace.proofs.InProducts.{Fresh, fresh, taken, told-stop}
use Rattle.replace.specs.Well as well
use Rattle.replace.specs.Well.{Whole, GoodProduct}
use Rattle.types.specs.declared.writer.Writer.{Writer}
use Rattle.types.specs.Written.{Writes}
use Rattle.solve_step.specs.Applied.{Applied}
use Rattle.solve_step.specs.Parts.{asScalar}
use Rattle.solve_step.specs.declared.Step.TheVariants.{Split}
use Rattle.solve_step.proofs.Written.{split-is, scalar-written, product-as}

module _ (pool table : List ℕ) where
  -- a product that was read
  pub whole : {P : code.Product} {p : Tree} → GoodProduct pool table p → given P ≡ productValue p → Whole pool table P p
  whole g f = record { is = f; good = g }

  pub whole-well : {P : code.Product} (p : Tree) → Whole pool table P p → Well pool table P
  whole-well {P} p w = (taken pool table P p w).well

  module _ {P Q : code.Product} (p q : Tree) (v : Whole pool table P p) (w : Whole pool table Q q) where
    pub quotient-is : (x : Got ProductValue) → x ≡ answer (divide (well.names pool table) bounded (treeIn P) (treeIn Q))
        → x ≡ answer (divide (well.names pool table) bounded p q)
    quotient-is x h =
        h ∙ ap₂ (λ (a b : Tree). answer (divide (well.names pool table) bounded a b)) (sym (taken pool table P p v).is) (sym (taken pool table Q q w).is)

    -- the quotient of two well formed products is one
    pub quotient-fresh : (D : code.Product) → got (given D) ≡ answer (divide (well.names pool table) bounded (treeIn P) (treeIn Q))
        → Fresh pool table D (divide (well.names pool table) bounded p q)
    quotient-fresh D h =
        fresh pool table D _ (quotient-is _ h)
        (divide-good (well.names pool table) (law pool table) (is_held (table_of pool table)) 4_294_967_296 p q v.good w.good)

  module _ (D : code.Product) (m : Got Tree) (x : Fresh pool table D m) where
    pub fresh-sound : Sound D
    fresh-sound = well-sound (taken pool table D x.tree x.whole).well

    pub scalar-put : {w w₁ w₂ : Writer} → Writes w w₁ (recOf view.IsScalar (fit (2 + D.len)) ∷ []) → Writes w₁ w₂ (writeProduct (treeIn D))
        → Applied w w₂ (Ok (Split w₂.at)) (asScalar m)
    scalar-put i j =
        let t = taken pool table D x.tree x.whole in
        let s = fresh-sound in
        let k : length x.tree ≡ D.len = ap length t.is ∙ length-product D s.long s.few in
        split-is (is_scalar x.tree ∷ []) (ap asScalar x.is) (scalar-written x.tree (omega (arith, k)) (omega (arith, k, s.few)) i (product-as (sym t.is) j))

pub scalar-stop : {w : Writer} (why : Refusal) (m : Got Tree) → refused (number_of why) ≡ answer m → Applied w w (Err why) (asScalar m)
scalar-stop {w} why m h =
    subst (λ (m : Got Tree). Applied w w (Err why) (asScalar m)) (sym (told-stop (number_of why) m h)) (record { same = refl; says = refl })
