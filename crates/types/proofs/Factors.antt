-- A product by value: read factor by factor, and written so.
use Rattle.std.specs.Prelude.{◌≡◌, refl, [], ◌∷◌, ◌++◌, map, ℕ, suc, ◌+◌, ◌<◌, ◌≤◌, length}
use Rattle.std.proofs.Common.{ap, ◌∙◌, sym, subst, arith, length-append}
use mathlib.Core.List.{append_assoc, append-nil}
use Rattle.rules.specs.Trees as tree
use Rattle.rules.specs.Values.{productValue, value_of}
use Rattle.rules.specs.Writing.{Rec, rec, head, writeFactor, writeProduct}
use Rattle.products.specs.Kinds.{Kind, variable, parameter, dimension, quantified}
use Rattle.products.proofs.Places.{put-given, given-len}
use Rattle.products.specs.Told.{Tree, valueIn, given, put_of}
use Rattle.products.specs.declared.Factor as code
use Rattle.products.specs.declared.Product as code-product
use Rattle.records.specs.Cut.{fit}
use Rattle.records.proofs.Cut.{fits}
use Rattle.records.specs.Views.{recOf}
use Rattle.records.specs.declared.View.{View}
use Rattle.records.specs.declared.View.TheVariants as view
use Rattle.types.specs.Written.{Writes}
use Rattle.types.proofs.Written.{writes-none, writes-then}
use Rattle.types.specs.declared.writer.Writer.{Writer}

-- ══ Read ══

-- what was read so far, and what is left
pub record Read (left whole : Tree) (out : code-product.Product) : Type 0 where
  pub front : Tree
  pub is : given out ≡ productValue front
  pub all : front ++ left ≡ whole

pub read-none : (whole : Tree) (out : code-product.Product) → given out ≡ productValue [] → Read whole whole out
read-none whole out h = record { front = []; is = h; all = refl }

module _ {left whole : Tree} {out : code-product.Product} (r : Read left whole out) where
  pub read-short : {f : tree.Factor ℕ} {rest : Tree} → left ≡ f ∷ rest → out.len < length whole
  read-short {f} {rest} e = omega (arith, given-len out r.front r.is, ap length r.all, length-append r.front left, ap length e)

  pub read-more : (x : code.Factor) (f : tree.Factor ℕ) (rest : Tree) → left ≡ f ∷ rest → valueIn x ≡ value_of f → Read rest whole (put_of out x)
  read-more x f rest e v = record {
    front = r.front ++ (f ∷ []);
    is = put-given out x r.front f r.is v;
    all = append_assoc r.front (f ∷ []) rest ∙ ap (r.front ++◌) (sym e) ∙ r.all;
  }

  pub read-all : left ≡ [] → given out ≡ productValue whole
  read-all e = r.is ∙ ap productValue (sym (append-nil r.front) ∙ ap (r.front ++◌) (sym e) ∙ r.all)

-- ══ Written ══

-- the kind that is left
pub last-kind : {k : ℕ} → Kind k → ¬ (k ≡ 11) → ¬ (k ≡ 12) → ¬ (k ≡ 15) → k ≡ 13
last-kind variable a b c = absurd (a refl)
last-kind parameter a b c = absurd (b refl)
last-kind dimension a b c = refl
last-kind quantified a b c = absurd (c refl)

-- what is still to be written makes the whole product
abbrev pub ToWrite : (w₀ w : Writer) (left whole : Tree) → Type 0
ToWrite w₀ w left whole = (w' : Writer) → Writes w w' (map writeFactor left) → Writes w₀ w' (writeProduct whole)

pub write-head : {w₀ w : Writer} (n : ℕ) (p : Tree) → length p ≡ n → n ≤ 64 → Writes w₀ w (recOf (view.Dim n) (fit (1 + n)) ∷ []) → ToWrite w₀ w p p
unfolding writeProduct
write-head {w₀} {w} n p l h put w' q =
    let long : fit (1 + n) ≡ suc n = fits (1 + n) (omega arith) ∙ omega arith in
    let here : Writes w₀ w (rec (head 3 (suc n)) n 0 0 ∷ []) = subst (λ (k : ℕ). Writes w₀ w (recOf (view.Dim n) k ∷ [])) long put in
    writes-then (rec (head 3 (suc (length p))) (length p) 0 0 ∷ []) (map writeFactor p)
    (subst (λ (k : ℕ). Writes w₀ w (rec (head 3 (suc k)) k 0 0 ∷ [])) (sym l) here) q

module _ {w₀ w : Writer} (left whole : Tree) (t : ToWrite w₀ w left whole) where
  pub write-factor : {w₁ : Writer} (v : View) (f : tree.Factor ℕ) (rest : Tree) → left ≡ f ∷ rest → recOf v 1 ≡ writeFactor f
      → Writes w w₁ (recOf v (fit 1) ∷ [])
      → ToWrite w₀ w₁ rest whole
  write-factor {w₁} v f rest e r put w' q =
      let here : Writes w w₁ (writeFactor f ∷ []) = subst (λ (k : Rec). Writes w w₁ (k ∷ [])) (ap (recOf v) (fits 1 (omega arith)) ∙ r) put in
      t w' (subst (λ (l : Tree). Writes w w' (map writeFactor l)) (sym e) (writes-then (writeFactor f ∷ []) (map writeFactor rest) here q))

  pub write-end : left ≡ [] → Writes w₀ w (writeProduct whole)
  write-end e = t w (subst (λ (l : Tree). Writes w w (map writeFactor l)) (sym e) (writes-none w))
