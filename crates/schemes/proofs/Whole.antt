-- Quantifying past the check of 10: its checks, and then what was made in one walk.
use Rattle.std.specs.Prelude.{Result, ◌≡◌, refl, true, ℕ, ◌≤◌}
use Rattle.std.proofs.Math.Path.{sym, ap}
use Rattle.std.proofs.Common.{subst, ap₂, ◌∙◌, arith}
use mathlib.Core.List.{List, [], ◌∷◌}
use Rattle.std.proofs.Math.Option.{Option, none, some}
use Rattle.std.proofs.Math.ListN.{length}
use Rattle.rules.specs.Base.{Got, got, ◌>>=◌, bounded, collect}
use Rattle.rules.specs.Calls.{tableKept, typeGiven, boundsGiven, numbersGiven, apart, quantified}
use Rattle.rules.specs.Names.{Table, table_of, numbersOf, is_held}
use Rattle.rules.specs.Replacing.{replaceTy}
use Rattle.rules.specs.Schemes.{scheme, schemeLimited, renamed, renamedBounds, quantify}
use Rattle.rules.specs.Trees as tree
use Rattle.rules.specs.Trees.{Names, Ty, orderAtom, opens}
use Rattle.rules.specs.Contents.{unmixed}
use Rattle.rules.specs.Writing.{Rec, writeScheme}
use Rattle.rules.specs.declared.Refusal.{Refusal}
use Rattle.laws.specs.GoodProducts.{goodAtom}
use Rattle.laws.proofs.GoodProducts.{atom-tells}
use Rattle.laws.proofs.Lists.{bracket}
use Rattle.laws.proofs.NameTable.{held-apart}
use Rattle.laws.specs.NameTable.{Good}
use Rattle.laws.specs.Order.{Tells}
use Rattle.laws.proofs.Weaker.{ty-weaker}
use Rattle.names.specs.declared.tables.NameTable.{NameTable}
use Rattle.products.proofs.Held.{law}
use Rattle.schemes_renaming.specs.Places.{all_of}
use Rattle.schemes_renaming.proofs.InTurn.{quantify-once}
use Rattle.records.specs.Found.{Words32}
use Rattle.records.specs.Good.{goodTy}
use Rattle.records.proofs.Whole.{type-is}
use Rattle.records_buffers.specs.Told.{Made}
use Rattle.schemes_handed.specs.Bounds.{Rename, allBounds}
use Rattle.schemes_handed.specs.declared.Handed.{Handed}
use Rattle.schemes_quantify.specs.Ready.{Sound, quantifiedAs}
use Rattle.schemes.proofs.Rows.{IsRow}

module _ (pool table : List ℕ) where
  -- the order tells the atoms of well formed products apart
  pub tells : (q : ℕ) → Good pool table → Tells (λ a. goodAtom (numbersOf (table_of pool table)) (is_held (table_of pool table)) q a ≡ true)
      (orderAtom (numbersOf (table_of pool table)))
  tells q g = atom-tells (numbersOf (table_of pool table)) (is_held (table_of pool table)) q (held-apart pool table g)

  -- a type that passed its test is what the walk asks
  pub weak-sound : (t : Ty ℕ) → goodTy pool table 0 t ≡ true → tree.depth t ≤ 64 → Sound pool table t
  weak-sound t g d =
      record { good = ty-weaker (numbersOf (table_of pool table)) (is_held (table_of pool table)) 0 4_294_967_296 (omega arith) t g; flat = d }

-- with all bounds asked for, each is renamed or stays
pub all_renamed : (f : Rename) (bs : List (tree.Open ℕ)) → allBounds true f bs ≡ renamedBounds f bs
unfolding collect renamedBounds
all_renamed f [] = refl
all_renamed f (o ∷ bs) = go (f o) refl (all_renamed f bs)
  where
    go : (s : Option (tree.Open ℕ)) → f o ≡ s → allBounds true f bs ≡ renamedBounds f bs → allBounds true f (o ∷ bs) ≡ renamedBounds f (o ∷ bs)
    go none i r = rw i (ap (o ∷◌) r)
    go (some u) i r = rw i (ap (u ∷◌) r)

-- ══ Quantifying ══

module _ (pool table : List ℕ) where
  abbrev pub quantifiedFrom : List ℕ → Ty ℕ → List (tree.Open ℕ) → Got (List Rec)
  quantifiedFrom numbers t bs = quantify (numbersOf (table_of pool table)) bounded numbers t bs >>= λ s. got (writeScheme s)

pub quantify-row : (t : Table) (ws bounds numbers : List ℕ)
    → IsRow (λ x. apart t (opens x)) (λ x bs. quantify (numbersOf t) bounded numbers x bs >>= λ s. got (writeScheme s)) ws bounds numbers
    (tableKept t) (typeGiven t ws) (boundsGiven t bounds) (numbersGiven t numbers)
    (quantified t ws bounds numbers)
unfolding quantified
quantify-row t ws bounds numbers = record { is = refl }

module _ (h : Handed) (t : Ty ℕ) (bs : List (tree.Open ℕ)) where
  -- quantifying in turn is what was made in one walk
  quantify-made : goodTy h.names.pool.now h.names.table.now 0 t ≡ true
      → unmixed (numbersOf (table_of h.names.pool.now h.names.table.now)) (opens t) ≡ true
      → quantifiedAs h true t bs ≡ quantifiedFrom h.names.pool.now h.names.table.now h.numbers.now t bs
  quantify-made good unmix =
      let pool = h.names.pool.now in
      let table = h.names.table.now in
      let numbers = h.numbers.now in
      let ν : Names ℕ = numbersOf (table_of pool table) in
      let f : Rename = all_of ν 0 numbers in
      let q = quantify-once ν (law pool table) (is_held (table_of pool table)) 4_294_967_296 (tells pool table 4_294_967_296 h.names.good) numbers t bs
      (let k = h.few in omega arith) good unmix in
      rw (all_renamed f bs, q)
      (sym (bracket (replaceTy ν bounded (renamed f) t)
      (λ u. schemeLimited bounded 1 u (renamedBounds f bs) (scheme (length numbers) u (renamedBounds f bs))) (λ s. got (writeScheme s))))

  module _ {n : NameTable} {numbers : List ℕ} (e : (h.names ≡ n) × (h.numbers.now ≡ numbers)) where
    pub quantify-met : goodTy n.pool.now n.table.now 0 t ≡ true → unmixed (numbersOf (table_of n.pool.now n.table.now)) (opens t) ≡ true
        → {w' : List ℕ} {r : Result ℕ Refusal} → Made (quantifiedAs h true t bs) w' r → Made (quantifiedFrom n.pool.now n.table.now numbers t bs) w' r
    quantify-met good unmix {w'} {r} k =
        let g : goodTy h.names.pool.now h.names.table.now 0 t ≡ true = subst (λ (x : NameTable). goodTy x.pool.now x.table.now 0 t ≡ true) (sym e.0) good in
        let u : unmixed (numbersOf (table_of h.names.pool.now h.names.table.now)) (opens t) ≡ true =
        subst (λ (x : NameTable). unmixed (numbersOf (table_of x.pool.now x.table.now)) (opens t) ≡ true) (sym e.0) unmix in
        subst (λ (m : Got (List Rec)). Made m w' r)
        (quantify-made g u ∙ ap₂ (λ (x : NameTable) (xs : List ℕ). quantifiedFrom x.pool.now x.table.now xs t bs) e.0 e.1) k

    pub handed-sound : Sound n.pool.now n.table.now t → Sound h.names.pool.now h.names.table.now t
    handed-sound s = subst (λ (x : NameTable). Sound x.pool.now x.table.now t) (sym e.0) s

-- a type that was given
module _ (pool table ws : List ℕ) (w : Words32 ws) (t : Ty ℕ) (e : typeGiven (table_of pool table) ws ≡ got t) where
  pub given-good : goodTy pool table 0 t ≡ true
  given-good = (type-is pool table ws w t e).good

  pub given-sound : Sound pool table t
  given-sound = weak-sound pool table t given-good (type-is pool table ws w t e).deep
