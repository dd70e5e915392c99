-- What follows from the definitions of specs/Reducing: what the rows of a set come to is what the definition says.
use Rattle.std.specs.Prelude.{◌≡◌, Bool, false, ℕ, get_or}
use Rattle.std.proofs.Math.Path.{refl, ap, sym}
use Rattle.std.proofs.Common.{◌∙◌, subst}
use mathlib.Core.List.{List, [], ◌∷◌, map}
use Rattle.std.proofs.Math.Bool.{true}
use Rattle.std.proofs.Math.ListN.{length}
use Rattle.rules.specs.Base.{Got, got, refused, ◌>>=◌, each}
use Rattle.std.proofs.Math.Dec.{leb}
use Rattle.rules.specs.Names.{Bytes}
use Rattle.rules.specs.Trees.{Atom, Product, Names, Con, is_scalar}
use Rattle.laws.specs.Lists.{Every}
use Rattle.laws.specs.NameTable.{Good}
use Rattle.laws.proofs.NameTable.{held-apart}
use Rattle.laws.proofs.ByteOrder.{atom-lawful, numbered-lawful}
use Rattle.rules.specs.WellFormed.{goodProduct, goodCon}
use Rattle.rules.specs.Names.{table_of, names_of}
use Rattle.theorems_engine.proofs.Laid.{padded-rows}
use Rattle.theorems_engine.proofs.Agreement.{scalars}
use Rattle.engine_rows.specs.Lines.{paddedRows, laidOut}
use Rattle.engine_rows.proofs.OnLines.{LaidSo, laid-so}
use Rattle.engine_rows.specs.Columns.{Known, listed}
use Rattle.engine_rows.proofs.Columns.{Listed, listed-eight, few-enough}
use Rattle.engine_rows.proofs.Fitted.{known, fits-then, fits-so, listed-columns}
use Rattle.records.specs.Good.{Chain, GoodCon, numbers, holding}
use Rattle.engine_matrix.specs.declared.inner.parts.Columns.{Columns}
use Rattle.rules.specs.Elimination as Rows
use Rattle.std.proofs.lemmas.List.{length-map}
use Rattle.laws.proofs.Lists.{clash, same-number}
use Rattle.rules.specs.Elimination.{Row, eliminate, settledBy, scalarOf, columns, fits, fitting}
use Rattle.engine_matrix.specs.Machine.{colsIn}
use Rattle.engine.specs.Reducing.{reduction}

module _ (pool table : List ℕ) (cs : List (Con ℕ)) where
  abbrev ν : Names ℕ
  ν = numbers pool table

  -- what isn't laid out doesn't fit
  pub laid-unfit : (names : List Bytes) (cols : List (Atom ℕ)) (j : ℕ) → laidOut names cols cs ≡ refused j → reduction pool table cs ≡ refused j
  unfolding laidOut fitting fits
  laid-unfit names cols j e = go (each scalarOf cs) refl
    where
      few : (ps : List (Product ℕ)) → each scalarOf cs ≡ got ps → (b : Bool) → leb (length ps) 24 ≡ b → reduction pool table cs ≡ refused j
      few ps i true k = let z : got (paddedRows names cols ps) ≡ refused j = rw (i, k) at e in clash (sym z)
      few ps i false k = let z : ◌≡◌ {A = Got (List Row)} (refused 8) (refused j) = rw (i, k) at e in rw (i, k, same-number z) refl

      go : (m : Got (List (Product ℕ))) → each scalarOf cs ≡ m → reduction pool table cs ≡ refused j
      go (refused n) i = let z : ◌≡◌ {A = Got (List Row)} (refused n) (refused j) = rw i at e in rw (i, same-number z) refl
      go (got ps) i = few ps i (leb (length ps) 24) refl

  module _ (s : List ℕ) (e : ℕ) (chain : Chain (GoodCon pool table 0 s) e cs 0) (names : List Bytes) (cols : List (Atom ℕ)) (rows : List Row)
      (laid : laidOut names cols cs ≡ got rows) where
    abbrev out : LaidSo names cols cs rows
    out = laid-so names cols cs rows laid

    scalar-chain : Chain (GoodCon pool table 0 s) e (map is_scalar out.products) 0
    scalar-chain = subst (λ (l : List (Con ℕ)). Chain (GoodCon pool table 0 s) e l 0) (scalars cs out.products out.all) chain

    pub set_known : Known (get_or table 0 0) s e
    set_known = known pool table s out.products e scalar-chain

    -- too many names
    pub names-unfit : (j : ℕ) → listed ν s e ≡ refused j → reduction pool table cs ≡ refused j
    unfolding fitting
    names-unfit j i = go (fits ν out.products) refl
      where
        go : (b : Bool) → fits ν out.products ≡ b → reduction pool table cs ≡ refused j
        go true k = let t = fits-then pool table s out.products e scalar-chain k in clash (sym i ∙ few-enough ν s e t.1 t.2)
        go false k = let y = (listed-eight ν s e).only j i in rw (out.all, k, y) refl

  goods : (s : List ℕ) (e : ℕ) (ps : List (Product ℕ)) (at : ℕ) → Chain (GoodCon pool table 0 s) e (map is_scalar ps) at
      → Every (λ p. goodProduct ν (holding pool table) 0 p ≡ true) ps
  unfolding goodCon
  goods s e [] at c = tt
  goods s e (p ∷ ps) at c = (c.1.0.good, goods s e ps c.0 c.1.1)

  -- laid out and eliminated
  pub all-reduced : Good pool table → (s : List ℕ) (e : ℕ) → Chain (GoodCon pool table 0 s) e cs 0 → (k : Columns) → Listed ν s e k
      → (n : ℕ) (rows : List Row) → n ≡ length rows → laidOut (names_of (table_of pool table)) (colsIn k) cs ≡ got rows
      → (d : Got (Rows.Reduced ℕ)) → d ≡ eliminate (colsIn k) n rows [] → (d >>= λ d. got (settledBy (colsIn k) d.left d.values)) ≡ reduction pool table cs
  unfolding fitting
  all-reduced good s e chain k l n rows m laid d q =
      let o = laid-so (names_of (table_of pool table)) (colsIn k) cs rows laid in
      let ps = o.products in
      let ch = scalar-chain s e chain (names_of (table_of pool table)) (colsIn k) rows laid in
      let cols : colsIn k ≡ columns ν ps = listed-columns pool table s ps e ch k l in
      let fit : fits ν ps ≡ true = fits-so pool table s ps e ch o.few l.few-variables l.few-others in
      let many : n ≡ length ps = m ∙ ap length o.is ∙ length-map ps _ in
      ap (◌>>= λ d. got (settledBy (colsIn k) d.left d.values)) q
      ∙ ap (λ (c : List (Atom ℕ)). eliminate c n rows [] >>= λ d. got (settledBy c d.left d.values)) cols
      ∙ ap (λ (x : ℕ). eliminate (columns ν ps) x rows [] >>= λ d. got (settledBy (columns ν ps) d.left d.values)) many
      ∙ ap (λ (x : List Row). eliminate (columns ν ps) (length ps) x [] >>= λ d. got (settledBy (columns ν ps) d.left d.values))
      (o.is ∙ ap (λ (c : List (Atom ℕ)). paddedRows (names_of (table_of pool table)) c ps) cols)
      ∙ padded-rows ν (atom-lawful ν (numbered-lawful _)) (holding pool table) (held-apart pool table good) ps
      (goods s e ps 0 ch) fit 48
      ∙ sym (rw (o.all, fit) refl)
