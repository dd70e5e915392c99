-- The records of a row: its factors, column by column, and what they are the parts of.
use Rattle.std.specs.Prelude.{◌≡◌, true, false, List, [], ◌∷◌, ◌++◌, map, ℕ, suc, ◌+◌, ◌≤◌, ◌<◌, length, take, drop, get_or, ℤ}
use Rattle.std.proofs.Math.Path.{refl, ap}
use Rattle.std.proofs.Common.{ap₂, ◌∙◌, sym, subst, append_assoc, append-nil, length-append, drop_of_length-le, take_all}
use mathlib.Core.List.{map-append}
use native.Mathlib.Omega.{arith}
use Rattle.std.proofs.Math.Numerals.{add-one}
use Rattle.std.proofs.lemmas.List.{length-map}
use Rattle.std.proofs.Math.Seq.{drop-cons, take-suc}
use Rattle.rules.specs.Base.{collect}
use Rattle.rules.specs.Exponents.{Exp, frac, nought, isZero}
use Rattle.rules.specs.Trees.{Atom, base, ◌↑◌, Product, is_scalar, size, sizeCon, sizeBinding}
use Rattle.rules.specs.Products.{put}
use Rattle.rules.specs.Writing.{Rec, rec, head, twos, writeFactor, writeProduct, writeTy, writeCon, writeBinding}
use Rattle.rules.specs.Elimination.{Row, ◌gets◌, factors, boundBy}
use Rattle.laws.proofs.Contents.{collect-append}
use Rattle.records.specs.Cut.{fit}
use Rattle.records.proofs.Cut.{fits}
use Rattle.records.specs.Holds.{atomOf}
use Rattle.records.specs.Views.{recOf}
use Rattle.records.specs.declared.Open as names
use Rattle.records.specs.declared.Atom as atoms
use Rattle.records.specs.declared.View.TheVariants as view
use Rattle.types.specs.Written.{Writes, Reserves, Begins}
use Rattle.types.proofs.Written.{writes-none, writes-then, part-writes}
use Rattle.types.specs.declared.writer.Writer.{Writer}
use Rattle.engine_matrix.specs.declared.inner.parts.Columns.{Columns}
use Rattle.engine_matrix.specs.Machine.{colsIn}
use Rattle.engine_matrix.proofs.Machine.{columns-few}
use Rattle.theorems_engine.proofs.Rows.{factors-few}
use Rattle.engine_rows.proofs.Atoms.{cols-long}
use Rattle.engine.specs.Put.{Factored}

pub factor-record : (a : atoms.Atom) (n : ℤ) (d : ℕ) → recOf (view.Factor a (twos n) d) 1 ≡ writeFactor (atomOf a ↑ frac n d)
unfolding writeFactor
factor-record (atoms.TheVariants.Free (names.TheVariants.Var x)) n d = refl
factor-record (atoms.TheVariants.Free (names.TheVariants.Quant i)) n d = refl
factor-record (atoms.TheVariants.Free (names.TheVariants.Par x)) n d = refl
factor-record (atoms.TheVariants.Base x) n d = refl

pub row-few : (k : Columns) (r : Row) → length (factors (colsIn k) r) ≤ 48
row-few k r = omega (arith, factors-few (colsIn k) r, cols-long k, columns-few k)

-- ══ The factors of a row, column by column ══

pub record Putting (w w' : Writer) (n j : ℕ) (cols : List (Atom ℕ)) (r : Row) : Type 0 where
  pub done : Product ℕ
  pub whole : factors cols r ≡ done ++ factors (drop j cols) (drop j r)
  pub written : Factored w w' n done
  pub few : n ≤ j

pub putting-start : (w : Writer) (cols : List (Atom ℕ)) (r : Row) → Putting w w 0 0 cols r
putting-start w cols r = record { done = []; whole = refl; written = record { many = refl; written = writes-none w }; few = omega arith }

module _ (w w' : Writer) (n j : ℕ) (cols : List (Atom ℕ)) (r : Row) (g : Putting w w' n j cols r) where
  module _ (h : j < length cols) (k : j < length r) where
    abbrev here : Atom ℕ
    here = get_or cols j (base 0)

    abbrev this : Exp
    this = get_or r j nought

    next : factors (drop j cols) (drop j r) ≡ put here this (factors (drop (j + 1) cols) (drop (j + 1) r))
    unfolding factors
    next = rw (drop-cons cols j (base 0) h, drop-cons r j nought k, add-one j) refl

    pub putting-skip : isZero this ≡ true → Putting w w' n (j + 1) cols r
    putting-skip z = record { done = g.done; whole = g.whole ∙ ap (g.done ++◌) (next ∙ rw (z, put) refl); written = g.written; few = omega (arith, g.few) }

    pub putting-put : (w₂ : Writer) (v : Rec) → isZero this ≡ false → v ≡ writeFactor (here ↑ this) → Writes w' w₂ (v ∷ [])
        → Putting w w₂ (n + 1) (j + 1) cols r
    putting-put w₂ v z e q = record {
      done = g.done ++ (here ↑ this ∷ []);
      whole = g.whole ∙ ap (g.done ++◌) (next ∙ rw (z, put) refl)
          ∙ sym (append_assoc g.done (here ↑ this ∷ []) (factors (drop (j + 1) cols) (drop (j + 1) r)));
      written = record {
        many = omega (arith, g.written.many, length-append g.done (here ↑ this ∷ []));
        written = subst (Writes w w₂) (sym (map-append writeFactor g.done (here ↑ this ∷ [])))
            (writes-then (map writeFactor g.done) (writeFactor (here ↑ this) ∷ []) g.written.written (rw e at q));
      };
      few = omega (arith, g.few);
    }

  pub putting-done : length cols ≤ j → Factored w w' n (factors cols r)
  unfolding factors
  putting-done h =
      let e : factors cols r ≡ g.done = g.whole ∙ ap (g.done ++◌) (rw (drop_of_length-le cols {i = j} h) refl) ∙ append-nil g.done in
      subst (Factored w w' n) (sym e) g.written

-- ══ What they are the parts of ══

-- one record before a product
whole-long : (p : Product ℕ) → length p ≤ 48 → fit (suc (length (writeProduct p))) ≡ suc (suc (length p))
unfolding writeProduct
whole-long p few =
    fits (suc (suc (length (map writeFactor p)))) (omega (arith, length-map p writeFactor, few)) ∙ ap (λ (i : ℕ). suc (suc i)) (length-map p writeFactor)

module _ {w w₁ w₂ w₃ : Writer} {start : ℕ} (p : Product ℕ) (few : length p ≤ 48) (r : Reserves w w₁ start) where
  pub product-written : (n : ℕ) → Factored w₁ w₂ n p → Begins w₂ w₃ start (view.Dim n) → Writes w w₃ (writeProduct p)
  unfolding writeProduct
  product-written n f b =
      let l : fit (suc (length (map writeFactor p))) ≡ suc (length p) =
      fits (suc (length (map writeFactor p))) (omega (arith, length-map p writeFactor, few)) ∙ ap suc (length-map p writeFactor) in
      subst (λ (h : Rec). Writes w w₃ (h ∷ map writeFactor p)) (ap₂ (λ (m i : ℕ). rec (head 3 m) i 0 0) l f.many)
      (part-writes (view.Dim n) (map writeFactor p) r f.written b)

  pub line-written : Writes w₁ w₂ (writeProduct p) → Begins w₂ w₃ start view.IsScalar → Writes w w₃ (writeCon (is_scalar p))
  unfolding writeCon sizeCon size
  line-written q b =
      subst (λ (h : Rec). Writes w w₃ (h ∷ writeProduct p)) (ap (λ (m : ℕ). rec (head 22 m) 0 0 0) (whole-long p few))
      (part-writes view.IsScalar (writeProduct p) r q b)

pub binding-written : {w w₁ w₂ w₃ : Writer} {start : ℕ} (cols : List (Atom ℕ)) (x : ℕ) (s : Row) → length (factors cols s) ≤ 48 → Reserves w w₁ start
    → Writes w₁ w₂ (writeProduct (factors cols s)) → Begins w₂ w₃ start (view.Binding x) → Writes w w₃ (writeBinding (boundBy cols (x gets s)))
unfolding writeBinding writeTy boundBy sizeBinding size
binding-written {w} {w₁} {w₂} {w₃} cols x s few r q b =
    subst (λ (h : Rec). Writes w w₃ (h ∷ writeProduct (factors cols s)))
    (ap (λ (m : ℕ). rec (head 24 m) x 0 0) (whole-long (factors cols s) few))
    (part-writes (view.Binding x) (writeProduct (factors cols s)) r q b)

-- ══ Part after part ══

module _ {A : Type 0} (f : A → List Rec) (as' : List A) {w w₁ : Writer} where
  pub parts-on : {w₂ : Writer} (i : ℕ) (x y : A) → i < length as' → y ≡ get_or as' i x → Writes w w₁ (collect f (take i as')) → Writes w₁ w₂ (f y)
      → Writes w w₂ (collect f (take (i + 1) as'))
  unfolding collect
  parts-on {w₂} i x y h k p q =
      let e : collect f (take (i + 1) as') ≡ collect f (take i as') ++ f (get_or as' i x) =
      rw (add-one i, take-suc as' i x h)
      (collect-append f (take i as') (get_or as' i x ∷ []) ∙ ap (collect f (take i as') ++◌) (append-nil (f (get_or as' i x)))) in
      subst (Writes w w₂) (sym e) (writes-then (collect f (take i as')) (f (get_or as' i x)) p (rw k at q))

  pub parts-done : (i : ℕ) → length as' ≤ i → Writes w w₁ (collect f (take i as')) → Writes w w₁ (collect f as')
  parts-done i h g = rw (take_all i as' h) at g
