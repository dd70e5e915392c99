-- What is written is the answer, and fits the result buffer: at most 24 rows or values, of at most 50 records each.
use Rattle.std.specs.Prelude.{◌≡◌, refl, length, take, drop, get_or, Ok, Err, zero, suc}
use Rattle.std.proofs.Math.Path.{ap}
use Rattle.std.proofs.Common.{ap₂, ◌∙◌, sym, arith, zero-add, length-append, length-take-le, get_or-take}
use Rattle.std.proofs.Math.ListN.{get_or-map}
use mathlib.Core.List.{List, [], ◌∷◌, ◌++◌, map}
use Prim.Native.Nat.{ℕ, ◌*◌, ◌≤◌, ◌<◌}
use Rattle.std.proofs.lemmas.List.Edits.{sets, sets-eq}
use Rattle.rules.specs.Base.{Got, got, refused, collect}
use Rattle.rules.specs.Calls.{over, resultAfter}
use Rattle.rules.specs.Refusals.{number_of}
use Rattle.rules.specs.Trees.{Atom, Con, is_scalar, size, sizeCon, sizeBinding}
use Rattle.rules.specs.Writing.{Rec, words, writeCon, writeBinding}
use Rattle.rules.specs.declared.Refusal.{Refusal}
use Rattle.laws.proofs.Size.{words-length, size-con, size-binding, set-length, bindings-length}
use Rattle.types.specs.Written.{Writes}
use Rattle.types.specs.declared.writer.Writer.{Writer}
use Rattle.engine_matrix.specs.declared.inner.parts.Columns.{Columns}
use Rattle.engine_matrix.specs.declared.inner.parts.Machine.{Machine}
use Rattle.rules.specs.Elimination.{Row, Value, ◌gets◌, factors, boundBy, Settled, settledBy, eliminatedOf, eliminatedWords, allBound, someLeft}
use Rattle.engine_matrix.specs.Grids.{rowsIn}
use Rattle.engine_matrix.proofs.Grids.{grid-long}
use Rattle.engine_matrix.specs.Machine.{colsIn, pairValues, staying, bound}
use Rattle.engine.specs.declared.Eliminated.TheVariants.{Bound, Left}
use Rattle.engine.specs.Reducing.{settledIn}
use Rattle.engine.specs.Told.{Answered}
use Rattle.engine.proofs.Factors.{row-few}

-- ══ Rows and values, one by one ══

pair-at : (xs : List ℕ) (rs : List Row) (i : ℕ) → i < length xs → i < length rs → get_or (pairValues xs rs) i (0 gets []) ≡ get_or xs i 0 gets get_or rs i []
unfolding pairValues
pair-at [] rs i h k = absurd (omega arith)
pair-at (x ∷ xs) [] i h k = absurd (omega arith)
pair-at (x ∷ xs) (r ∷ rs) zero h k = refl
pair-at (x ∷ xs) (r ∷ rs) (suc i) h k = pair-at xs rs i (omega arith) (omega arith)

pair-long : (xs : List ℕ) (rs : List Row) → length xs ≡ length rs → length (pairValues xs rs) ≡ length xs
unfolding pairValues
pair-long [] rs h = refl
pair-long (x ∷ xs) [] h = absurd (omega arith)
pair-long (x ∷ xs) (r ∷ rs) h = ap suc (pair-long xs rs (omega arith))

module _ (m : Machine) where
  pub rows-long : length (staying m) ≡ m.stay
  rows-long = length-take-le m.stay (rowsIn m.kept) (omega (arith, grid-long m.kept, m.room))

  names-long : length (take m.found m.names) ≡ m.found
  names-long = length-take-le m.found m.names (omega (arith, m.named, m.room))

  rows-of-values : length (take m.found (rowsIn m.values)) ≡ m.found
  rows-of-values = length-take-le m.found (rowsIn m.values) (omega (arith, grid-long m.values, m.room))

  pub values-long : length (bound m) ≡ m.found
  values-long = pair-long (take m.found m.names) (take m.found (rowsIn m.values)) (names-long ∙ sym rows-of-values) ∙ names-long

  module _ (cols : List (Atom ℕ)) where
    pub line-at : (i : ℕ) → i < m.stay
        → get_or (map (λ r. is_scalar (factors cols r)) (staying m)) i (is_scalar (factors cols [])) ≡ is_scalar (factors cols (get_or (rowsIn m.kept) i []))
    line-at i h =
        get_or-map (λ r. is_scalar (factors cols r)) (staying m) i []
        ∙ ap (λ (r : Row). is_scalar (factors cols r)) (get_or-take m.stay (rowsIn m.kept) i [] h)

    pub value-at : (i : ℕ) → i < m.found
        → get_or (map (boundBy cols) (bound m)) i (boundBy cols (0 gets [])) ≡ boundBy cols (get_or m.names i 0 gets get_or (rowsIn m.values) i [])
    value-at i h =
        get_or-map (boundBy cols) (bound m) i (0 gets [])
        ∙ ap (boundBy cols) (pair-at (take m.found m.names) (take m.found (rowsIn m.values)) i (omega (arith, names-long)) (omega (arith, rows-of-values))
        ∙ ap₂ ◌gets◌ (get_or-take m.found m.names i 0 h) (get_or-take m.found (rowsIn m.values) i [] h))

-- ══ The answer ══

few-all : {A B : Type 0} (f : B → List Rec) (g : A → B) (xs : List A) → ((x : A) → length (f (g x)) ≤ 50) → length (collect f (map g xs)) ≤ 50 * length xs
unfolding collect
few-all f g [] h = omega arith
few-all f g (x ∷ xs) h = omega (arith, length-append (f (g x)) (collect f (map g xs)), h x, few-all f g xs h)

-- records at the front of a buffer
put-over : (d d' : List ℕ) (rs : List Rec) → d' ≡ sets d 0 (words rs) → length rs ≤ 2048 → 8192 ≤ length d → d' ≡ over (words rs) d
unfolding over
put-over d d' rs h l k = h ∙ sets-eq (words rs) d 0 (omega (arith, words-length rs)) ∙ ap (λ (j : ℕ). words rs ++ drop j d) (zero-add (length (words rs)))

module _ (k : Columns) where
  line-few : (r : Row) → length (writeCon (is_scalar (factors (colsIn k) r))) ≤ 50
  unfolding sizeCon size
  line-few r = omega (arith, size-con (is_scalar (factors (colsIn k) r)), row-few k r)

  value-few : (v : Value ℕ) → length (writeBinding (boundBy (colsIn k) v)) ≤ 50
  unfolding sizeBinding size boundBy
  value-few (x gets r) = omega (arith, size-binding (boundBy (colsIn k) (x gets r)), row-few k r)

  module _ (w w' : Writer) (z : w.at ≡ 0) (room : 8192 ≤ length w.words.now) where
    left-answered : (rows : List Row) (vs : List (Value ℕ)) → 0 < length rows → length rows ≤ 24
        → Writes w w' (collect writeCon (map (λ r. is_scalar (factors (colsIn k) r)) rows))
        → Answered (got (settledBy (colsIn k) rows vs)) w.words.now w'.words.now (Ok (Left w'.at))
    unfolding settledBy eliminatedOf eliminatedWords resultAfter
    left-answered [] vs p q h = absurd (omega arith)
    left-answered (r ∷ rows) vs p q h =
        let F : Row → Con ℕ = λ r. is_scalar (factors (colsIn k) r) in
        let rs = collect writeCon (map F (r ∷ rows)) in
        let few : length rs ≤ 2048 = omega (arith, few-all writeCon F (r ∷ rows) line-few, q) in
        record {
          answer = ap someLeft (omega (arith, h.at, z, few, set-length (map F (r ∷ rows))));
          buffer = put-over w.words.now w'.words.now rs
              (h.words (omega (arith, z, few)) ∙ ap (λ (i : ℕ). sets w.words.now (i * 4) (words rs)) z) few room;
        }

    bound-answered : (vs : List (Value ℕ)) → length vs ≤ 24 → Writes w w' (collect writeBinding (map (boundBy (colsIn k)) vs))
        → Answered (got (settledBy (colsIn k) [] vs)) w.words.now w'.words.now (Ok (Bound w'.at))
    unfolding settledBy eliminatedOf eliminatedWords resultAfter
    bound-answered vs q h =
        let rs = collect writeBinding (map (boundBy (colsIn k)) vs) in
        let few : length rs ≤ 2048 = omega (arith, few-all writeBinding (boundBy (colsIn k)) vs value-few, q) in
        record {
          answer = ap allBound (omega (arith, h.at, z, few, bindings-length (map (boundBy (colsIn k)) vs)));
          buffer = put-over w.words.now w'.words.now rs
              (h.words (omega (arith, z, few)) ∙ ap (λ (i : ℕ). sets w.words.now (i * 4) (words rs)) z) few room;
        }

    -- d is the result buffer, when the writer is done with it
    module _ (m : Machine) {d : List ℕ} where
      pub lines-written : 0 < m.stay → Writes w w' (collect writeCon (map (λ r. is_scalar (factors (colsIn k) r)) (staying m))) → d ≡ w'.words.now
          → Answered (got (settledIn k m)) w.words.now d (Ok (Left w'.at))
      lines-written p h i =
          let e = rows-long m in
          rw i (left-answered (staying m) (bound m) (omega (arith, e, p)) (omega (arith, e, m.room)) h)

      pub values-written : m.stay ≡ 0 → Writes w w' (collect writeBinding (map (boundBy (colsIn k)) (bound m))) → d ≡ w'.words.now
          → Answered (got (settledIn k m)) w.words.now d (Ok (Bound w'.at))
      values-written s h i = rw (i, s) (bound-answered (bound m) (omega (arith, values-long m, m.room)) h)

pub refused-answers : (a : Got (Settled ℕ)) (d : List ℕ) (r : Refusal) → a ≡ refused (number_of r) → Answered a d d (Err r)
unfolding eliminatedOf eliminatedWords resultAfter
refused-answers a d r e = record { answer = rw e refl; buffer = rw e refl }
