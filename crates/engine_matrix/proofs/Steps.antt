-- What each step of a machine does to what is left to do, and what becomes of a row.
use Rattle.std.specs.Prelude.{◌≡◌, true, false, ℕ, zero, suc, ◌+◌, ◌-◌, ◌<◌, ◌≤◌, drop, get_or, set}
use Rattle.std.proofs.Math.Path.{refl, ap, sym}
use Rattle.std.proofs.Common.{ap₂, ◌∙◌, append-nil, take-suc-set, drop-cons}
use mathlib.Core.List.{List, [], ◌∷◌, ◌++◌, append_assoc}
use Rattle.std.proofs.Math.Numerals.{add-one}
use native.Mathlib.Omega.{arith}
use Rattle.std.proofs.Math.ListN.{length, take}
use Rattle.std.proofs.Math.Seq.{length-take-le}
use Rattle.rules.specs.Base.{Got, got, refused, ◌>>=◌, each}
use Rattle.rules.specs.Exponents.{Exp, nought, isZero}
use Rattle.rules.specs.Trees.{Atom}
use Rattle.engine_matrix.specs.declared.inner.parts.Grid.{Grid}
use Rattle.engine_matrix.specs.declared.inner.parts.Machine.{Machine}
use Rattle.rules.specs.Elimination.{
  Row,
  Value,
  ◌gets◌,
  solvedFor,
  putInRow,
  putInValue,
  gone,
  stays,
  binds,
  atColumn,
  oneFurther,
  fate,
  turned,
  Reduced,
  eliminate,
}
use Rattle.engine_matrix.specs.Grids.{rowsIn}
use Rattle.engine_matrix.proofs.Grids.{grid-long}
use Rattle.engine_matrix.specs.Machine.{atomsFrom, pairValues, behind, whole, staying, bound, rest, firstRow, endOf}

-- ══ One row ══

module _ (cols : List (Atom ℕ)) (n : ℕ) (r : Row) (rows kept : List Row) (vs : List (Value ℕ)) where
  whole-gone : fate cols r ≡ gone → whole cols (suc n) (r ∷ rows) kept vs ≡ whole cols n rows kept vs
  unfolding whole eliminate turned
  whole-gone e = rw e refl

  whole-stays : fate cols r ≡ stays → whole cols (suc n) (r ∷ rows) kept vs ≡ whole cols n rows (kept ++ (r ∷ [])) vs
  unfolding whole eliminate turned
  whole-stays e = rw e (go (eliminate cols n rows vs))
    where
      go : (m : Got (Reduced ℕ)) → ((m >>= λ d. behind (r ∷ []) d) >>= λ d. behind kept d) ≡ (m >>= λ d. behind (kept ++ (r ∷ [])) d)
      go (got d) = ap (λ (l : List Row). got (record { left = l; values = d.values })) (sym (append_assoc kept (r ∷ []) d.left))
      go (refused k) = refl

  module _ (c : ℕ) (x : ℕ) (e : fate cols r ≡ binds c x) where
    whole-refused : (j : ℕ) → solvedFor c r ≡ refused j → whole cols (suc n) (r ∷ rows) kept vs ≡ refused j
    unfolding whole eliminate turned
    whole-refused j f = rw (e, f) refl

    whole-refused-rows : (j : ℕ) (w : Row) → solvedFor c r ≡ got w → each (putInRow c w) rows ≡ refused j → whole cols (suc n) (r ∷ rows) kept vs ≡ refused j
    unfolding whole eliminate turned
    whole-refused-rows j w f g = rw (e, f, g) refl

    whole-refused-values : (j : ℕ) (w : Row) (rows' : List Row) → solvedFor c r ≡ got w → each (putInRow c w) rows ≡ got rows'
        → each (putInValue c w) vs ≡ refused j → whole cols (suc n) (r ∷ rows) kept vs ≡ refused j
    unfolding whole eliminate turned
    whole-refused-values j w rows' f g h = rw (e, f, g, h) refl

    whole-binds : (w : Row) (rows' : List Row) (vs' : List (Value ℕ)) → solvedFor c r ≡ got w → each (putInRow c w) rows ≡ got rows'
        → each (putInValue c w) vs ≡ got vs'
        → whole cols (suc n) (r ∷ rows) kept vs ≡ whole cols n rows' kept (vs' ++ (x gets w ∷ []))
    unfolding whole eliminate turned
    whole-binds w rows' vs' f g h = rw (e, f, g, h) refl

-- values are put into as rows are
pair_put : (c : ℕ) (w : Row) (xs : List ℕ) (rs : List Row) → length xs ≡ length rs
    → each (putInValue c w) (pairValues xs rs) ≡ (each (putInRow c w) rs >>= λ ss. got (pairValues xs ss))
unfolding each pairValues putInValue
pair_put c w [] [] h = refl
pair_put c w [] (r ∷ rs) h = absurd (omega arith)
pair_put c w (x ∷ xs) [] h = absurd (omega arith)
pair_put c w (x ∷ xs) (r ∷ rs) h = rw (pair_put c w xs rs (omega arith)) (go (putInRow c w r) (each (putInRow c w) rs))
  where
    go : (m : Got Row) (n : Got (List Row))
        → ((m >>= λ s. got (x gets s)) >>= λ y. (n >>= λ ss. got (pairValues xs ss)) >>= λ ys. got (y ∷ ys))
        ≡ ((m >>= λ y. n >>= λ ys. got (y ∷ ys)) >>= λ ss. got (pairValues (x ∷ xs) ss))
    go (got s) (got ss) = refl
    go (got s) (refused k) = refl
    go (refused k) n = refl

pair-snoc : (xs : List ℕ) (rs : List Row) (x : ℕ) (r : Row) → length xs ≡ length rs
    → pairValues (xs ++ (x ∷ [])) (rs ++ (r ∷ [])) ≡ pairValues xs rs ++ (x gets r ∷ [])
unfolding pairValues
pair-snoc [] [] x r h = refl
pair-snoc [] (s ∷ rs) x r h = absurd (omega arith)
pair-snoc (y ∷ xs) [] x r h = absurd (omega arith)
pair-snoc (y ∷ xs) (s ∷ rs) x r h = ap ((y gets s) ∷◌) (pair-snoc xs rs x r (omega arith))

-- ══ Steps of a machine ══

module _ (m : Machine) (l : 0 < m.left) where
  -- the rows behind the first
  abbrev others : List Row
  others = take (m.left - 1) (drop (m.at + 1) (rowsIn m.rows))

  is-suc : m.left ≡ suc (m.left - 1)
  is-suc = omega arith

  rows-open : take (suc (m.left - 1)) (drop m.at (rowsIn m.rows)) ≡ firstRow m ∷ others
  rows-open = rw (drop-cons (rowsIn m.rows) m.at [] (omega (arith, grid-long m.rows, m.here)), add-one m.at) refl

  opened : (cols : List (Atom ℕ)) → rest cols m ≡ whole cols (suc (m.left - 1)) (firstRow m ∷ others) (staying m) (bound m)
  unfolding rest
  opened cols =
      ap (λ (n : ℕ). whole cols n (take n (drop m.at (rowsIn m.rows))) (staying m) (bound m)) is-suc
      ∙ ap (λ (rs : List Row). whole cols (suc (m.left - 1)) rs (staying m) (bound m)) rows-open

  pub went-dropped : (cols : List (Atom ℕ)) → fate cols (firstRow m) ≡ gone
      → whole cols (m.left - 1) (take (m.left - 1) (drop (m.at + 1) (rowsIn m.rows))) (staying m) (bound m) ≡ rest cols m
  went-dropped cols e = sym (opened cols ∙ whole-gone cols (m.left - 1) (firstRow m) others (staying m) (bound m) e)

  pub went-keeping : (cols : List (Atom ℕ)) (g : Grid) (r : Row) → rowsIn g ≡ set (rowsIn m.kept) m.stay r → fate cols r ≡ stays → firstRow m ≡ r
      → whole cols (m.left - 1) (take (m.left - 1) (drop (m.at + 1) (rowsIn m.rows))) (take (m.stay + 1) (rowsIn g)) (bound m) ≡ rest cols m
  went-keeping cols g r i e f =
      let kept : take (m.stay + 1) (rowsIn g) ≡ staying m ++ (r ∷ []) =
      rw (i, add-one m.stay) (take-suc-set (rowsIn m.kept) m.stay r (omega (arith, grid-long m.kept, m.room))) in
      ap (λ (k : List Row). whole cols (m.left - 1) others k (bound m)) kept
      ∙ sym (opened cols ∙ ap (λ (x : Row). whole cols (suc (m.left - 1)) (x ∷ others) (staying m) (bound m)) f
      ∙ whole-stays cols (m.left - 1) r others (staying m) (bound m) e)

  -- a variable is bound by the first row
  module _ (cols : List (Atom ℕ)) (c x : ℕ) (e : fate cols (firstRow m) ≡ binds c x) where
    pub went-refused : (j : ℕ) → solvedFor c (firstRow m) ≡ refused j → rest cols m ≡ refused j
    went-refused j f = opened cols ∙ whole-refused cols (m.left - 1) (firstRow m) others (staying m) (bound m) c x e j f

    pub went-refused-rows : (j : ℕ) (w : Row) → solvedFor c (firstRow m) ≡ got w → each (putInRow c w) others ≡ refused j → rest cols m ≡ refused j
    went-refused-rows j w f i = opened cols ∙ whole-refused-rows cols (m.left - 1) (firstRow m) others (staying m) (bound m) c x e j w f i

    -- the names and the values, as many
    as_many : length (take m.found m.names) ≡ length (take m.found (rowsIn m.values))
    as_many =
        length-take-le m.found m.names (omega (arith, m.named, m.room))
        ∙ sym (length-take-le m.found (rowsIn m.values) (omega (arith, grid-long m.values, m.room)))

    pub went-refused-values : (k : ℕ) (w : Row) (rows' : List Row) → solvedFor c (firstRow m) ≡ got w → each (putInRow c w) others ≡ got rows'
        → each (putInRow c w) (take m.found (rowsIn m.values)) ≡ refused k → rest cols m ≡ refused k
    went-refused-values k w rows' f i j =
        opened cols
        ∙ whole-refused-values cols (m.left - 1) (firstRow m) others (staying m) (bound m) c x e k w rows' f i
        (pair_put c w (take m.found m.names) (take m.found (rowsIn m.values)) as_many
        ∙ ap (◌>>= λ ss. got (pairValues (take m.found m.names) ss)) j)

    pub went-bound : (w : Row) (rows values g : Grid) → rowsIn g ≡ set (rowsIn values) m.found w
        → solvedFor c (firstRow m) ≡ got w
        → each (putInRow c w) others ≡ got (take (m.left - 1) (rowsIn rows))
        → each (putInRow c w) (take m.found (rowsIn m.values)) ≡ got (take m.found (rowsIn values))
        → whole cols (m.left - 1) (take (m.left - 1) (rowsIn rows)) (staying m)
        (pairValues (take (m.found + 1) (set m.names m.found x)) (take (m.found + 1) (rowsIn g))) ≡ rest cols m
    went-bound w rows values g k f i j =
        let names : take (m.found + 1) (set m.names m.found x) ≡ take m.found m.names ++ (x ∷ []) =
        rw (add-one m.found) (take-suc-set m.names m.found x (omega (arith, m.named, m.room))) in
        let vals : take (m.found + 1) (rowsIn g) ≡ take m.found (rowsIn values) ++ (w ∷ []) =
        rw (k, add-one m.found) (take-suc-set (rowsIn values) m.found w (omega (arith, grid-long values, m.room))) in
        let many : length (take m.found m.names) ≡ length (take m.found (rowsIn values)) =
        length-take-le m.found m.names (omega (arith, m.named, m.room))
        ∙ sym (length-take-le m.found (rowsIn values) (omega (arith, grid-long values, m.room))) in
        let put : each (putInValue c w) (bound m) ≡ got (pairValues (take m.found m.names) (take m.found (rowsIn values))) =
        pair_put c w (take m.found m.names) (take m.found (rowsIn m.values)) as_many ∙ ap (◌>>= λ ss. got (pairValues (take m.found m.names) ss)) j in
        ap (λ (v : List (Value ℕ)). whole cols (m.left - 1) (take (m.left - 1) (rowsIn rows)) (staying m) v)
        (ap₂ pairValues names vals ∙ pair-snoc (take m.found m.names) (take m.found (rowsIn values)) x w many)
        ∙ sym (opened cols ∙ whole-binds cols (m.left - 1) (firstRow m) others (staying m) (bound m) c x e w (take (m.left - 1) (rowsIn rows))
        (pairValues (take m.found m.names) (take m.found (rowsIn values))) f i put)

-- nothing is left to do
pub at-end : (cols : List (Atom ℕ)) (m : Machine) → m.left ≡ 0 → rest cols m ≡ got (endOf m)
unfolding rest whole eliminate
at-end cols m e = rw e (ap (λ (l : List Row). got (record { left = l; values = bound m })) (append-nil (staying m)))

-- ══ What becomes of a row, by its first power that isn't 0 ══

abbrev Zeros : Row → ℕ → Type 0
Zeros r j = (i : ℕ) → i < j → isZero (get_or r i nought) ≡ true

next-zeros : (e : Exp) (r : Row) (j : ℕ) → Zeros (e ∷ r) (suc j) → Zeros r j
next-zeros e r j z i h = z (suc i) (omega arith)

pub fate-none : (v p : ℕ) (xs : List ℕ) (r : Row) → Zeros r (length xs) → length xs ≤ length r → fate (atomsFrom v p xs) r ≡ gone
unfolding atomsFrom fate oneFurther
fate-none v p [] r z h = refl
fate-none v p (x ∷ xs) [] z h = absurd (omega arith)
fate-none zero zero (x ∷ xs) (e ∷ r) z h = rw (z 0 (omega arith), fate, fate-none zero zero xs r (next-zeros e r (length xs) z) (omega arith)) refl
fate-none zero (suc p) (x ∷ xs) (e ∷ r) z h = rw (z 0 (omega arith), fate, fate-none zero p xs r (next-zeros e r (length xs) z) (omega arith)) refl
fate-none (suc v) p (x ∷ xs) (e ∷ r) z h = rw (z 0 (omega arith), fate, fate-none v p xs r (next-zeros e r (length xs) z) (omega arith)) refl

pub fate-other : (v p : ℕ) (xs : List ℕ) (r : Row) (j : ℕ) → j < length xs → length xs ≤ length r → v ≤ j → Zeros r j
    → isZero (get_or r j nought) ≡ false → fate (atomsFrom v p xs) r ≡ stays
unfolding atomsFrom fate oneFurther atColumn
fate-other v p [] r j h l k z e = absurd (omega arith)
fate-other v p (x ∷ xs) [] j h l k z e = absurd (omega arith)
fate-other zero zero (x ∷ xs) (d ∷ r) zero h l k z e = rw (e, fate) refl
fate-other zero (suc p) (x ∷ xs) (d ∷ r) zero h l k z e = rw (e, fate) refl
fate-other (suc v) p (x ∷ xs) (d ∷ r) zero h l k z e = absurd (omega arith)
fate-other zero zero (x ∷ xs) (d ∷ r) (suc j) h l k z e =
    rw (z 0 (omega arith), fate, fate-other zero zero xs r j (omega arith) (omega arith) (omega arith) (next-zeros d r j z) e) refl
fate-other zero (suc p) (x ∷ xs) (d ∷ r) (suc j) h l k z e =
    rw (z 0 (omega arith), fate, fate-other zero p xs r j (omega arith) (omega arith) (omega arith) (next-zeros d r j z) e) refl
fate-other (suc v) p (x ∷ xs) (d ∷ r) (suc j) h l k z e =
    rw (z 0 (omega arith), fate, fate-other v p xs r j (omega arith) (omega arith) (omega arith) (next-zeros d r j z) e) refl

pub fate-variable : (v p : ℕ) (xs : List ℕ) (r : Row) (j : ℕ) → j < length xs → length xs ≤ length r → j < v → Zeros r j
    → isZero (get_or r j nought) ≡ false → fate (atomsFrom v p xs) r ≡ binds j (get_or xs j 0)
unfolding atomsFrom fate oneFurther atColumn
fate-variable v p [] r j h l k z e = absurd (omega arith)
fate-variable v p (x ∷ xs) [] j h l k z e = absurd (omega arith)
fate-variable zero p (x ∷ xs) (d ∷ r) j h l k z e = absurd (omega arith)
fate-variable (suc v) p (x ∷ xs) (d ∷ r) zero h l k z e = rw (e, fate) refl
fate-variable (suc v) p (x ∷ xs) (d ∷ r) (suc j) h l k z e =
    rw (z 0 (omega arith), fate, fate-variable v p xs r j (omega arith) (omega arith) (omega arith) (next-zeros d r j z) e) refl
