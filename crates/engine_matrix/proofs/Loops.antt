-- A loop over columns or rows: what is done so far, and the rest, make the whole. And what stands at a place.
use Rattle.std.specs.Prelude.{◌≡◌, true, List, [], ◌∷◌, ◌++◌, map, ℕ, zero, suc, ◌+◌, ◌<◌, ◌≤◌, length, take, drop, get_or, set}
use Rattle.std.proofs.Math.Path.{refl}
use Rattle.std.proofs.Common.{
  ap,
  ◌∙◌,
  sym,
  append_assoc,
  append-nil,
  arith,
  length-drop,
  drop_of_length-le,
  take-suc-set,
  drop-cons,
  length-take-le,
  get_or-take,
  get_or-drop,
}
use Rattle.std.proofs.Math.ListN.{get_or-map}
use Rattle.std.proofs.Math.Numerals.{add-one}
use Rattle.std.proofs.Math.Decide.{dec_lt}
use Rattle.std.proofs.lemmas.List.{length-map, map-set, get_or_default, take_all}
use Rattle.rules.specs.Base.{Got, got, refused, ◌>>=◌, bounded, each}
use Rattle.rules.specs.Exponents.{Exp, nought, isZero, goodExp, sum}
use Rattle.laws.proofs.Lists.{alone}
use Rattle.exponents.specs.declared.Exponent.{Exponent}
use Rattle.exponents.specs.Answers.{expOf}
use Rattle.rules.specs.Elimination as Rows
use Rattle.rules.specs.Elimination.{plusRow}
use Rattle.engine_matrix.specs.declared.inner.parts.Row.{Row}
use Rattle.engine_matrix.specs.declared.inner.parts.Grid.{Grid}
use Rattle.engine_matrix.specs.Powers.{powersIn, AllGood}
use Rattle.engine_matrix.specs.Told.{row_in}
use Rattle.engine_matrix.specs.Grids.{rowsIn}

pub record Sofar {A B : Type 0} (f : A → Got B) (ws : List A) (j : ℕ) (outs : List B) : Type 0 where
  pub is : each f ws ≡ (each f (drop j ws) >>= λ t. got (take j outs ++ t))

module _ {A B : Type 0} (f : A → Got B) (ws : List A) where
  pub start : (outs : List B) → Sofar f ws 0 outs
  start outs = record { is = sym (alone (each f ws)) }

  module _ (j : ℕ) (d : A) (h : j < length ws) where
    this : each f (drop j ws) ≡ (f (get_or ws j d) >>= λ y. each f (drop (j + 1) ws) >>= λ t. got (y ∷ t))
    unfolding each
    this = rw (drop-cons ws j d h, add-one j) refl

    pub onward : (outs outs' : List B) (y : B) → Sofar f ws j outs → j < length outs → f (get_or ws j d) ≡ got y → outs' ≡ set outs j y
        → Sofar f ws (j + 1) outs'
    onward outs outs' y g k e i = record { is = g.is ∙ rw (this, e) (again (each f (drop (j + 1) ws))) }
      where
        kept : take (j + 1) outs' ≡ take j outs ++ (y ∷ [])
        kept = rw (add-one j, i) (take-suc-set outs j y k)

        again : (m : Got (List B)) → ((m >>= λ t. got (y ∷ t)) >>= λ t. got (take j outs ++ t)) ≡ (m >>= λ t. got (take (j + 1) outs' ++ t))
        again (got t) = ap got (sym (ap (◌++ t) kept ∙ append_assoc (take j outs) (y ∷ []) t))
        again (refused n) = refl

    pub stop : (outs : List B) (n : ℕ) → Sofar f ws j outs → f (get_or ws j d) ≡ refused n → each f ws ≡ refused n
    stop outs n g e = g.is ∙ rw (this, e) refl

  pub done : (j : ℕ) (outs : List B) → Sofar f ws j outs → length ws ≤ j → each f ws ≡ got (take j outs)
  unfolding each
  done j outs g k = g.is ∙ rw (drop_of_length-le ws {i = j} k) (ap got (append-nil (take j outs)))

  pub all-done : (j : ℕ) (outs : List B) → Sofar f ws j outs → length ws ≤ j → length outs ≤ j → each f ws ≡ got outs
  all-done j outs g k l = done j outs g k ∙ ap got (take_all j outs l)

-- a part of a list: m from s on
module _ {A : Type 0} (l : List A) (s m : ℕ) (h : s + m ≤ length l) where
  pub part-long : length (take m (drop s l)) ≡ m
  part-long = length-take-le m (drop s l) (omega (arith, length-drop s l))

  pub part_at : (i : ℕ) (d : A) → i < m → get_or (take m (drop s l)) i d ≡ get_or l (s + i) d
  part_at i d k = get_or-take m (drop s l) i d k ∙ get_or-drop s l i d

-- ══ Two rows side by side ══

abbrev pub pairUp : Rows.Row → Rows.Row → List (Exp × Exp)
pairUp [] m = []
pairUp (e ∷ r) [] = []
pairUp (e ∷ r) (d ∷ m) = (e, d) ∷ pairUp r m

pub plus-each : (r m : Rows.Row) → length r ≡ length m → plusRow r m ≡ each (λ p. sum bounded p.0 p.1) (pairUp r m)
unfolding plusRow each
plus-each [] m h = refl
plus-each (e ∷ r) [] h = absurd (omega arith)
plus-each (e ∷ r) (d ∷ m) h = rw (plus-each r m (omega arith)) refl

pub pair-length : (r m : Rows.Row) → length r ≡ length m → length (pairUp r m) ≡ length r
pair-length [] m h = refl
pair-length (e ∷ r) [] h = absurd (omega arith)
pair-length (e ∷ r) (d ∷ m) h = ap suc (pair-length r m (omega arith))

pub pair-at : (r m : Rows.Row) (j : ℕ) → length r ≡ length m → get_or (pairUp r m) j (nought, nought) ≡ (get_or r j nought, get_or m j nought)
pair-at [] [] j h = refl
pair-at [] (d ∷ m) j h = absurd (omega arith)
pair-at (e ∷ r) [] j h = absurd (omega arith)
pair-at (e ∷ r) (d ∷ m) zero h = refl
pair-at (e ∷ r) (d ∷ m) (suc j) h = pair-at r m j (omega arith)

-- ══ A place of a row ══

pub power-at : (r : Row) (j : ℕ) (d : Exponent) → j < 48 → expOf (get_or r.powers j d) ≡ get_or (row_in r) j nought
unfolding powersIn
power-at r j d h = sym (get_or-map expOf r.powers j d) ∙ get_or_default (map expOf r.powers) j (expOf d) nought (omega (arith, r.long))

pub power-set : (es : List Exponent) (j : ℕ) (e : Exponent) → powersIn (set es j e) ≡ set (powersIn es) j (expOf e)
unfolding powersIn
power-set es j e = map-set expOf es j e

pub good-set : (es : List Exponent) (j : ℕ) (e : Exponent) → AllGood es → goodExp (expOf e) ≡ true → (i : ℕ)
    → goodExp (get_or (powersIn (set es j e)) i nought) ≡ true
unfolding powersIn
good-set [] j e h k i = h i
good-set (d ∷ es) zero e h k zero = k
good-set (d ∷ es) zero e h k (suc i) = h (suc i)
good-set (d ∷ es) (suc j) e h k zero = h 0
good-set (d ∷ es) (suc j) e h k (suc i) = good-set es j e (λ n. h (suc n)) k i

pub zeros-more : (r : Rows.Row) (j : ℕ) → ((i : ℕ) → i < j → isZero (get_or r i nought) ≡ true) → isZero (get_or r j nought) ≡ true → (i : ℕ)
    → i < j + 1 → isZero (get_or r i nought) ≡ true
zeros-more r j f e i h = go (dec_lt i j)
  where
    go : Dec (i < j) → isZero (get_or r i nought) ≡ true
    go (yes k) = f i k
    go (no k) = let z : i ≡ j = omega arith in rw z e

-- ══ A place of a grid ══

pub grid-at : (g : Grid) (i : ℕ) (d : Row) → i < 24 → row_in (get_or g.rows i d) ≡ get_or (rowsIn g) i []
unfolding rowsIn
grid-at g i d h =
    sym (get_or-map row_in g.rows i d) ∙ get_or_default (map row_in g.rows) i (row_in d) [] (omega (arith, g.long, length-map g.rows row_in))

pub grid-set : (g : Grid) (i : ℕ) (r : Row) → map row_in (set g.rows i r) ≡ set (rowsIn g) i (row_in r)
unfolding rowsIn
grid-set g i r = map-set row_in g.rows i r
