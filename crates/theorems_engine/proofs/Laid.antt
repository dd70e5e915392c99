-- Products laid out as rows: the columns rise and hold every atom, so a row gives its product back.
use Rattle.std.specs.Prelude.{◌≡◌, Bool, ◌&&◌, ℕ, zero, suc, ◌+◌, ◌-◌, ◌≤◌, replicate}
use Rattle.std.proofs.Math.Path.{refl, ap, ap₂}
use Rattle.std.proofs.Common.{◌∙◌, sym, subst, inl, inr, arith}
use Rattle.std.proofs.Math.Bool.{true, false, not}
use Rattle.std.proofs.Math.Logic.{⊎_elim}
use mathlib.Core.List.{List, [], ◌∷◌, ◌++◌, map}
use Prim.Native.Nat.{Ordering}
use borrow.Author.Tests.{leb-true}
use Rattle.std.proofs.Math.Dec.{leb}
use Rattle.std.proofs.Math.ListN.{length, length-map}
use Rattle.rules.specs.Base.{Got, got, refused, ◌>>=◌, bounded, is_yes, keep, collect}
use Rattle.rules.specs.Exponents.{Exp, nought, isZero}
use Rattle.rules.specs.Trees.{Atom, Factor, ◌↑◌, Product, Names, is_scalar, orderAtom}
use Rattle.rules.specs.Products.{put}
use Rattle.rules.specs.WellFormed.{atomOf, goodProduct}
use Rattle.rules.specs.Solving.{run, solve, enough}
use Rattle.laws.specs.Lists.{Every, and_left, and_right}
use Rattle.laws.proofs.Lists.{is-no, is-yes}
use Rattle.laws.specs.Order.{Lawful, Tells}
use Rattle.laws.proofs.Order.{before_differs}
use Rattle.laws.proofs.Ranges.{nought-good, stored-good, stored-not-zero}
use Rattle.laws.specs.Sorted.{Before, Sorted}
use Rattle.laws.proofs.Sorted.{sooner}
use Rattle.laws.proofs.SortedNames.{In, in-every, of-sort, sort-rises}
use Rattle.laws.specs.GoodProducts.{goodAtom}
use Rattle.laws.proofs.GoodProducts.{GoodFactor, good-product, atom-tells}
use Rattle.rules.specs.Elimination.{
  Row,
  factors,
  atomNames,
  columns,
  powerIn,
  row_of,
  fits,
  isVariable,
  eliminate,
  Settled,
  settled,
  unsettled,
  settledBy,
  eliminated,
}
use Rattle.theorems_engine.proofs.Powers.{Good}
use Rattle.theorems_engine.proofs.Rows.{Fit, Rising, factors-kept}
use Rattle.theorems_engine.proofs.Runs.{answered, row-by-row}

-- answers that are the same except for the rounds come from the same
answered-same : {N : Type 0} (j k : ℕ) (a b : Got (Settled N)) → answered j a ≡ answered k b → a ≡ b
unfolding answered
answered-same j k (refused n) (refused m) e = ap refused (cc)
answered-same j k (refused n) (got (settled cs)) e = absurd (cc)
answered-same j k (refused n) (got (unsettled cs)) e = absurd (cc)
answered-same j k (got (settled bs)) (refused m) e = absurd (cc)
answered-same j k (got (settled bs)) (got (settled cs)) e = let z : bs ≡ cs = cc in ap (λ (l : List _). got (settled l)) z
answered-same j k (got (settled bs)) (got (unsettled cs)) e = absurd (cc)
answered-same j k (got (unsettled bs)) (refused m) e = absurd (cc)
answered-same j k (got (unsettled bs)) (got (settled cs)) e = absurd (cc)
answered-same j k (got (unsettled bs)) (got (unsettled cs)) e = let z : bs ≡ cs = cc in ap (λ (l : List _). got (unsettled l)) z

module _ {N : Type 0} (ν : Names N) where
  power-here : (a : Atom N) (e : Exp) (p : Product N) → powerIn ν (a ↑ e ∷ p) a ≡ e
  unfolding powerIn
  power-here a e p = rw (is-yes ((atomNames ν).same a a) refl, powerIn) refl

  power-there : (a b : Atom N) (e : Exp) (p : Product N) → ¬ (a ≡ b) → powerIn ν (b ↑ e ∷ p) a ≡ powerIn ν p a
  unfolding powerIn
  power-there a b e p h = rw (is-no ((atomNames ν).same a b) h, powerIn) refl

module _ {N : Type 0} (ν : Names N) (law : Lawful (orderAtom ν)) where
  absent : (a : Atom N) (p : Product N) → Before ν a p → powerIn ν p a ≡ nought
  unfolding powerIn
  absent a [] h = refl
  absent a (b ↑ e ∷ p) h = power-there ν a b e p (before_differs law a b h.0) ∙ absent a p h.1

  -- columns behind an atom don't see it
  behind : (b : Atom N) (e : Exp) (p : Product N) (cols : List (Atom N)) → Every (λ c. orderAtom ν b c ≡ Ordering.lt) cols
      → row_of ν cols (b ↑ e ∷ p) ≡ row_of ν cols p
  unfolding row_of
  behind b e p [] h = refl
  behind b e p (c ∷ cols) h = ap₂ ◌∷◌ (power-there ν c b e p (λ i. before_differs law b c h.0 (sym i))) (behind b e p cols h.1)

  abbrev Over : List (Atom N) → Product N → Type 0
  Over cols p = Every (λ f. In (atomOf f) cols) p

  further-in : (a : Atom N) (cols : List (Atom N)) (p : Product N) → Before ν a p → Over (a ∷ cols) p → Over cols p
  further-in a cols [] h k = tt
  further-in a cols (b ↑ e ∷ p) h k = (⊎_elim (λ i. absurd (before_differs law a b h.0 (sym i))) (λ i. i) k.0, further-in a cols p h.1 k.1)

  abbrev NotZero : Factor N → Type 0
  NotZero (a ↑ e) = isZero e ≡ false

  -- an atom in the first column, and one in a later column
  module _ (a b : Atom N) (e : Exp) (cols : List (Atom N)) (p : Product N) (u : Every (λ c. orderAtom ν a c ≡ Ordering.lt) cols) (s : Before ν b p)
      (o : Over (a ∷ cols) p) where
    first : isZero e ≡ false → b ≡ a → (Over cols p → factors cols (row_of ν cols p) ≡ p) → factors (a ∷ cols) (row_of ν (a ∷ cols) (b ↑ e ∷ p)) ≡ b ↑ e ∷ p
    unfolding row_of
    first z i more =
        let power : powerIn ν (b ↑ e ∷ p) a ≡ e = ap (powerIn ν (b ↑ e ∷ p)) (sym i) ∙ power-here ν b e p in
        let rest : row_of ν cols (b ↑ e ∷ p) ≡ row_of ν cols p =
        behind b e p cols (subst (λ (x : Atom N). Every (λ c. orderAtom ν x c ≡ Ordering.lt) cols) (sym i) u) in
        ap₂ (λ (x : Exp) (r : Row). factors (a ∷ cols) (x ∷ r)) power rest
        ∙ factors-kept a cols e (row_of ν cols p) z
        ∙ ap (a ↑ e ∷◌) (more (further-in a cols p (subst (λ (x : Atom N). Before ν x p) i s) o))
        ∙ ap (λ (x : Atom N). x ↑ e ∷ p) (sym i)

    later : In b cols → (Over cols (b ↑ e ∷ p) → factors cols (row_of ν cols (b ↑ e ∷ p)) ≡ b ↑ e ∷ p)
        → factors (a ∷ cols) (row_of ν (a ∷ cols) (b ↑ e ∷ p)) ≡ b ↑ e ∷ p
    unfolding row_of factors
    later i more =
        let o' : orderAtom ν a b ≡ Ordering.lt = in-every (λ c. orderAtom ν a c ≡ Ordering.lt) cols u b i in
        let before : Before ν a p = sooner ν law a b p o' s in
        ap (λ (x : Exp). factors (a ∷ cols) (x ∷ row_of ν cols (b ↑ e ∷ p))) (absent a (b ↑ e ∷ p) (o', before)) ∙ more (i, further-in a cols p before o)

  given_back : (cols : List (Atom N)) (p : Product N) → Rising ν cols → Sorted ν p → Every NotZero p → Over cols p → factors cols (row_of ν cols p) ≡ p
  unfolding factors row_of powerIn
  given_back [] [] u s z o = refl
  given_back [] (b ↑ e ∷ p) u s z o = absurd o.0
  given_back (a ∷ cols) [] u s z o = given_back cols [] u.1 tt tt tt
  given_back (a ∷ cols) (b ↑ e ∷ p) u s z o =
      ⊎_elim (λ i. first a b e cols p u.0 s.0 o.1 z.0 i (given_back cols p u.1 s.1 z.1))
      (λ i. later a b e cols p u.0 s.0 o.1 i (given_back cols (b ↑ e ∷ p) u.1 s z)) o.0

-- ══ Zeros past the columns ══

zeros-fit : (N : Type 0) (z : ℕ) → Fit {N = N} [] (replicate z nought)
zeros-fit N zero = tt
zeros-fit N (suc z) = (refl, zeros-fit N z)

module _ {N : Type 0} where
  fit-padded : (cols : List (Atom N)) (r : Row) (z : ℕ) → Fit cols r → Fit cols (r ++ replicate z nought)
  fit-padded [] [] z h = zeros-fit N z
  fit-padded [] (e ∷ r) z h = (h.0, fit-padded [] r z h.1)
  fit-padded (a ∷ cols) [] z h = absurd h
  fit-padded (a ∷ cols) (e ∷ r) z h = (h.0, fit-padded cols r z h.1)

  factors-padded : (cols : List (Atom N)) (r : Row) (z : ℕ) → Fit cols r → factors cols (r ++ replicate z nought) ≡ factors cols r
  unfolding factors
  factors-padded [] r z h = refl
  factors-padded (a ∷ cols) [] z h = absurd h
  factors-padded (a ∷ cols) (e ∷ r) z h = ap (put a e) (factors-padded cols r z h.1)

-- ══ A set of products ══

count-both : {A : Type 0} (p : A → Bool) (xs : List A) → length xs ≡ length (keep p xs) + length (keep (λ x. not (p x)) xs)
unfolding keep
count-both p [] = refl
count-both {A} p (x ∷ xs) = go (p x) refl (count-both p xs)
  where
    go : (b : Bool) → p x ≡ b → length xs ≡ length (keep p xs) + length (keep (λ x. not (p x)) xs)
        → length (x ∷ xs) ≡ length (keep p (x ∷ xs)) + length (keep (λ x. not (p x)) (x ∷ xs))
    go true e i = rw (e, keep) (omega arith)
    go false e i = rw (e, keep) (omega arith)

module _ {N : Type 0} (ν : Names N) (law : Lawful (orderAtom ν)) (held : N → Bool) (tells : Tells (λ n. held n ≡ true) ν.order)
    (ps : List (Product N)) (good : Every (λ p. goodProduct ν held 0 p ≡ true) ps) where
  abbrev cols : List (Atom N)
  cols = columns ν ps

  rising : Rising ν cols
  unfolding columns
  rising = sort-rises (atomNames ν) law (collect (λ p. map atomOf p) ps)

  power-good : (a : Atom N) (p : Product N) → Every (GoodFactor ν held 0) p → Good (powerIn ν p a)
  unfolding powerIn
  power-good a [] h = nought-good
  power-good a (b ↑ e ∷ p) h = go (is_yes ((atomNames ν).same a b)) refl (power-good a p h.1)
    where
      go : (t : Bool) → is_yes ((atomNames ν).same a b) ≡ t → Good (powerIn ν p a) → Good (powerIn ν (b ↑ e ∷ p) a)
      go true i g = rw (i, powerIn) (stored-good e h.0.1)
      go false i g = rw (i, powerIn) g

  row-fit : (cs : List (Atom N)) (p : Product N) → Every (GoodFactor ν held 0) p → Fit cs (row_of ν cs p)
  unfolding row_of
  row-fit [] p h = tt
  row-fit (a ∷ cs) p h = (power-good a p h, row-fit cs p h)

  -- ══ Every atom has its column ══

  abbrev Held : Atom N → Type 0
  Held a = goodAtom ν held 0 a ≡ true

  factors-held : (p : Product N) (xs : List (Atom N)) → Every (GoodFactor ν held 0) p → Every Held xs → Every Held (map atomOf p ++ xs)
  factors-held [] xs h k = k
  factors-held (a ↑ e ∷ p) xs h k = (h.0.0, factors-held p xs h.1 k)

  atoms-held : (qs : List (Product N)) → Every (λ p. goodProduct ν held 0 p ≡ true) qs → Every Held (collect (λ p. map atomOf p) qs)
  unfolding collect
  atoms-held [] h = tt
  atoms-held (p ∷ qs) h = factors-held p (collect (λ p. map atomOf p) qs) (good-product ν law held 0 p h.0).each (atoms-held qs h.1)

  over-one : (C : List (Atom N)) (p : Product N) (xs : List (Atom N)) → ((z : Atom N) → In z (map atomOf p ++ xs) → In z C)
      → Over ν law C p × ((z : Atom N) → In z xs → In z C)
  over-one C [] xs f = (tt, f)
  over-one C (a ↑ e ∷ p) xs f = let more = over-one C p xs (λ z i. f z (inr i)) in ((f a (inl refl), more.0), more.1)

  over-all : (C : List (Atom N)) (qs : List (Product N)) → ((z : Atom N) → In z (collect (λ p. map atomOf p) qs) → In z C) → Every (Over ν law C) qs
  unfolding collect
  over-all C [] f = tt
  over-all C (p ∷ qs) f = let o = over-one C p (collect (λ p. map atomOf p) qs) f in (o.0, over-all C qs o.1)

  columns-hold : Every (Over ν law cols) ps
  unfolding columns
  columns-hold = over-all cols ps (λ z i. of-sort (atomNames ν) Held (atom-tells ν held 0 tells) (collect (λ p. map atomOf p) ps) (atoms-held ps good) z i)

  -- ══ The rows of a set ══

  not-zero : (p : Product N) → Every (GoodFactor ν held 0) p → Every (NotZero ν law) p
  not-zero [] h = tt
  not-zero (a ↑ e ∷ p) h = (stored-not-zero e h.0.1, not-zero p h.1)

  rows_back : (qs : List (Product N)) → Every (λ p. goodProduct ν held 0 p ≡ true) qs → Every (Over ν law cols) qs
      → map (λ r. is_scalar (factors cols r)) (map (row_of ν cols) qs) ≡ map is_scalar qs
  rows_back [] h o = refl
  rows_back (p ∷ qs) h o =
      let g = good-product ν law held 0 p h.0 in
      ap₂ ◌∷◌ (ap is_scalar (given_back ν law cols p rising g.in_order (not-zero p g.each) o.0)) (rows_back qs h.1 o.1)

  rows_fit : (qs : List (Product N)) → Every (λ p. goodProduct ν held 0 p ≡ true) qs → Every (Fit cols) (map (row_of ν cols) qs)
  rows_fit [] h = tt
  rows_fit (p ∷ qs) h = (row-fit cols p (good-product ν law held 0 p h.0).each, rows_fit qs h.1)

  module _ (fit : fits ν ps ≡ true) where
    -- the three counts
    few-rows : (length ps ≤ 24) × (length cols ≤ 48)
    unfolding fits
    few-rows =
        let l = and_left (leb (length ps) 24 && leb (length (keep isVariable cols)) 24) _ fit in
        let r = leb-true (length (keep (λ a. not (isVariable a)) cols)) 24 (and_right (leb (length ps) 24 && leb (length (keep isVariable cols)) 24) _ fit) in
        let v = leb-true (length (keep isVariable cols)) 24 (and_right (leb (length ps) 24) _ l) in
        (leb-true (length ps) 24 (and_left (leb (length ps) 24) _ l), omega (arith, r, v, count-both isVariable cols))

    -- the engine's answer is the solver's, after some rounds
    pub as-solved : (k : ℕ) × (solve ν bounded (map is_scalar ps) ≡ answered k (eliminated ν ps))
    unfolding solve eliminated
    as-solved =
        let few = few-rows in
        let rows = map (row_of ν cols) ps in
        let n : length rows ≡ length ps = length-map ps (row_of ν cols) in
        let t = row-by-row ν law cols few.1 rising (length ps) enough 0 [] rows [] n (omega (arith, few.0)) tt (rows_fit ps good) tt
        (omega (arith, n, few.0)) in
        (t.0, ap (λ cs. run ν bounded enough 0 (record { cons = cs; binds = [] })) (sym (rows_back ps good columns-hold)) ∙ t.1)

    -- rows that stand for the same products, with zeros past the columns, come to the same
    pub any-rows : (rows : List Row) → length rows ≡ length ps → Every (Fit cols) rows → map (λ r. is_scalar (factors cols r)) rows ≡ map is_scalar ps
        → (eliminate cols (length ps) rows [] >>= λ d. got (settledBy cols d.left d.values)) ≡ eliminated ν ps
    unfolding solve
    any-rows rows n f e =
        let few = few-rows in
        let t = row-by-row ν law cols few.1 rising (length ps) enough 0 [] rows [] n (omega (arith, few.0)) tt f tt (omega (arith, n, few.0)) in
        answered-same t.0 as-solved.0 _ (eliminated ν ps) (sym t.1 ∙ ap (λ cs. run ν bounded enough 0 (record { cons = cs; binds = [] })) e ∙ as-solved.1)

    -- in particular the rows themselves, with zeros up to any width
    pub padded-rows : (width : ℕ)
        → (eliminate cols (length ps) (map (λ p. row_of ν cols p ++ replicate (width - length (row_of ν cols p)) nought) ps) []
        >>= λ d. got (settledBy cols d.left d.values)) ≡ eliminated ν ps
    padded-rows width =
        any-rows (map padded ps) (length-map ps padded) (all_fit ps good) (all_back ps good columns-hold)
      where
        padded : Product N → Row
        padded p = row_of ν cols p ++ replicate (width - length (row_of ν cols p)) nought

        all_fit : (qs : List (Product N)) → Every (λ p. goodProduct ν held 0 p ≡ true) qs → Every (Fit cols) (map padded qs)
        all_fit [] h = tt
        all_fit (p ∷ qs) h = (
          fit-padded cols (row_of ν cols p) (width - length (row_of ν cols p))
              (row-fit cols p (good-product ν law held 0 p h.0).each),
          all_fit qs h.1,
        )

        all_back : (qs : List (Product N)) → Every (λ p. goodProduct ν held 0 p ≡ true) qs → Every (Over ν law cols) qs
            → map (λ r. is_scalar (factors cols r)) (map padded qs) ≡ map is_scalar qs
        all_back [] h o = refl
        all_back (p ∷ qs) h o =
            let g = good-product ν law held 0 p h.0 in
            ap₂ ◌∷◌ (ap is_scalar (factors-padded cols (row_of ν cols p) (width - length (row_of ν cols p)) (row-fit cols p g.each)
            ∙ given_back ν law cols p rising g.in_order (not-zero p g.each) o.0)) (all_back qs h.1 o.1)
