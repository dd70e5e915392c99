-- A plain second engine for dimensions. Sets of equal-scalar constraints alone are laid out as rows of powers, over
-- columns in the order of factors, and eliminated row by row; the counts are limits of the call, not of the rules for rows.
use Rattle.std.specs.Prelude.{Bool, true, false, not, ◌&&◌, List, [], ◌∷◌, ◌++◌, map, ℕ, zero, suc, leb, length, get_or, set}
use Rattle.rules.specs.Base.{Got, got, refused, ◌>>=◌, ◌>>◌, need, bounded, is_yes, keep, each, collect, sum_of}
use Rattle.rules.specs.Exponents.{Exp, nought, isZero, neg, sum, times, quotient}
use Rattle.rules.specs.Trees.{
  var,
  quant,
  par,
  Atom,
  Atom-discrete,
  free,
  base,
  ◌↑◌,
  Product,
  Names,
  dim,
  Con,
  equal,
  isDim,
  is_scalar,
  hasField,
  Binding,
  ◌≔◌,
  open-dec,
  orderAtom,
  opensCon,
  sizeCon,
  sizeBinding,
}
use Rattle.rules.specs.Products.{put}
use Rattle.rules.specs.Names.{Table, table_of, numbersOf}
use Rattle.rules.specs.Contents.{sort}
use Rattle.rules.specs.Writing.{words, writeCon, writeBinding}
use Rattle.rules.specs.WellFormed.{atomOf}
use Rattle.rules.specs.Calls.{lent, shortLists, tableKept, setGiven, apart, resultAfter, workAfter, Solved, solved, unsolved, refusedAfter}

-- ══ Rows ══

-- powers, one a column; a name that doesn't occur has the power 0
abbrev pub Row : Type 0
Row = List Exp

-- a bound variable, and the row of its value
infix 75 ◌gets◌
pub data Value (N : Type 0) : Type 0 where
  ◌gets◌ : N → Row → Value N

-- 'bind x to the other factors with -j/k for each power j', k being the power in x's column c
unfoldable pub solvedFor : ℕ → Row → Got Row
solvedFor c r = each (λ j. quotient bounded (neg j) (get_or r c nought)) (set r c nought)

-- power x value
unfoldable pub timesRow : Exp → Row → Got Row
timesRow k w = each (λ j. times bounded j k) w

-- row + row
unfoldable pub plusRow : Row → Row → Got Row
plusRow [] m = got []
plusRow (e ∷ r) [] = got (e ∷ r)
plusRow (e ∷ r) (d ∷ m) = do
  s ← sum bounded e d
  t ← plusRow r m
  got (s ∷ t)

-- 'divide by variable^p, multiply by the bound dimension^p': the variable of column c, whose value is w, put into a row
unfoldable pub putInRow : ℕ → Row → Row → Got Row
putInRow c w r = timesRow (get_or r c nought) w >>= λ m. plusRow (set r c nought) m

unfoldable pub putInValue : {N : Type 0} → ℕ → Row → Value N → Got (Value N)
putInValue c w (x gets r) = putInRow c w r >>= λ s. got (x gets s)

-- ══ Elimination ══

-- what becomes of a row: 'without factors done'; 'if the first factor is variable x', x is bound, and stands in column c; else it stays
pub data Fate (N : Type 0) : Type 0 where
  gone : Fate N
  stays : Fate N
  binds : ℕ → N → Fate N

-- the rows that stay, in their order, and the values in the order in which they were found
pub record Reduced (N : Type 0) : Type 0 where
  pub left : List Row
  pub values : List (Value N)

module _ {N : Type 0} where
  -- by the first power that isn't 0
  unfoldable pub atColumn : Atom N → Fate N
  atColumn (free (var x)) = binds 0 x
  atColumn (free (quant i)) = stays
  atColumn (free (par x)) = stays
  atColumn (base n) = stays

  unfoldable pub oneFurther : Fate N → Fate N
  oneFurther gone = gone
  oneFurther stays = stays
  oneFurther (binds c x) = binds (suc c) x

  unfoldable pub fate : List (Atom N) → Row → Fate N
  fate [] r = gone
  fate (a ∷ cols) [] = gone
  fate (a ∷ cols) (e ∷ r) = elim (isZero e) [ true ↦ oneFurther (fate cols r) | false ↦ atColumn a ]

  -- a bound variable is put into 'all constraints in order, then in all older bindings in order'; then the new binding is appended
  unfoldable pub turned : Fate N → Row → List Row → List (Value N) → (List Row → List (Value N) → Got (Reduced N)) → Got (Reduced N)
  turned gone r rows vs more = more rows vs
  turned stays r rows vs more = more rows vs >>= λ d. got (record { left = r ∷ d.left; values = d.values })
  turned (binds c x) r rows vs more = do
    w ← solvedFor c r
    rows' ← each (putInRow c w) rows
    vs' ← each (putInValue c w) vs
    more rows' (vs' ++ (x gets w ∷ []))

  -- row by row, from the first; n is the number of rows that are left to do
  unfoldable pub eliminate : List (Atom N) → ℕ → List Row → List (Value N) → Got (Reduced N)
  eliminate cols zero rows vs = got (record { left = rows; values = vs })
  eliminate cols (suc n) [] vs = got (record { left = []; values = vs })
  eliminate cols (suc n) (r ∷ rows) vs = turned (fate cols r) r rows vs (λ rows' vs'. eliminate cols n rows' vs')

  -- ══ Products as rows, and back ══

  -- the factors of a row: zeros are dropped
  unfoldable pub factors : List (Atom N) → Row → Product N
  factors [] r = []
  factors (a ∷ cols) [] = []
  factors (a ∷ cols) (e ∷ r) = put a e (factors cols r)

  unfoldable pub boundBy : List (Atom N) → Value N → Binding N
  boundBy cols (x gets r) = x ≔ dim (factors cols r)

-- accepted, with the bindings; or the constraints that remain (5)
pub data Settled (N : Type 0) : Type 0 where
  settled : List (Binding N) → Settled N
  unsettled : List (Con N) → Settled N

module _ {N : Type 0} where
  unfoldable pub settledBy : List (Atom N) → List Row → List (Value N) → Settled N
  settledBy cols [] vs = settled (map (boundBy cols) vs)
  settledBy cols (r ∷ rows) vs = unsettled (map (λ r. is_scalar (factors cols r)) (r ∷ rows))

  abbrev pub isVariable : Atom N → Bool
  isVariable (free (var x)) = true
  isVariable (free (quant i)) = false
  isVariable (free (par x)) = false
  isVariable (base n) = false

  -- 'any other kind of constraint is refusal 8'
  unfoldable pub scalarOf : Con N → Got (Product N)
  scalarOf (equal s t) = refused 8
  scalarOf (isDim t) = refused 8
  scalarOf (is_scalar p) = got p
  scalarOf (hasField n s t) = refused 8

module _ {N : Type 0} (ν : Names N) where
  -- variables, parameters and base dimensions, told apart and in the order of factors
  abbrev pub atomNames : Names (Atom N)
  atomNames = record { same = Atom-discrete (open-dec ν) ν.same; order = orderAtom ν }

  -- the columns: what occurs in the products, once each
  unfoldable pub columns : List (Product N) → List (Atom N)
  columns ps = sort atomNames (collect (λ p. map atomOf p) ps)

  unfoldable pub powerIn : Product N → Atom N → Exp
  powerIn [] a = nought
  powerIn (b ↑ e ∷ p) a = elim (is_yes (atomNames.same a b)) [ true ↦ e | false ↦ powerIn p a ]

  unfoldable pub row_of : List (Atom N) → Product N → Row
  row_of cols p = map (powerIn p) cols

  -- 'at most 24 variables and 24 parameters and base dimensions'; 'more names, more than 24 rows .. is refusal 8'
  unfoldable pub fits : List (Product N) → Bool
  fits ps = leb (length ps) 24 && leb (length (keep isVariable (columns ps))) 24 && leb (length (keep (λ a. not (isVariable a)) (columns ps))) 24

  -- laid out, eliminated, read off; 7 where a power leaves the range
  unfoldable pub eliminated : List (Product N) → Got (Settled N)
  eliminated ps = do
    d ← eliminate (columns ps) (length ps) (map (row_of (columns ps)) ps) []
    got (settledBy (columns ps) d.left d.values)

-- ══ The call ══

-- as solve's answer, without the rounds: accepted, with the records of bindings; 5, with the records that remain; another refusal.
-- Bounds come from is-dimension constraints alone, so there are none
pub data Eliminated : Type 0 where
  allBound : ℕ → Eliminated
  someLeft : ℕ → Eliminated
  refusedWith : ℕ → Eliminated

pub record Elimination : Type 0 where
  pub answer : Eliminated
  pub result : List ℕ
  pub work : List ℕ

unfoldable pub eliminatedOf : Got (Settled ℕ) → Eliminated
eliminatedOf (refused n) = refusedWith n
eliminatedOf (got (settled bs)) = allBound (sum_of sizeBinding bs)
eliminatedOf (got (unsettled cs)) = someLeft (sum_of sizeCon cs)

unfoldable pub eliminatedWords : Got (Settled ℕ) → Got (List ℕ)
eliminatedWords (refused n) = refused n
eliminatedWords (got (settled bs)) = got (words (collect writeBinding bs))
eliminatedWords (got (unsettled cs)) = got (words (collect writeCon cs))

-- '01's checks at entry', as solve's: 8, 1, 4
unfoldable pub setChecked : Table → List ℕ → Got (List (Con ℕ))
setChecked t set = do
  shortLists (set ∷ [])
  tableKept t
  cs ← setGiven t set
  apart t (collect opensCon cs)
  got cs

-- then 8 where the set doesn't fit
unfoldable pub fitting : Names ℕ → List (Con ℕ) → Got (List (Product ℕ))
fitting ν cs = do
  ps ← each scalarOf cs
  need (fits ν ps) 8
  got ps

unfoldable pub eliminatedSet : Table → List ℕ → Got (Settled ℕ)
eliminatedSet t set = setChecked t set >>= λ cs. fitting (numbersOf t) cs >>= λ ps. eliminated (numbersOf t) ps

unfoldable pub eliminateCall : List ℕ → List ℕ → List ℕ → List ℕ → List ℕ → Elimination
eliminateCall pool table set result work = record {
  answer = eliminatedOf (lent pool table result work >> eliminatedSet (table_of pool table) set);
  result = resultAfter (eliminatedWords (lent pool table result work >> eliminatedSet (table_of pool table) set)) result;
  work = workAfter (lent pool table result work) work;
}

-- solve's answer, with k rounds
unfoldable pub withRounds : ℕ → Eliminated → Solved
withRounds k (allBound n) = solved n 0 k
withRounds k (someLeft n) = unsolved n k
withRounds k (refusedWith n) = refusedAfter n k
