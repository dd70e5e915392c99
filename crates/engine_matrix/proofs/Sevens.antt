-- Once a set was laid out, the engine refuses with 7 alone.
use Rattle.std.specs.Prelude.{◌≡◌, refl, Bool, true, false, List, [], ◌∷◌, ◌++◌, map, ℕ, zero, suc, length, get_or, set}
use Rattle.std.proofs.Math.Option.{Option, none, some}
use Rattle.rules.specs.Base.{Got, bounded, allow, each}
use Rattle.rules.specs.Exponents.{Exp, nought, neg, plus, mul, in_range, inverted, sum, times, timesInverse, quotient}
use Rattle.rules.specs.Trees.{Atom, Product, Names}
use Rattle.laws.proofs.Refusing.{Refuses, given, next, refusing}
use Rattle.rules.specs.Elimination.{
  Row,
  Value,
  ◌gets◌,
  solvedFor,
  timesRow,
  plusRow,
  putInRow,
  putInValue,
  Fate,
  gone,
  stays,
  binds,
  fate,
  turned,
  Reduced,
  eliminate,
  columns,
  row_of,
  eliminated,
}

abbrev pub Seven : {A : Type 0} → Got A → Type 0
Seven m = Refuses (λ n. n ≡ 7) m

allowed : {A : Type 0} (b : Bool) (a : A) → Seven (allow b 7 a)
allowed true a = given
allowed false a = refusing refl

each-seven : {A B : Type 0} (f : A → Got B) → ((a : A) → Seven (f a)) → (xs : List A) → Seven (each f xs)
unfolding each
each-seven f h [] = given
each-seven f h (x ∷ xs) = next (f x) _ (h x) (λ y. next (each f xs) _ (each-seven f h xs) (λ ys. given))

pub sum-seven : (a b : Exp) → Seven (sum bounded a b)
unfolding sum
sum-seven a b = allowed (in_range (plus a b)) (plus a b)

pub times-seven : (a b : Exp) → Seven (times bounded a b)
unfolding times
times-seven a b = allowed (in_range (mul a b)) (mul a b)

pub quotient-seven : (a b : Exp) → Seven (quotient bounded a b)
unfolding quotient
quotient-seven a b = go (inverted b)
  where
    go : (o : Option Exp) → Seven (timesInverse bounded a o)
    go none = refusing refl
    go (some c) = times-seven a c

plus-seven : (r m : Row) → Seven (plusRow r m)
unfolding plusRow
plus-seven [] m = given
plus-seven (e ∷ r) [] = given
plus-seven (e ∷ r) (d ∷ m) = next (sum bounded e d) _ (sum-seven e d) (λ s. next (plusRow r m) _ (plus-seven r m) (λ t. given))

put-seven : (c : ℕ) (w r : Row) → Seven (putInRow c w r)
unfolding putInRow timesRow
put-seven c w r = next (timesRow (get_or r c nought) w) _ (each-seven _ (λ j. times-seven j (get_or r c nought)) w) (λ m. plus-seven (set r c nought) m)

value-seven : {N : Type 0} (c : ℕ) (w : Row) (v : Value N) → Seven (putInValue c w v)
unfolding putInValue
value-seven c w (x gets r) = next (putInRow c w r) _ (put-seven c w r) (λ s. given)

turned-seven : {N : Type 0} (t : Fate N) (r : Row) (rows : List Row) (vs : List (Value N)) (more : List Row → List (Value N) → Got (Reduced N))
    → ((rows : List Row) (vs : List (Value N)) → Seven (more rows vs)) → Seven (turned t r rows vs more)
unfolding turned solvedFor
turned-seven gone r rows vs more h = h rows vs
turned-seven stays r rows vs more h = next (more rows vs) _ (h rows vs) (λ d. given)
turned-seven (binds c x) r rows vs more h =
    next (solvedFor c r) _ (each-seven _ (λ j. quotient-seven (neg j) (get_or r c nought)) (set r c nought))
    (λ w. next (each (putInRow c w) rows) _ (each-seven _ (put-seven c w) rows)
    (λ rows'. next (each (putInValue c w) vs) _ (each-seven _ (value-seven c w) vs) (λ vs'. h rows' (vs' ++ (x gets w ∷ [])))))

eliminate-seven : {N : Type 0} (cols : List (Atom N)) (n : ℕ) (rows : List Row) (vs : List (Value N)) → Seven (eliminate cols n rows vs)
unfolding eliminate
eliminate-seven cols zero rows vs = given
eliminate-seven cols (suc n) [] vs = given
eliminate-seven cols (suc n) (r ∷ rows) vs = turned-seven (fate cols r) r rows vs _ (λ rows' vs'. eliminate-seven cols n rows' vs')

pub eliminated-seven : {N : Type 0} (ν : Names N) (ps : List (Product N)) → Seven (eliminated ν ps)
unfolding eliminated
eliminated-seven ν ps = next (eliminate (columns ν ps) (length ps) (map (row_of ν (columns ν ps)) ps) []) _
    (eliminate-seven (columns ν ps) (length ps) (map (row_of ν (columns ν ps)) ps) []) (λ d. given)
