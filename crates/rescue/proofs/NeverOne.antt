-- No rule refuses with 1: past the checks at entry, solving never answers 1. So it never answers 1 to what the rescue keeps.
use Rattle.std.proofs.Math.Path.{◌≡◌, refl}
use Rattle.std.proofs.Common.{ap}
use Rattle.std.specs.Prelude.{Bool, true, false, ◌&&◌, leb, length}
use mathlib.Core.List.{List, [], ◌∷◌, ◌++◌}
use Rattle.std.proofs.Math.Option.{Option, none, some}
use Prim.Native.Nat.{ℕ, zero, suc, ◌<◌, Ordering}
use native.Mathlib.Omega.{arith}
use Rattle.rules.specs.Base.{Got, got, refused, ◌>>=◌, ◌>>◌, Limits, bounded, exact, need, allow, within, sized, each, collect}
use Rattle.rules.specs.Exponents.{Exp, in_range, plus, mul, neg, sum, times, inverted, timesInverse, quotient}
use Rattle.rules.specs.Trees.{
  Open,
  var,
  quant,
  par,
  Atom,
  free,
  base,
  Factor,
  ◌↑◌,
  Product,
  Names,
  Ty,
  opened,
  basic,
  dim,
  fn,
  struct,
  list,
  Tys,
  nil,
  cons,
  Fields,
  noFields,
  field,
  Con,
  equal,
  isDim,
  is_scalar,
  hasField,
  Binding,
  ◌≔◌,
  orderAtom,
  opensCon,
}
use Rattle.rules.specs.Views.{productOf, asVar}
use Rattle.rules.specs.Names.{Table, table_of, numbersOf, lentTable}
use Rattle.rules.specs.Contents.{unmixed}
use Rattle.rules.specs.Products.{inverse, mergeOne, merge, multiply, divide, raise, single}
use Rattle.rules.specs.Replacing.{
  Look,
  asProduct,
  replaceFactors,
  replaceProduct,
  replaceDim,
  replaceTy,
  replaceTys,
  replaceFields,
  replaceCon,
  replaceBinding,
  bindings,
}
use Rattle.rules.specs.Rounds.{
  Step,
  bind,
  split,
  done,
  stuck,
  State,
  dimensions,
  by_kind,
  orTry,
  otherSide,
  firstRules,
  trySatisfy,
  taken,
  sizeState,
  depthState,
  limited,
  firstStep,
  perform,
  performed,
  round,
}
use Rattle.rules.specs.Solving.{Answer, accepted, remaining, stopped, finished, finish, after, enough, run, solve}
use Rattle.rules.specs.Calls.{lent, lentResult, lentWork, apart, refusedAfter, solvedOf, solvedSet, solveCall}
use Rattle.rules.specs.Rescue.{words_in, piecesIn, rescueGiven}
use Rattle.rescue.specs.Told.{keptBytes}
use Rattle.rescue.specs.Told.{Bytes}
use Rattle.rescue.specs.Told.{consIn}
use Rattle.rescue.proofs.Outcome.{kept-solved}

-- where it refuses, the number is over 1
pub record Over1 {A : Type 0} (m : Got A) : Type 0 where
  pub over : (n : ℕ) → m ≡ refused n → 1 < n

gives : {A : Type 0} {a : A} → Over1 (got a)
gives = record { over = λ n e. absurd (cc) }

refuses : {A : Type 0} {n : ℕ} → 1 < n → Over1 {A = A} (refused n)
refuses {n} h = record { over = λ k e. let q : n ≡ k = cc in omega arith }

next : {A B : Type 0} {m : Got A} {f : A → Got B} → Over1 m → ((a : A) → Over1 (f a)) → Over1 (m >>= f)
next {m} {f} h s = record { over = λ n e. go m refl n e }
  where
    go : (m' : Got _) → m ≡ m' → (n : ℕ) → (m' >>= f) ≡ refused n → 1 < n
    go (refused k) i n e = let q : k ≡ n = cc in omega (arith, h.over k i)
    go (got a) i n e = (s a).over n e

needed : (b : Bool) (k : ℕ) → 1 < k → Over1 (need b k)
needed true k h = gives
needed false k h = refuses h

allowed : {A : Type 0} (b : Bool) (k : ℕ) (a : A) → 1 < k → Over1 (allow b k a)
allowed true k a h = gives
allowed false k a h = refuses h

within-over : {A : Type 0} (l : Limits) (n m : ℕ) (a : A) → Over1 (within l n m a)
within-over exact n m a = gives
within-over bounded n m a = allowed (leb n m) 8 a (omega arith)

sized-over : {A : Type 0} (l : Limits) (n d : ℕ) (a : A) → Over1 (sized l n d a)
sized-over l n d a = next (within-over l n 2048 a) (λ b. within-over l d 64 b)

each_over : {A B : Type 0} (f : A → Got B) → ((a : A) → Over1 (f a)) → (xs : List A) → Over1 (each f xs)
unfolding each
each_over f h [] = gives
each_over f h (x ∷ xs) = next (h x) (λ y. next (each_over f h xs) (λ ys. gives))

-- ══ Exponents and products: 7 and 8 ══

sum_over : (l : Limits) (a b : Exp) → Over1 (sum l a b)
unfolding sum
sum_over exact a b = gives
sum_over bounded a b = allowed (in_range (plus a b)) 7 (plus a b) (omega arith)

times-over : (l : Limits) (a b : Exp) → Over1 (times l a b)
unfolding times
times-over exact a b = gives
times-over bounded a b = allowed (in_range (mul a b)) 7 (mul a b) (omega arith)

inverse-over : (l : Limits) (a : Exp) (b : Option Exp) → Over1 (timesInverse l a b)
inverse-over l a none = refuses (omega arith)
inverse-over l a (some b) = times-over l a b

quotient-over : (l : Limits) (a b : Exp) → Over1 (quotient l a b)
unfolding quotient
quotient-over l a b = inverse-over l a (inverted b)

module _ {N : Type 0} (ν : Names N) (l : Limits) where
  one-over : (a : Atom N) (e : Exp) (p : Product N) (m : Product N → Got (Product N)) → ((q : Product N) → Over1 (m q)) → (q : Product N)
      → Over1 (mergeOne ν l a e p m q)
  unfolding mergeOne
  one-over a e p m f [] = gives
  one-over a e p m f (b ↑ d ∷ q) = go (orderAtom ν a b) refl (one-over a e p m f q)
    where
      go : (o : Ordering) → orderAtom ν a b ≡ o → Over1 (mergeOne ν l a e p m q) → Over1 (mergeOne ν l a e p m (b ↑ d ∷ q))
      go Ordering.lt j r = rw (j, mergeOne) (next (f (b ↑ d ∷ q)) (λ s. gives))
      go Ordering.eq j r = rw (j, mergeOne) (next (sum_over l e d) (λ s. next (f q) (λ t. gives)))
      go Ordering.gt j r = rw (j, mergeOne) (next r (λ s. gives))

  merge-over : (p q : Product N) → Over1 (merge ν l p q)
  unfolding merge
  merge-over [] q = gives
  merge-over (a ↑ e ∷ p) q = one-over a e p _ (merge-over p) q

  multiply-over : (p q : Product N) → Over1 (multiply ν l p q)
  unfolding multiply
  multiply-over p q = next (merge-over p q) (λ r. within-over l (length r) 64 r)

  divide-over : (p q : Product N) → Over1 (divide ν l p q)
  unfolding divide
  divide-over p q = multiply-over p (inverse q)

  raise-over : (p : Product N) (k : Exp) → Over1 (raise ν l p k)
  unfolding raise
  raise-over [] k = gives
  raise-over (a ↑ e ∷ p) k = next (times-over l e k) (λ s. next (raise-over p k) (λ q. gives))

-- ══ Replacing: 6 besides ══

product-over : {N : Type 0} (t : Ty N) → Over1 (asProduct t)
unfolding asProduct
product-over (opened (var x)) = gives
product-over (opened (quant i)) = gives
product-over (opened (par x)) = refuses (omega arith)
product-over (basic b) = refuses (omega arith)
product-over (dim p) = gives
product-over (fn ps r) = refuses (omega arith)
product-over (struct n as' fs) = refuses (omega arith)
product-over (list t) = refuses (omega arith)

module _ {N : Type 0} (ν : Names N) (l : Limits) (look : Look N) where
  factors-over : (p acc : Product N) → Over1 (replaceFactors ν l look p acc)
  unfolding replaceFactors
  factors-over [] acc = gives
  factors-over (base n ↑ e ∷ p) acc = factors-over p acc
  factors-over (free o ↑ e ∷ p) acc = go (look o) refl (factors-over p)
    where
      go : (t : Option (Ty N)) → look o ≡ t → ((acc' : Product N) → Over1 (replaceFactors ν l look p acc'))
          → Over1 (replaceFactors ν l look (free o ↑ e ∷ p) acc)
      go none i r = rw (i, replaceFactors) (r acc)
      go (some t) i r =
          rw (i, replaceFactors)
          (next (product-over t) (λ d.
          next (divide-over ν l acc (free o ↑ e ∷ [])) (λ left.
          next (raise-over ν l d e) (λ more.
          next (multiply-over ν l left more) r))))

  whole-over : (p : Product N) → Over1 (replaceProduct ν l look p)
  unfolding replaceProduct
  whole-over p = factors-over p p

  dim-over : (s : Option (Open N)) (p : Product N) → Over1 (replaceDim ν l look s p)
  unfolding replaceDim
  dim-over none p = next (whole-over p) (λ q. gives)
  dim-over (some o) p = gives

  mutual
    unfolding replaceTy

    ty-over : (t : Ty N) → Over1 (replaceTy ν l look t)
    ty-over (opened o) = gives
    ty-over (basic b) = gives
    ty-over (dim p) = dim-over (single p) p
    ty-over (fn ps r) = next (tys-over ps) (λ ps'. next (ty-over r) (λ r'. gives))
    ty-over (struct n as' fs) = next (tys-over as') (λ as''. next (fields-over fs) (λ fs'. gives))
    ty-over (list t) = next (ty-over t) (λ t'. gives)

    tys-over : (ts : Tys N) → Over1 (replaceTys ν l look ts)
    tys-over nil = gives
    tys-over (cons t ts) = next (ty-over t) (λ t'. next (tys-over ts) (λ ts'. gives))

    fields-over : (fs : Fields N) → Over1 (replaceFields ν l look fs)
    fields-over noFields = gives
    fields-over (field n t fs) = next (ty-over t) (λ t'. next (fields-over fs) (λ fs'. gives))

  con-over : (c : Con N) → Over1 (replaceCon ν l look c)
  unfolding replaceCon
  con-over (equal s t) = next (ty-over s) (λ s'. next (ty-over t) (λ t'. gives))
  con-over (isDim t) = next (ty-over t) (λ t'. gives)
  con-over (is_scalar p) = next (whole-over p) (λ q. gives)
  con-over (hasField n s t) = next (ty-over s) (λ s'. next (ty-over t) (λ t'. gives))

  binding-over : (b : Binding N) → Over1 (replaceBinding ν l look b)
  unfolding replaceBinding
  binding-over (x ≔ t) = next (ty-over t) (λ t'. gives)

-- ══ A round ══

other-over : {N : Type 0} (l : Limits) (k : Exp) (f : Factor N) → Over1 (otherSide l k f)
unfolding otherSide
other-over l k (a ↑ j) = next (quotient-over l (neg j) k) (λ e. gives)

tried-over : {N : Type 0} (o : Option (Step N)) (g : Got (Step N)) → Over1 g → Over1 (orTry o g)
tried-over none g h = h
tried-over (some s) g h = gives

taken-over : {N : Type 0} (s : Step N) (c : Con N) (cs : List (Con N)) (more : Unit {0} → Got (Option (Step N × List (Con N)))) → Over1 (more tt)
    → Over1 (taken s c cs more)
unfolding taken
taken-over (bind x t) c cs more h = gives
taken-over (split new) c cs more h = gives
taken-over done c cs more h = gives
taken-over stuck c cs more h = next h (λ r. gives)

module _ {N : Type 0} (ν : Names N) (l : Limits) where
  dimensions-over : (d : Product N) (e : Option (Product N)) (x : Option N) → Over1 (dimensions ν l d e x)
  unfolding dimensions
  dimensions-over d (some e) x = next (divide-over ν l d e) (λ q. gives)
  dimensions-over d none x = gives

  kind-over : (t u : Ty N) → Over1 (by_kind ν l t u)
  unfolding by_kind
  kind-over (opened o) u = gives
  kind-over (basic b) u = gives
  kind-over (dim d) u = dimensions-over d (productOf u) (asVar u)
  kind-over (fn ps r) u = gives
  kind-over (struct n as' fs) u = gives
  kind-over (list t) u = gives

  try-over : (c : Con N) → Over1 (trySatisfy ν l c)
  unfolding trySatisfy
  try-over (equal s t) = tried-over (firstRules ν s t) (by_kind ν l s t) (kind-over s t)
  try-over (isDim t) = gives
  try-over (is_scalar []) = gives
  try-over (is_scalar (free (var x) ↑ k ∷ p)) = next (each_over (otherSide l k) (other-over l k) p) (λ q. gives)
  try-over (is_scalar (free (quant i) ↑ k ∷ p)) = gives
  try-over (is_scalar (free (par x) ↑ k ∷ p)) = gives
  try-over (is_scalar (base n ↑ k ∷ p)) = gives
  try-over (hasField n s t) = gives

  first-over : (cs : List (Con N)) → Over1 (firstStep ν l cs)
  unfolding firstStep
  first-over [] = gives
  first-over (c ∷ cs) = next (try-over c) (λ s. taken-over s c cs (λ _. firstStep ν l cs) (first-over cs))

  limited-over : (s : State N) → Over1 (limited l s)
  unfolding limited
  limited-over s = sized-over l (sizeState s) (depthState s) s

  perform-over : (bs : List (Binding N)) (s : Step N) (cs : List (Con N)) → Over1 (perform ν l bs s cs)
  unfolding perform
  perform-over bs (bind x t) cs =
      let look = bindings ν (x ≔ t ∷ []) in
      next (each_over (replaceCon ν l look) (con-over ν l look) cs) (λ cs'.
      next (each_over (replaceBinding ν l look) (binding-over ν l look) bs) (λ bs'. limited-over (record { cons = cs'; binds = bs' ++ (x ≔ t ∷ []) })))
  perform-over bs (split new) cs = limited-over (record { cons = cs ++ new; binds = bs })
  perform-over bs done cs = limited-over (record { cons = cs; binds = bs })
  perform-over bs stuck cs = gives

  performed-over : (bs : List (Binding N)) (f : Option (Step N × List (Con N))) → Over1 (performed ν l bs f)
  unfolding performed
  performed-over bs none = gives
  performed-over bs (some v) = next (perform-over bs v.0 v.1) (λ s'. gives)

  pub round-over : (s : State N) → Over1 (round ν l s)
  unfolding round
  round-over s = next (first-over s.cons) (λ f. performed-over s.binds f)

-- ══ Solving ══

-- an answer that isn't refusal 1
pub record Not1 {N : Type 0} (a : Answer N) : Type 0 where
  pub never : (k : ℕ) → a ≡ stopped 1 k → ⊥

module _ {N : Type 0} (ν : Names N) where
  finished-not-1 : (cs : List (Con N)) (k : ℕ) (s : State N) → Not1 (finished ν cs k s)
  unfolding finished
  finished-not-1 [] k s = record { never = λ j e. cc }
  finished-not-1 (c ∷ cs) k s = record { never = λ j e. cc }

  finish-not-1 : (k : ℕ) (s : State N) → Not1 (finish ν k s)
  unfolding finish
  finish-not-1 k s = finished-not-1 _ k s

  after-not-1 : (r : Got (Option (State N))) (k : ℕ) (s : State N) (more : State N → Answer N) → Over1 r → ((s' : State N) → Not1 (more s'))
      → Not1 (after ν r k s more)
  unfolding after
  after-not-1 (refused n) k s more h i = record { never = λ j e. let z : n ≡ 1 = cc in omega (arith, h.over n refl) }
  after-not-1 (got none) k s more h i = finish-not-1 k s
  after-not-1 (got (some s')) k s more h i = i s'

module _ {N : Type 0} (ν : Names N) (l : Limits) where
  pub run-not-1 : (f k : ℕ) (s : State N) → Not1 (run ν l f k s)
  unfolding run
  run-not-1 zero k s = record { never = λ j e. cc }
  run-not-1 (suc f) k s = after-not-1 ν (round ν l s) k s (λ s'. run ν l f (suc k) s') (round-over ν l s) (λ s'. run-not-1 f (suc k) s')

  -- whatever the constraints are
  pub solve-not-1 : (cs : List (Con N)) → Not1 (solve ν l cs)
  unfolding solve
  solve-not-1 cs = run-not-1 enough 0 (record { cons = cs; binds = [] })

-- ══ The call ══

lent-over : (pool table result work : List ℕ) → Over1 (lent pool table result work)
unfolding lent lentTable lentResult lentWork
lent-over pool table result work =
    let names = needed (leb 8192 (length pool) && leb 257 (length table)) 10 (omega arith) in
    next (next names (λ u. needed (leb 8192 (length result)) 10 (omega arith))) (λ u. needed (leb 16384 (length work)) 10 (omega arith))

apart-over : (t : Table) (os : List (Open ℕ)) → Over1 (apart t os)
unfolding apart
apart-over t os = needed (unmixed (numbersOf t) os) 4 (omega arith)

-- an outcome that isn't told as refusal 1
record Fair (m : Got (Answer ℕ)) : Type 0 where
  pub never : (k : ℕ) → solvedOf m ≡ refusedAfter 1 k → ⊥

answer-fair : (a : Answer ℕ) → Not1 a → Fair (got a)
unfolding solvedOf
answer-fair (accepted bs ns k) h = record { never = λ j e. cc }
answer-fair (remaining cs k) h = record { never = λ j e. cc }
answer-fair (stopped n k) h = record { never = λ j e. let z : n ≡ 1 = cc in h.never k (ap (λ (m : ℕ). stopped m k) z) }

-- a check with another number in front
checked-fair : (g : Got (Unit {0})) (m : Got (Answer ℕ)) → Over1 g → Fair m → Fair (g >> m)
unfolding solvedOf
checked-fair (got u) m h i = i
checked-fair (refused n) m h i = record { never = λ j e. let z : n ≡ 1 = cc in omega (arith, h.over n refl) }

module _ (pool table file : List ℕ) where
  -- `solve` never answers 1 to what is kept: what stays possible is 10, 4 and what the rules answer
  pub never-1 : Bytes file → (k m : ℕ) → rescueGiven pool table file k m ≡ got tt → (result work : List ℕ) (n : ℕ)
      → (solveCall pool table (words_in (keptBytes (piecesIn (table_of pool table) (words_in file)))) result work).answer ≡ refusedAfter 1 n → ⊥
  unfolding solveCall
  never-1 b k m e result work n i =
      let t = table_of pool table in
      let ps = piecesIn t (words_in file) in
      let cs = consIn ps in
      let ends = answer-fair (solve (numbersOf t) bounded cs) (solve-not-1 (numbersOf t) bounded cs) in
      let past = checked-fair (apart t (collect opensCon cs)) (got (solve (numbersOf t) bounded cs)) (apart-over t (collect opensCon cs)) ends in
      let whole : Fair (solvedSet t (words_in (keptBytes ps))) = rw (kept-solved pool table file b k m e) past in
      (checked-fair (lent pool table result work) (solvedSet t (words_in (keptBytes ps))) (lent-over pool table result work) whole).never n i
