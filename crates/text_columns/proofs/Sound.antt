-- What is read of a sheet is well formed, over the table with all names that were entered: its names are held, factors rise, fields rise.
use Rattle.std.specs.Prelude.{◌≡◌, refl, Bool, true, false, ◌&&◌, List, [], ◌∷◌, ◌++◌, ℕ, zero, suc, ◌+◌, ◌/◌, ◌*◌, ◌≤◌, ◌<◌, leb, length}
use Rattle.std.specs.Prelude.{ℤ, pos, negsuc, nat_abs, get_or}
use Rattle.std.proofs.Common.{sym, ap, subst, ◌∙◌, arith, lt-ltb, leb-true, ltb-true, div-le_self, mul-zero}
use Rattle.std.proofs.Math.Nat.{mul-div_cancel'}
use Rattle.std.proofs.Math.ListN.{get_or-append}
use Rattle.std.proofs.Math.Option.{Option, none, some}
use Rattle.rules.specs.Base.{Got, got, refused, need, all, bounded, collect}
use Rattle.rules.specs.Calls.{listGiven, setGiven}
use Rattle.rules.specs.Exponents.{Exp, frac, top, gcd, in_range, goodExp, isZero, lowest, neg}
use Rattle.rules.specs.Trees.{Open, var, quant, par, Atom, free, base, ◌↑◌, Product, Names, Ty, opened, basic, dim, fn, struct, list, Tys, nil, cons}
use Rattle.rules.specs.Trees.{Fields, noFields, field, Con, equal, isDim, is_scalar, hasField, orderOpen, orderAtom}
use Rattle.rules.specs.Products.{put, multiply}
use Rattle.rules.specs.Names.{Bytes, Table, table_of, names_of, numbersOf, numbered, is_held}
use Rattle.rules.specs.WellFormed.{is_lt, rising, fieldNames, goodOpen, goodProduct, goodTy, goodTys, goodFields, goodCon}
use Rattle.rules.specs.Writing.{words, writeCon}
use Rattle.rules.specs.declared.Was.{Was}
use Rattle.rules.specs.Grammar.{lines_of, Parsed, read, bad, NameAt, PowerAt, FactorAt, TyAt, open_at, basicAt, dimAt, fn_at, listAt, struct_at, deepAt}
use Rattle.rules.specs.Grammar.{TysAt, nilAt, consAt, FieldsAt, noneAt, field_at, ConAt, equalAt, isDimAt, isScalarAt, hasFieldAt, line}
use Rattle.rules.specs.TextReading.{Sofar, Told, told, refusedAt, Step, onward, give, placed, counted, enterName, entered, named, openNamed, atomNamed}
use Rattle.rules.specs.TextReading.{powerOf, namesSofar, multiplied, factorsOf, productOf, rises, ty_of, tys_of, fields_of, conOf, meant, lineRead}
use Rattle.rules.specs.TextReading.{Sheet, sheet, refusedIn, with, nextLine, lines_read, unread, sheetRead, ◌>>=◌, ◌>>◌}
use Rattle.laws.proofs.ByteOrder.{atom-lawful, numbered-lawful}
use Rattle.laws.proofs.Gcd.{is-gcd, coprime}
use Rattle.laws.specs.GoodProducts.{goodAtom}
use Rattle.laws.proofs.GoodProducts.{GoodFactor, good-product, product-good, multiply_good}
use Rattle.laws.specs.Lists.{Every, and_left, and_right}
use Rattle.laws.proofs.Lists.{and_both}
use Rattle.laws.specs.NameTable.{Good}
use Rattle.laws.proofs.NameTable.{held-is, good-laid, length-names}
use Rattle.laws.specs.Order.{Lawful}
use Rattle.laws.proofs.Ranges.{is-good, neg-good, is-stored}
use Rattle.laws.proofs.ReadLists.{read_set, words_back}
use Rattle.laws.specs.Sorted.{Sorted, Before}
use Rattle.laws.proofs.Value.{Gives, gives, refuses, allowed}
use Rattle.text_columns.proofs.Columns.{Ends, OpenIn, AtomIn, FactorIn, DimIn, TyIn, TysIn, FieldsIn, ConIn, LineIn, line-in}
use Rattle.text_laws.proofs.Entry.{entry}
use Rattle.text_columns.proofs.Left.{read-writable}
use Rattle.text_columns.proofs.Told.{withRecords, withName}

-- ══ Later on more names are held ══

abbrev tableAt : Sofar → Table
tableAt s = table_of s.pool s.table

abbrev has : Sofar → ℕ → Type 0
has s x = is_held (tableAt s) x ≡ true

-- the names that were held are held under the same numbers
record Later (s u : Sofar) : Type 0 where
  good : Good u.pool u.table
  more : (i : ℕ) → has s i → has u i
  same : (i : ℕ) → has s i → get_or (names_of (tableAt u)) i [] ≡ get_or (names_of (tableAt s)) i []

later-on : {s u v : Sofar} → Later s u → Later u v → Later s v
later-on l k = record { good = k.good; more = λ i h. k.more i (l.more i h); same = λ i h. k.same i (l.more i h) ∙ l.same i h }

as-it-is : (s : Sofar) → Good s.pool s.table → Later s s
as-it-is s g = record { good = g; more = λ i h. h; same = λ i h. refl }

-- what a step told: a value of which Q holds, later on
data Does {A : Type 0} (s : Sofar) (Q : Sofar → A → Type 0) : Told A → Type 0 where
  does : (a : A) (u : Sofar) → Later s u → Q u a → Does s Q (told a u)
  stops : (n c : ℕ) → Does s Q (refusedAt n c)

from : {A : Type 0} {P : Sofar → A → Type 0} {s u : Sofar} → Later s u → {x : Told A} → Does u P x → Does s P x
from l (does a v k q) = does a v (later-on l k) q
from l (stops n c) = stops n c

after : {A B : Type 0} {Q : Sofar → A → Type 0} {P : Sofar → B → Type 0} {s : Sofar} (x : Told A) (f : A → Step B) → Does s Q x
    → ((a : A) (u : Sofar) → Later s u → Q u a → Does u P (f a u)) → Does s P (onward x f)
after x f (does a u l q) k = from l (k a u l q)
after x f (stops n c) k = stops n c

weaken : {A : Type 0} {Q P : Sofar → A → Type 0} {s : Sofar} (x : Told A) → Does s Q x → ((a : A) (u : Sofar) → Later s u → Q u a → P u a) → Does s P x
weaken x (does a u l q) k = does a u l (k a u l q)
weaken x (stops n c) k = stops n c

tells : {A : Type 0} {Q : Sofar → A → Type 0} {s : Sofar} (a : A) → Good s.pool s.table → Q s a → Does s Q (told a s)
tells {s} a g q = does a s (as-it-is s g) q

abbrev Any : {A : Type 0} → Sofar → A → Type 0
Any u a = Unit {0}

-- ══ Names, records, powers ══

entry-later : (s : Sofar) (n : Bytes) (w : Was) → Good s.pool s.table → Later s (withName s (enterName s.pool s.table n) w)
entry-later s n w g =
    let e = entry g n in
    let below : (i : ℕ) → has s i → i < get_or s.table 0 0 = λ i h. ltb-true i (get_or s.table 0 0) (sym (held-is s.pool s.table i) ∙ h) in
    record {
      good = e.good;
      more = λ i h. held-is (enterName s.pool s.table n).pool (enterName s.pool s.table n).table i
          ∙ lt-ltb i (get_or (enterName s.pool s.table n).table 0 0) (omega (arith, below i h, e.held));
      same = λ i h. ap (λ (ns : List Bytes). get_or ns i []) e.names
          ∙ get_or-append (names_of (tableAt s)) e.more [] i (omega (arith, below i h, length-names (good-laid g)));
    }

named-does : (n : NameAt) (s : Sofar) → Good s.pool s.table → Does s has (named n s)
unfolding named
named-does n s g = go (enterName s.pool s.table n.bytes).answer refl
  where
    go : (a : Got (ℕ × Was)) → (enterName s.pool s.table n.bytes).answer ≡ a → Does s has (entered n.column s (enterName s.pool s.table n.bytes) a)
    go (refused k) e = stops k n.column
    go (got r) e =
        let x = entry g n.bytes in
        does r.0 (withName s (enterName s.pool s.table n.bytes) r.1) (entry-later s n.bytes r.1 g)
        (held-is (enterName s.pool s.table n.bytes).pool (enterName s.pool s.table n.bytes).table r.0
        ∙ lt-ltb r.0 (get_or (enterName s.pool s.table n.bytes).table 0 0) (x.number r.0 r.1 e).0)

counted-does : (k c : ℕ) (s : Sofar) → Good s.pool s.table → Does s Any (counted k c s)
unfolding counted
counted-does k c s g = go (leb (s.records + k) 2048) refl
  where
    go : (b : Bool) → leb (s.records + k) 2048 ≡ b → Does s Any (counted k c s)
    go true q = rw (q, counted) (does tt (withRecords s k) (record { good = g; more = λ i h. h; same = λ i h. refl }) tt)
    go false q = rw (q, counted) (stops 8 c)

placed-does : {A : Type 0} {Q : Sofar → A → Type 0} (c : ℕ) (m : Got A) (s : Sofar) → Good s.pool s.table → Gives m (Q s) → Does s Q (placed c m s)
placed-does c (got a) s g h = tells a g (h.holds a refl)
placed-does c (refused n) s g h = stops n c

module _ (n d : ℕ) (h : n ≤ top) (k : 0 < d) (l : d ≤ top) where
  over-gcd : (q : ℕ) → gcd n d * q ≡ d → 0 < q
  over-gcd zero e = omega (arith, mul-zero (gcd n d))
  over-gcd (suc q) e = omega arith

  positive-good : goodExp (frac (pos (n / gcd n d)) (d / gcd n d)) ≡ true
  positive-good = is-good (pos (n / gcd n d)) (d / gcd n d) (record {
    num = omega (arith, div-le_self n (gcd n d));
    positive = over-gcd (d / gcd n d) (mul-div_cancel' (gcd n d) (is-gcd n d).right);
    den = omega (arith, div-le_self d (gcd n d));
    coprime = coprime n d k;
  })

lowest-good : (n : ℤ) (d : ℕ) → in_range (frac n d) ≡ true → goodExp (lowest n d) ≡ true
unfolding lowest in_range neg
lowest-good n d h = go n (leb-true (nat_abs n) top (and_left (leb (nat_abs n) top) _ two)) (leb-true 1 d (and_right (leb (nat_abs n) top) _ two))
    (leb-true d top (and_right (leb (nat_abs n) top && leb 1 d) _ h))
  where
    two : (leb (nat_abs n) top && leb 1 d) ≡ true
    two = and_left (leb (nat_abs n) top && leb 1 d) _ h

    go : (n : ℤ) → nat_abs n ≤ top → 1 ≤ d → d ≤ top → goodExp (lowest n d) ≡ true
    go (pos m) a b c = positive-good m d a (omega (arith, b)) c
    go (negsuc m) a b c = neg-good (frac (pos (suc m / gcd (suc m) d)) (d / gcd (suc m) d)) (positive-good (suc m) d a (omega (arith, b)) c)

power-good : (p : PowerAt) → Gives (powerOf p) (λ e. goodExp e ≡ true)
unfolding powerOf
power-good p =
    allowed (in_range (frac p.numerator p.denominator)) 7 (lowest p.numerator p.denominator) (λ e. lowest-good p.numerator p.denominator e)

-- ══ Dimensions ══

abbrev namesAt : Sofar → Names ℕ
namesAt s = numbersOf (tableAt s)

abbrev heldAt : Sofar → ℕ → Bool
heldAt s = is_held (tableAt s)

law : (s : Sofar) → Lawful (orderAtom (namesAt s))
law s = atom-lawful (namesAt s) (numbered-lawful (names_of (tableAt s)))

abbrev AtomGood : Sofar → Atom ℕ → Type 0
AtomGood s a = goodAtom (namesAt s) (heldAt s) 0 a ≡ true

abbrev OpenGood : Sofar → Open ℕ → Type 0
OpenGood s o = goodOpen (namesAt s) (heldAt s) 0 o ≡ true

abbrev ProductGood : Sofar → Product ℕ → Type 0
ProductGood s p = goodProduct (namesAt s) (heldAt s) 0 p ≡ true

module _ {u v : Sofar} (l : Later u v) where
  order-later : (i j : ℕ) → has u i → has u j → (namesAt v).order i j ≡ (namesAt u).order i j
  unfolding numbered
  order-later i j h k = rw (l.same i h, l.same j k)

  open-order : (a b : Open ℕ) → OpenGood u a → OpenGood u b → orderOpen (namesAt v) a b ≡ orderOpen (namesAt u) a b
  unfolding orderOpen goodOpen
  open-order (var a) (var b) h k = order-later a b h k
  open-order (var a) (quant j) h k = refl
  open-order (var a) (par b) h k = refl
  open-order (quant i) (var b) h k = refl
  open-order (quant i) (quant j) h k = refl
  open-order (quant i) (par b) h k = refl
  open-order (par a) (var b) h k = refl
  open-order (par a) (quant j) h k = refl
  open-order (par a) (par b) h k = order-later a b h k

  atom-order : (a b : Atom ℕ) → AtomGood u a → AtomGood u b → orderAtom (namesAt v) a b ≡ orderAtom (namesAt u) a b
  unfolding orderAtom
  atom-order (free a) (free b) h k = open-order a b h k
  atom-order (free a) (base n) h k = refl
  atom-order (base m) (free b) h k = refl
  atom-order (base m) (base n) h k = order-later m n h k

  open-later : (o : Open ℕ) → OpenGood u o → OpenGood v o
  unfolding goodOpen
  open-later (var x) h = l.more x h
  open-later (quant i) h = h
  open-later (par x) h = l.more x h

  atom-later : (a : Atom ℕ) → AtomGood u a → AtomGood v a
  atom-later (free o) h = open-later o h
  atom-later (base x) h = l.more x h

  each-later : (p : Product ℕ) → Every (GoodFactor (namesAt u) (heldAt u) 0) p → Every (GoodFactor (namesAt v) (heldAt v) 0) p
  each-later [] h = tt
  each-later (a ↑ e ∷ p) h = ((atom-later a h.0.0, h.0.1), each-later p h.1)

  before-later : (a : Atom ℕ) (p : Product ℕ) → AtomGood u a → Every (GoodFactor (namesAt u) (heldAt u) 0) p → Before (namesAt u) a p → Before (namesAt v) a p
  before-later a [] g h k = tt
  before-later a (b ↑ e ∷ p) g h k = (atom-order a b g h.0.0 ∙ k.0, before-later a p g h.1 k.1)

  sorted-later : (p : Product ℕ) → Every (GoodFactor (namesAt u) (heldAt u) 0) p → Sorted (namesAt u) p → Sorted (namesAt v) p
  sorted-later [] h k = tt
  sorted-later (a ↑ e ∷ p) h k = (before-later a p h.0.0 h.1 k.0, sorted-later p h.1 k.1)

  product-later : (p : Product ℕ) → ProductGood u p → ProductGood v p
  product-later p h =
      let g = good-product (namesAt u) (law u) (heldAt u) 0 p h in
      product-good (namesAt v) (law v) (heldAt v) 0 p (record { in_order = sorted-later p g.each g.in_order; each = each-later p g.each; few = g.few })

module _ (e : ℕ) where
  open-does : (o : Open NameAt) → OpenIn e o → (s : Sofar) → Good s.pool s.table → Does s OpenGood (openNamed o s)
  unfolding goodOpen
  open-does (var n) h s g = after (named n s) (λ x. give (var x)) (named-does n s g) (λ x u l k. tells (var x) l.good k)
  open-does (quant i) h s g = absurd h
  open-does (par n) h s g = after (named n s) (λ x. give (par x)) (named-does n s g) (λ x u l k. tells (par x) l.good k)

  atom-does : (a : Atom NameAt) → AtomIn e a → (s : Sofar) → Good s.pool s.table → Does s AtomGood (atomNamed a s)
  atom-does (free o) h s g = after (openNamed o s) (λ x. give (free x)) (open-does o h s g) (λ x u l k. tells (free x) l.good k)
  atom-does (base n) h s g = after (named n s) (λ x. give (base x)) (named-does n s g) (λ x u l k. tells (base x) l.good k)

  none-good : (s : Sofar) → ProductGood s []
  none-good s = product-good (namesAt s) (law s) (heldAt s) 0 [] (record { in_order = tt; each = tt; few = omega arith })

  put-good : (s : Sofar) (a : Atom ℕ) (k : Exp) → AtomGood s a → goodExp k ≡ true → ProductGood s (put a k [])
  put-good s a k h g = go (isZero k) refl
    where
      go : (b : Bool) → isZero k ≡ b → ProductGood s (put a k [])
      go true q = rw (q, put) (none-good s)
      go false q = rw (q, put) (product-good (namesAt s) (law s) (heldAt s) 0 (a ↑ k ∷ [])
          (record { in_order = (tt, tt); each = ((h, is-stored k q g), tt); few = omega arith }))

  multiplied-does : (f : FactorAt) → FactorIn e f → (p : Product ℕ) (s : Sofar) → Good s.pool s.table → ProductGood s p
      → Does s ProductGood (multiplied p f s)
  unfolding multiplied
  multiplied-does f h p s g k =
      after (atomNamed f.atom s) (λ a. placed f.power.column (powerOf f.power) >>= λ x z. placed f.column (multiply (namesSofar z) bounded p (put a x [])) z)
      (atom-does f.atom h.atom s g)
      (λ a u l ha. after (placed f.power.column (powerOf f.power) u) (λ x z. placed f.column (multiply (namesSofar z) bounded p (put a x [])) z)
      (placed-does {Q = λ u x. goodExp x ≡ true} f.power.column (powerOf f.power) u l.good (power-good f.power))
      (λ x v m hx. placed-does f.column (multiply (namesSofar v) bounded p (put a x [])) v m.good
      (multiply_good (namesAt v) (law v) (heldAt v) 0 p (put a x []) (product-later (later-on l m) p k) (put-good v a x (atom-later m a ha) hx))))

  factors-does : (fs : List FactorAt) → Every (FactorIn e) fs → (p : Product ℕ) (s : Sofar) → Good s.pool s.table → ProductGood s p
      → Does s ProductGood (factorsOf fs p s)
  unfolding factorsOf
  factors-does [] h p s g k = tells p g k
  factors-does (f ∷ fs) h p s g k =
      after (multiplied p f s) (λ q. factorsOf fs q) (multiplied-does f h.0 p s g k) (λ q u l hq. factors-does fs h.1 q u l.good hq)

  product-does : (c : ℕ) (fs : List FactorAt) (d : ℕ) → DimIn e c fs d → (s : Sofar) → Good s.pool s.table → Does s ProductGood (productOf c fs d s)
  unfolding productOf
  product-does c fs d h s g =
      after (counted 1 c s) (λ u. factorsOf fs [] >>= λ p. counted (length p) d >> give p) (counted-does 1 c s g)
      (λ a u l q. after (factorsOf fs [] u) (λ p. counted (length p) d >> give p) (factors-does fs h.inside [] u l.good (none-good u))
      (λ p v m hp. after (counted (length p) d v) (λ z. give p) (counted-does (length p) d v m.good)
      (λ b w n q. tells p n.good (product-later n p hp))))

-- ══ Types ══

abbrev TypeGood : Sofar → Ty ℕ → Type 0
TypeGood u t = (v : Sofar) → Later u v → goodTy (namesAt v) (heldAt v) 0 t ≡ true

abbrev TypesGood : Sofar → Tys ℕ → Type 0
TypesGood u ts = (v : Sofar) → Later u v → goodTys (namesAt v) (heldAt v) 0 ts ≡ true

-- names of fields, behind that of the field before
abbrev behind : Option ℕ → List ℕ → List ℕ
behind none xs = xs
behind (some y) xs = y ∷ xs

abbrev HasBefore : Sofar → Option ℕ → Type 0
HasBefore s none = Unit {0}
HasBefore s (some y) = has s y

abbrev FieldsGood : Option ℕ → Sofar → Fields ℕ → Type 0
FieldsGood y u fs = (v : Sofar) → Later u v
    → (goodFields (namesAt v) (heldAt v) 0 fs ≡ true) × (rising (namesAt v).order (behind y (fieldNames fs)) ≡ true)

-- the name before comes before this one
abbrev RoseAt : Option ℕ → ℕ → Sofar → Type 0
RoseAt none x s = Unit {0}
RoseAt (some y) x s = is_lt ((namesAt s).order y x) ≡ true

rose-later : (y : Option ℕ) (x : ℕ) (u v : Sofar) → Later u v → HasBefore u y → has u x → RoseAt y x u → RoseAt y x v
rose-later none x u v l h k r = tt
rose-later (some y) x u v l h k r = ap is_lt (order-later l y x h k) ∙ r

before-later' : (y : Option ℕ) (u v : Sofar) → Later u v → HasBefore u y → HasBefore v y
before-later' none u v l h = tt
before-later' (some y) u v l h = l.more y h

rises-does : (y : Option ℕ) (x c : ℕ) (s : Sofar) → Good s.pool s.table → HasBefore s y → has s x → Does s (λ u b. RoseAt y x u) (rises y x c s)
rises-does none x c s g h k = tells tt g tt
rises-does (some y) x c s g h k =
    placed-does {Q = λ u b. RoseAt (some y) x u} c (need (is_lt ((namesSofar s).order y x)) 1) s g (passed (is_lt ((namesSofar s).order y x)))
  where
    passed : (b : Bool) → Gives (need b 1) (λ u. b ≡ true)
    passed true = gives refl
    passed false = refuses

rising-behind : (s : Sofar) (y : Option ℕ) (x : ℕ) (xs : List ℕ) → RoseAt y x s → rising (namesAt s).order (x ∷ xs) ≡ true
    → rising (namesAt s).order (behind y (x ∷ xs)) ≡ true
unfolding rising
rising-behind s none x xs r h = h
rising-behind s (some y) x xs r h = and_both r h

module _ (e : ℕ) where
  mutual
    unfolding ty_of TyIn goodTy rising

    ty-does : (t : TyAt) → TyIn e t → (s : Sofar) → Good s.pool s.table → Does s TypeGood (ty_of t s)
    ty-does (open_at c o) h s g =
        after ((counted 1 c >> openNamed o) s) (λ x. give (opened x))
        (after (counted 1 c s) (λ u. openNamed o) (counted-does 1 c s g) (λ a u l q. open-does e o h.1 u l.good))
        (λ x u l k. tells (opened x) l.good (λ v m. open-later m x k))
    ty-does (basicAt c b) h s g = after (counted 1 c s) (λ u. give (basic b)) (counted-does 1 c s g) (λ a u l q. tells (basic b) l.good (λ v m. refl))
    ty-does (dimAt c fs d) h s g =
        after (productOf c fs d s) (λ p. give (dim p)) (product-does e c fs d h s g) (λ p u l k. tells (dim p) l.good (λ v m. product-later m p k))
    ty-does (fn_at c ps r) h s g =
        after ((counted 1 c >> tys_of ps) s) (λ ts. ty_of r >>= λ t. give (fn ts t))
        (after (counted 1 c s) (λ u. tys_of ps) (counted-does 1 c s g) (λ a u l q. tys-does ps h.1 u l.good))
        (λ ts u l hs. after (ty_of r u) (λ t. give (fn ts t)) (ty-does r h.2 u l.good)
        (λ t v m ht. tells (fn ts t) m.good (λ w n. and_both (hs w (later-on m n)) (ht w n))))
    ty-does (listAt c t) h s g =
        after ((counted 1 c >> ty_of t) s) (λ u. give (list u))
        (after (counted 1 c s) (λ u. ty_of t) (counted-does 1 c s g) (λ a u l q. ty-does t h.1 u l.good))
        (λ y u l k. tells (list y) l.good k)
    ty-does (struct_at c n ts fs) h s g =
        after ((counted 1 c >> named n) s) (λ x. tys_of ts >>= λ us. fields_of fs none >>= λ gs. give (struct x us gs))
        (after (counted 1 c s) (λ u. named n) (counted-does 1 c s g) (λ a u l q. named-does n u l.good))
        (λ x u l hx. after (tys_of ts u) (λ us. fields_of fs none >>= λ gs. give (struct x us gs)) (tys-does ts h.2 u l.good)
        (λ us v m hs. after (fields_of fs none v) (λ gs. give (struct x us gs)) (fields-does fs none h.3 v m.good tt)
        (λ gs w n hg. tells (struct x us gs) n.good
        (λ z k. and_both (and_both (and_both (k.more x (n.more x (m.more x hx))) (hs z (later-on n k))) (hg z k).0) (hg z k).1))))
    ty-does (deepAt c) h s g = stops 1 c

    tys-does : (ts : TysAt) → TysIn e ts → (s : Sofar) → Good s.pool s.table → Does s TypesGood (tys_of ts s)
    tys-does nilAt h s g = tells nil g (λ v l. refl)
    tys-does (consAt t ts) h s g =
        after (ty_of t s) (λ u. tys_of ts >>= λ us. give (cons u us)) (ty-does t h.0 s g)
        (λ y u l k. after (tys_of ts u) (λ us. give (cons y us)) (tys-does ts h.1 u l.good)
        (λ us v m hs. tells (cons y us) m.good (λ w n. and_both (k w (later-on m n)) (hs w n))))

    fields-does : (fs : FieldsAt) (y : Option ℕ) → FieldsIn e fs → (s : Sofar) → Good s.pool s.table → HasBefore s y
        → Does s (FieldsGood y) (fields_of fs y s)
    fields-does noneAt y h s g b = tells noFields g (λ v l. (refl, alone v y))
      where
        alone : (v : Sofar) (y : Option ℕ) → rising (namesAt v).order (behind y []) ≡ true
        alone v none = refl
        alone v (some y) = refl
    fields-does (field_at n t fs) y h s g b =
        after (named n s) (λ x. rises y x n.column >> counted 1 n.column >> ty_of t >>= λ u. fields_of fs (some x) >>= λ gs. give (field x u gs))
        (named-does n s g)
        (λ x u l hx. after {Q = λ v a. ((z : Sofar) → Later v z → RoseAt y x z) × TypeGood v a}
        ((rises y x n.column >> counted 1 n.column >> ty_of t) u) (λ a. fields_of fs (some x) >>= λ gs. give (field x a gs))
        (after {Q = λ v a. RoseAt y x v} ((rises y x n.column >> counted 1 n.column) u) (λ a. ty_of t)
        (after {Q = λ v a. RoseAt y x v} (rises y x n.column u) (λ a. counted 1 n.column)
        (rises-does y x n.column u l.good (before-later' y s u l b) hx)
        (λ a v m r. weaken (counted 1 n.column v) (counted-does 1 n.column v m.good)
        (λ z w k q. rose-later y x v w k (before-later' y s v (later-on l m) b) (m.more x hx) r)))
        (λ a v m r. weaken (ty_of t v) (ty-does t h.1 v m.good)
        (λ z w k q. ((λ i j. rose-later y x v i (later-on k j) (before-later' y s v (later-on l m) b) (m.more x hx) r), q))))
        (λ a v m k. after (fields_of fs (some x) v) (λ gs. give (field x a gs)) (fields-does fs (some x) h.2 v m.good (m.more x hx))
        (λ gs w i hg. tells (field x a gs) i.good
        (λ z j. (
          and_both (and_both (j.more x (i.more x (m.more x hx))) (k.1 z (later-on i j))) (hg z j).0,
          rising-behind z y x (fieldNames gs) (k.0 z (later-on i j)) (hg z j).1,
        )))))

-- ══ Lines ══

abbrev ConGood : Sofar → Con ℕ → Type 0
ConGood u d = (v : Sofar) → Later u v → goodCon (namesAt v) (heldAt v) 0 d ≡ true

abbrev SetGood : Sofar → List (Con ℕ) → Type 0
SetGood u ds = (v : Sofar) → Later u v → all (goodCon (namesAt v) (heldAt v) 0) ds ≡ true

module _ (e : ℕ) where
  con-does : (c : ConAt) → ConIn e c → (s : Sofar) → Good s.pool s.table → Does s ConGood (conOf c s)
  unfolding conOf goodCon
  con-does (equalAt c l r) h s g =
      after ((counted 1 c >> ty_of l) s) (λ t. ty_of r >>= λ u. give (equal t u))
      (after (counted 1 c s) (λ u. ty_of l) (counted-does 1 c s g) (λ a u k q. ty-does e l h.1 u k.good))
      (λ t u k ht. after (ty_of r u) (λ y. give (equal t y)) (ty-does e r h.2 u k.good)
      (λ y v m hy. tells (equal t y) m.good (λ w n. and_both (ht w (later-on m n)) (hy w n))))
  con-does (isDimAt c t) h s g =
      after ((counted 1 c >> ty_of t) s) (λ u. give (isDim u))
      (after (counted 1 c s) (λ u. ty_of t) (counted-does 1 c s g) (λ a u k q. ty-does e t h.1 u k.good)) (λ y u k hy. tells (isDim y) k.good hy)
  con-does (isScalarAt c d fs k) h s g =
      after ((counted 1 c >> productOf d fs k) s) (λ p. give (is_scalar p))
      (after (counted 1 c s) (λ u. productOf d fs k) (counted-does 1 c s g) (λ a u m q. product-does e d fs k h.1 u m.good))
      (λ p u m hp. tells (is_scalar p) m.good (λ w n. product-later n p hp))
  con-does (hasFieldAt c s n t) h z g =
      after ((counted 1 c >> ty_of s) z) (λ u. named n >>= λ x. ty_of t >>= λ v. give (hasField x u v))
      (after (counted 1 c z) (λ u. ty_of s) (counted-does 1 c z g) (λ a u k q. ty-does e s h.1 u k.good))
      (λ y u k hy. after (named n u) (λ x. ty_of t >>= λ v. give (hasField x y v)) (named-does n u k.good)
      (λ x v m hx. after (ty_of t v) (λ b. give (hasField x y b)) (ty-does e t h.3 v m.good)
      (λ b w i hb. tells (hasField x y b) i.good (λ r j. and_both (and_both (j.more x (i.more x hx)) (hy r (later-on m (later-on i j)))) (hb r j)))))

  meant-does : (x : Parsed (Option ConAt)) → Ends e (LineIn e) x → (s : Sofar) → Good s.pool s.table → Does s SetGood (meant x s)
  unfolding meant all
  meant-does (bad c) h s g = stops 12 c
  meant-does (read none p) h s g = tells [] g (λ v l. refl)
  meant-does (read (some c) p) h s g =
      after (conOf c s) (λ d. give (d ∷ [])) (con-does c h.0.0 s g) (λ d u l k. tells (d ∷ []) l.good (λ v m. and_both (k v m) refl))

-- ══ Sheets ══

abbrev SheetGood : Sofar → Sheet → Type 0
SheetGood s (sheet cs u) = Later s u × SetGood u cs
SheetGood s (refusedIn n l c) = Unit {0}

all-append : (f : Con ℕ → Bool) (cs ds : List (Con ℕ)) → all f cs ≡ true → all f ds ≡ true → all f (cs ++ ds) ≡ true
unfolding all
all-append f [] ds h k = k
all-append f (c ∷ cs) ds h k = and_both (and_left (f c) _ h) (all-append f cs ds (and_right (f c) _ h) k)

line-does : (l : Bytes) (s : Sofar) → Good s.pool s.table → Does s SetGood (lineRead l s)
unfolding lineRead
line-does l s g = meant-does (suc (length l)) (line l) (line-in l) s g

lines-good : (k : ℕ) (ls : List Bytes) (s : Sofar) → Good s.pool s.table → SheetGood s (lines_read k ls s)
unfolding lines_read all
lines-good k [] s g = (as-it-is s g, (λ v l. refl))
lines-good k (l ∷ ls) s g = go (lineRead l s) (line-does l s g) (λ u h. lines-good (suc k) ls u h)
  where
    joined : (cs : List (Con ℕ)) (u : Sofar) → Later s u → SetGood u cs → (x : Sheet) → SheetGood u x → SheetGood s (with cs x)
    joined cs u l h (sheet ds v) i =
        (later-on l i.0, (λ w m. all-append (goodCon (namesAt w) (heldAt w) 0) cs ds (h w (later-on i.0 m)) (i.1 w m)))
    joined cs u l h (refusedIn n b c) i = tt

    go : (x : Told (List (Con ℕ))) → Does s SetGood x → ((u : Sofar) → Good u.pool u.table → SheetGood u (lines_read (suc k) ls u))
        → SheetGood s (nextLine k x (λ u. lines_read (suc k) ls u))
    go x (does cs u m h) r = joined cs u m h (lines_read (suc k) ls u) (r u m.good)
    go x (stops n c) r = tt

-- every call that takes a set takes the words of a sheet that was read, over the table with its names
pub read-sound : (pool table text : List ℕ) {cs : List (Con ℕ)} {s : Sofar} → Good pool table → sheetRead pool table text ≡ sheet cs s
    → setGiven (table_of s.pool s.table) (words (collect writeCon cs)) ≡ got cs
unfolding sheetRead setGiven listGiven
read-sound pool table text {cs} {s} g e =
    let x = subst (SheetGood (unread pool table)) e (lines-good 1 (lines_of text) (unread pool table) g) in
    rw (words_back (collect writeCon cs), read_set cs (read-writable pool table text e), x.1 s (as-it-is s x.0.good))
