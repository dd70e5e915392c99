-- What the steps of a line's meaning tell: constraints that can be written, or a refusal at a column of the line or at its end.
-- And what holds of a sheet before a line that is read holds behind it.
use Rattle.std.specs.Prelude.{◌≡◌, Bool, ℕ, suc, ◌+◌, ◌/◌, ◌≤◌, ◌&&◌, length, ℤ, pos, negsuc, nat_abs, leb}
use Rattle.std.proofs.Math.Path.{refl}
use Rattle.std.proofs.Common.{subst, arith, leb-true, div-le_self}
use Rattle.std.proofs.Math.Bool.{true, false}
use mathlib.Core.List.{List, [], ◌∷◌}
use Rattle.std.proofs.Math.Option.{Option, none, some}
use Rattle.rules.specs.Base.{Got, got, refused, need, bounded}
use Rattle.rules.specs.Exponents.{Exp, frac, numerator, top, gcd, in_range, lowest, isZero, plus, sum}
use Rattle.rules.specs.Trees.{Open, var, quant, par, Atom, free, base, Factor, ◌↑◌, Product, Ty, opened, basic, dim, fn, struct, list, Tys, nil, cons}
use Rattle.rules.specs.Trees.{Fields, noFields, field, Con, equal, isDim, is_scalar, hasField, depth, depthTys, depthFields, depthCon}
use Rattle.rules.specs.Products.{put, multiply}
use Rattle.rules.specs.Names.{Bytes, Entered}
use Rattle.rules.specs.WellFormed.{is_lt}
use Rattle.rules.specs.declared.Was.{Was}
use Rattle.rules.specs.Grammar.{Parsed, read, bad, NameAt, PowerAt, FactorAt, TyAt, open_at, basicAt, dimAt, fn_at, listAt, struct_at, deepAt, TysAt, nilAt}
use Rattle.rules.specs.Grammar.{consAt, FieldsAt, noneAt, field_at, ConAt, equalAt, isDimAt, isScalarAt, hasFieldAt, line}
use Rattle.rules.specs.TextReading.{Sofar, Told, told, refusedAt, Step, onward, give, placed, counted, enterName, newIn, entered, named, openNamed}
use Rattle.rules.specs.TextReading.{atomNamed, powerOf, namesSofar, multiplied, factorsOf, productOf, rises, ty_of, tys_of, fields_of, conOf, meant}
use Rattle.rules.specs.TextReading.{lineRead, ◌>>=◌, ◌>>◌}
use Rattle.laws.proofs.Integers.{natAbs-neg}
use Rattle.laws.specs.Lists.{Every, and_left}
use Rattle.laws.specs.Reading.{FitsProduct, Fits, FitsTys, FitsFields}
use Rattle.laws.specs.ReadLists.{FitsCon, Writable}
use Rattle.laws.proofs.Sorted.{merge-each}
use Rattle.laws.proofs.Value.{Gives, next, allowed}
use Rattle.text_columns.proofs.Columns.{Ends, NameIn, OpenIn, AtomIn, FactorIn, DimIn, TyIn, TysIn, FieldsIn, ConIn, LineIn, line-in}
use Rattle.text_columns.proofs.Deep.{depthAt, depthTysAt, depthFieldsAt, depthConAt}

-- ══ What stays as it is ══

-- k records more
abbrev pub withRecords : Sofar → ℕ → Sofar
withRecords s k = record { pool = s.pool; table = s.table; fresh = s.fresh; records = s.records + k }

-- pool and table with a name that was entered
abbrev pub withName : Sofar → Entered → Was → Sofar
withName s e w = record { pool = e.pool; table = e.table; fresh = s.fresh + newIn w; records = s.records }

-- what holds of a sheet of which n constraints are read: it stays while records are counted and names are entered. A record that is counted for
-- a constraint makes one constraint more
pub record Stays (F : ℕ → Sofar → Type 0) : Type 0 where
  pub counts : (n : ℕ) (s : Sofar) (k : ℕ) → s.records + k ≤ 2048 → F n s → F n (withRecords s k)
  pub enters : (n : ℕ) (s : Sofar) (b : Bytes) (r : ℕ × Was) → (enterName s.pool s.table b).answer ≡ got r → F n s
      → F n (withName s (enterName s.pool s.table b) r.1)
  pub begins : (n : ℕ) (s : Sofar) → s.records + 1 ≤ 2048 → F n s → F (suc n) (withRecords s 1)

-- ══ Powers that a word can hold ══

abbrev FitsExp : Exp → Type 0
FitsExp e = nat_abs (numerator e) ≤ top

abbrev FitsFactor : Factor ℕ → Type 0
FitsFactor (a ↑ e) = FitsExp e

fits-each : (p : Product ℕ) → Every FitsFactor p → FitsProduct p
fits-each [] h = tt
fits-each (a ↑ frac n d ∷ p) h = (h.0, fits-each p h.1)

range-fits : (e : Exp) → in_range e ≡ true → FitsExp e
unfolding in_range
range-fits (frac n d) h = leb-true (nat_abs n) top (and_left (leb (nat_abs n) top) _ (and_left (leb (nat_abs n) top && leb 1 d) _ h))

-- reducing makes no numerator longer
lowest-fits : (n : ℤ) (d : ℕ) → nat_abs n ≤ top → FitsExp (lowest n d)
unfolding lowest
lowest-fits (pos n) d h = omega (arith, div-le_self n (gcd n d))
lowest-fits (negsuc n) d h = omega (arith, natAbs-neg (pos (suc n / gcd (suc n) d)), div-le_self (suc n) (gcd (suc n) d))

power-fits : (p : PowerAt) → Gives (powerOf p) FitsExp
unfolding powerOf
power-fits p =
    allowed (in_range (frac p.numerator p.denominator)) 7 (lowest p.numerator p.denominator)
    (λ e. lowest-fits p.numerator p.denominator (range-fits (frac p.numerator p.denominator) e))

sum-fits : (e d s : Exp) → sum bounded e d ≡ got s → FitsExp s
unfolding sum
sum-fits e d s h = (allowed {P = FitsExp} (in_range (plus e d)) 7 (plus e d) (λ q. range-fits (plus e d) q)).holds s h

put-fits : (a : Atom ℕ) (e : Exp) → FitsExp e → Every FitsFactor (put a e [])
put-fits a e h = go (isZero e) refl
  where
    go : (b : Bool) → isZero e ≡ b → Every FitsFactor (put a e [])
    go true q = rw (q, put) tt
    go false q = rw (q, put) (h, tt)

product-fits : (s : Sofar) (p q : Product ℕ) → Every FitsFactor p → Every FitsFactor q → Gives (multiply (namesSofar s) bounded p q) (Every FitsFactor)
unfolding multiply
product-fits s p q h k =
    next (merge-each FitsFactor (namesSofar s) bounded (λ a b e d r x y u z. sum-fits e d r u) p q h k)
    (λ r g. allowed (leb (length r) 64) 8 r (λ u. g))

-- ══ What was typed, and what it means ══

-- numerators fit, and a type is nested as deep
abbrev Factors : Product ℕ → Type 0
Factors p = Every FitsFactor p

abbrev Meant : TyAt → Ty ℕ → Type 0
Meant t u = Fits u × (depth u ≤ depthAt t)

abbrev MeantAll : TysAt → Tys ℕ → Type 0
MeantAll ts us = FitsTys us × (depthTys us ≤ depthTysAt ts)

abbrev MeantFields : FieldsAt → Fields ℕ → Type 0
MeantFields fs gs = FitsFields gs × (depthFields gs ≤ depthFieldsAt fs)

abbrev MeantCon : ConAt → Con ℕ → Type 0
MeantCon c d = FitsCon d × (depthCon d ≤ depthConAt c)

-- ══ Steps ══

module _ (e : ℕ) where
  -- a value of which Q holds, and how far the sheet is read then, of which J holds; or a column up to e
  abbrev At : {A : Type 0} → (Sofar → Type 0) → (A → Type 0) → Told A → Type 0
  At J Q (told a s) = Q a × J s
  At J Q (refusedAt n c) = c ≤ e

  pub record Tells {A : Type 0} (I J : Sofar → Type 0) (Q : A → Type 0) (m : Step A) : Type 0 where
    pub at : (s : Sofar) → I s → At J Q (m s)

  abbrev Any : {A : Type 0} → A → Type 0
  Any a = Unit {0}

  onwards : {A B : Type 0} {J K : Sofar → Type 0} {Q : A → Type 0} {P : B → Type 0} (x : Told A) (f : A → Step B) → At J Q x
      → ((a : A) → Q a → Tells J K P (f a)) → At K P (onward x f)
  onwards (told a s) f h k = (k a h.0).at s h.1
  onwards (refusedAt n c) f h k = h

  in-turn : {A B : Type 0} {I J K : Sofar → Type 0} {Q : A → Type 0} {P : B → Type 0} (m : Step A) (f : A → Step B) → Tells I J Q m
      → ((a : A) → Q a → Tells J K P (f a)) → Tells I K P (λ s. onward (m s) f)
  in-turn {A} {B} {I} {J} {K} {Q} {P} m f x k = record { at = λ s i. onwards {J = J} {K = K} {Q = Q} {P = P} (m s) f (x.at s i) k }

  tells : {A : Type 0} {I : Sofar → Type 0} {Q : A → Type 0} (a : A) → Q a → Tells I I Q (give a)
  tells a q = record { at = λ s i. (q, i) }

  module _ (I : Sofar → Type 0) (counting : (s : Sofar) (k : ℕ) → s.records + k ≤ 2048 → I s → I (withRecords s k))
      (entering : (s : Sofar) (b : Bytes) (r : ℕ × Was) → (enterName s.pool s.table b).answer ≡ got r → I s
      → I (withName s (enterName s.pool s.table b) r.1)) where
    abbrev Keeps : {A : Type 0} → (A → Type 0) → Step A → Type 0
    Keeps Q m = Tells I I Q m

    placed-at : {A : Type 0} {Q : A → Type 0} (c : ℕ) (g : Got A) → c ≤ e → Gives g Q → (s : Sofar) → I s → At I Q (placed c g s)
    placed-at c (got a) h k s i = (k.holds a refl, i)
    placed-at c (refused n) h k s i = h

    placed-in : {A : Type 0} {Q : A → Type 0} (c : ℕ) (g : Got A) → c ≤ e → Gives g Q → Keeps Q (placed c g)
    placed-in c g h k = record { at = placed-at c g h k }

    counted-at : (k c : ℕ) → c ≤ e → (s : Sofar) → I s → At I Any (counted k c s)
    unfolding counted
    counted-at k c h s i = go (leb (s.records + k) 2048) refl
      where
        go : (u : Bool) → leb (s.records + k) 2048 ≡ u → At I Any (counted k c s)
        go true q = rw (q, counted) (tt, counting s k (leb-true (s.records + k) 2048 q) i)
        go false q = rw (q, counted) h

    counted-in : (k c : ℕ) → c ≤ e → Keeps Any (counted k c)
    counted-in k c h = record { at = counted-at k c h }

    entered-in : (c : ℕ) (s : Sofar) (b : Bytes) (g : Got (ℕ × Was)) → (enterName s.pool s.table b).answer ≡ g → c ≤ e → I s
        → At I Any (entered c s (enterName s.pool s.table b) g)
    entered-in c s b (got r) q h i = (tt, entering s b r q i)
    entered-in c s b (refused n) q h i = h

    named_in : (n : NameAt) → NameIn e n → Keeps Any (named n)
    unfolding named
    named_in n h = record { at = λ s i. entered-in n.column s n.bytes (enterName s.pool s.table n.bytes).answer refl h i }

    open_in : (o : Open NameAt) → OpenIn e o → Keeps Any (openNamed o)
    open_in (var n) h = in-turn (named n) (λ x. give (var x)) (named_in n h) (λ x v. tells (var x) tt)
    open_in (quant i) h = absurd h
    open_in (par n) h = in-turn (named n) (λ x. give (par x)) (named_in n h) (λ x v. tells (par x) tt)

    atom-in : (a : Atom NameAt) → AtomIn e a → Keeps Any (atomNamed a)
    atom-in (free o) h = in-turn (openNamed o) (λ x. give (free x)) (open_in o h) (λ x v. tells (free x) tt)
    atom-in (base n) h = in-turn (named n) (λ x. give (base x)) (named_in n h) (λ x v. tells (base x) tt)

    -- ══ Dimensions ══

    multiplied-in : (p : Product ℕ) (f : FactorAt) → FactorIn e f → Factors p → Keeps Factors (multiplied p f)
    unfolding multiplied
    multiplied-in p f h hp =
        in-turn (atomNamed f.atom) (λ a. placed f.power.column (powerOf f.power) >>= λ k s. placed f.column (multiply (namesSofar s) bounded p (put a k [])) s)
        (atom-in f.atom h.atom)
        (λ a v. in-turn (placed f.power.column (powerOf f.power)) (λ k s. placed f.column (multiply (namesSofar s) bounded p (put a k [])) s)
        (placed-in f.power.column (powerOf f.power) h.power (power-fits f.power))
        (λ k hk. record {
          at = λ s i. placed-at f.column (multiply (namesSofar s) bounded p (put a k [])) h.mark
              (product-fits s p (put a k []) hp (put-fits a k hk)) s i;
        }))

    factors-in : (fs : List FactorAt) (p : Product ℕ) → Every (FactorIn e) fs → Factors p → Keeps Factors (factorsOf fs p)
    unfolding factorsOf
    factors-in [] p h hp = tells p hp
    factors-in (f ∷ fs) p h hp =
        in-turn (multiplied p f) (λ q. factorsOf fs q) (multiplied-in p f h.0 hp) (λ q hq. factors-in fs q h.1 hq)

    product-in : (c : ℕ) (fs : List FactorAt) (d : ℕ) → DimIn e c fs d → Keeps FitsProduct (productOf c fs d)
    unfolding productOf
    product-in c fs d h =
        in-turn (counted 1 c) (λ u. factorsOf fs [] >>= λ p. counted (length p) d >> give p) (counted-in 1 c h.first)
        (λ u v. in-turn (factorsOf fs []) (λ p. counted (length p) d >> give p) (factors-in fs [] h.inside tt)
        (λ p hp. in-turn (counted (length p) d) (λ v. give p) (counted-in (length p) d h.last) (λ w x. tells p (fits-each p hp))))

    -- ══ Types ══

    rises-in : (y : Option ℕ) (x c : ℕ) → c ≤ e → Keeps Any (rises y x c)
    rises-in none x c h = tells tt tt
    rises-in (some y) x c h = record {
      at = λ s i. placed-at c (need (is_lt ((namesSofar s).order y x)) 1) h (record { holds = λ a q. tt }) s i;
    }

    mutual
      unfolding ty_of TyIn depthAt depth

      ty-in : (t : TyAt) → TyIn e t → Keeps (Meant t) (ty_of t)
      ty-in (open_at c o) h =
          in-turn (counted 1 c >> openNamed o) (λ x. give (opened x)) (in-turn (counted 1 c) (λ u. openNamed o) (counted-in 1 c h.0) (λ u v. open_in o h.1))
          (λ x v. tells (opened x) (tt, omega arith))
      ty-in (basicAt c b) h = in-turn (counted 1 c) (λ u. give (basic b)) (counted-in 1 c h) (λ u v. tells (basic b) (tt, omega arith))
      ty-in (dimAt c fs d) h = in-turn (productOf c fs d) (λ p. give (dim p)) (product-in c fs d h) (λ p hp. tells (dim p) (hp, omega arith))
      ty-in (fn_at c ps r) h =
          in-turn (counted 1 c >> tys_of ps) (λ ts. ty_of r >>= λ t. give (fn ts t))
          (in-turn (counted 1 c) (λ u. tys_of ps) (counted-in 1 c h.0) (λ u v. tys-in ps h.1))
          (λ ts hs. in-turn (ty_of r) (λ t. give (fn ts t)) (ty-in r h.2) (λ t ht. tells (fn ts t) ((hs.0, ht.0), omega (arith, hs.1, ht.1))))
      ty-in (listAt c t) h = in-turn (counted 1 c >> ty_of t) (λ u. give (list u))
          (in-turn (counted 1 c) (λ u. ty_of t) (counted-in 1 c h.0) (λ u v. ty-in t h.1)) (λ u hu. tells (list u) (hu.0, omega (arith, hu.1)))
      ty-in (struct_at c n ts fs) h =
          in-turn (counted 1 c >> named n) (λ x. tys_of ts >>= λ us. fields_of fs none >>= λ gs. give (struct x us gs))
          (in-turn (counted 1 c) (λ u. named n) (counted-in 1 c h.0) (λ u v. named_in n h.1))
          (λ x v. in-turn (tys_of ts) (λ us. fields_of fs none >>= λ gs. give (struct x us gs)) (tys-in ts h.2)
          (λ us hs. in-turn (fields_of fs none) (λ gs. give (struct x us gs)) (fields_in fs none h.3)
          (λ gs hg. tells (struct x us gs) ((hs.0, hg.0), omega (arith, hs.1, hg.1)))))
      ty-in (deepAt c) h = record { at = λ s i. h }

      tys-in : (ts : TysAt) → TysIn e ts → Keeps (MeantAll ts) (tys_of ts)
      tys-in nilAt h = tells nil (tt, omega arith)
      tys-in (consAt t ts) h =
          in-turn (ty_of t) (λ u. tys_of ts >>= λ us. give (cons u us)) (ty-in t h.0)
          (λ u hu. in-turn (tys_of ts) (λ us. give (cons u us)) (tys-in ts h.1) (λ us hs. tells (cons u us) ((hu.0, hs.0), omega (arith, hu.1, hs.1))))

      fields_in : (fs : FieldsAt) (y : Option ℕ) → FieldsIn e fs → Keeps (MeantFields fs) (fields_of fs y)
      fields_in noneAt y h = tells noFields (tt, omega arith)
      fields_in (field_at n t fs) y h =
          in-turn (named n) (λ x. rises y x n.column >> counted 1 n.column >> ty_of t >>= λ u. fields_of fs (some x) >>= λ gs. give (field x u gs))
          (named_in n h.0)
          (λ x v. in-turn (rises y x n.column >> counted 1 n.column >> ty_of t) (λ u. fields_of fs (some x) >>= λ gs. give (field x u gs))
          (in-turn (rises y x n.column >> counted 1 n.column) (λ u. ty_of t)
          (in-turn (rises y x n.column) (λ u. counted 1 n.column) (rises-in y x n.column h.0) (λ u w. counted-in 1 n.column h.0)) (λ u w. ty-in t h.1))
          (λ u hu. in-turn (fields_of fs (some x)) (λ gs. give (field x u gs)) (fields_in fs (some x) h.2)
          (λ gs hg. tells (field x u gs) ((hu.0, hg.0), omega (arith, hu.1, hg.1)))))

    -- ══ Lines ══

    -- its record is counted at first: from then on it is one constraint more
    module _ (H : Sofar → Type 0) (first : (c : ℕ) → c ≤ e → Tells H I Any (counted 1 c)) where
      con-in : (c : ConAt) → ConIn e c → Tells H I (MeantCon c) (conOf c)
      unfolding conOf depthConAt depthCon
      con-in (equalAt c l r) h =
          in-turn (counted 1 c >> ty_of l) (λ t. ty_of r >>= λ u. give (equal t u)) (in-turn (counted 1 c) (λ u. ty_of l) (first c h.0) (λ u v. ty-in l h.1))
          (λ t ht. in-turn (ty_of r) (λ u. give (equal t u)) (ty-in r h.2) (λ u hu. tells (equal t u) ((ht.0, hu.0), omega (arith, ht.1, hu.1))))
      con-in (isDimAt c t) h = in-turn (counted 1 c >> ty_of t) (λ u. give (isDim u))
          (in-turn (counted 1 c) (λ u. ty_of t) (first c h.0) (λ u v. ty-in t h.1)) (λ u hu. tells (isDim u) hu)
      con-in (isScalarAt c d fs k) h =
          in-turn (counted 1 c >> productOf d fs k) (λ p. give (is_scalar p))
          (in-turn (counted 1 c) (λ u. productOf d fs k) (first c h.0) (λ u v. product-in d fs k h.1)) (λ p hp. tells (is_scalar p) (hp, omega arith))
      con-in (hasFieldAt c s n t) h =
          in-turn (counted 1 c >> ty_of s) (λ u. named n >>= λ x. ty_of t >>= λ v. give (hasField x u v))
          (in-turn (counted 1 c) (λ u. ty_of s) (first c h.0) (λ u v. ty-in s h.1))
          (λ u hu. in-turn (named n) (λ x. ty_of t >>= λ v. give (hasField x u v)) (named_in n h.2)
          (λ x w. in-turn (ty_of t) (λ v. give (hasField x u v)) (ty-in t h.3) (λ v hv. tells (hasField x u v) ((hu.0, hv.0), omega (arith, hu.1, hv.1)))))

  -- ══ A line ══

  -- constraints that can be written, and as many more are read; or a column up to e
  abbrev pub LineAt : (ℕ → Sofar → Type 0) → ℕ → Told (List (Con ℕ)) → Type 0
  LineAt F n (told cs s) = Every Writable cs × F (n + length cs) s
  LineAt F n (refusedAt m c) = c ≤ e

  module _ (F : ℕ → Sofar → Type 0) (k : Stays F) where
    first-at : (n c : ℕ) → c ≤ e → (s : Sofar) → F n s → At (F (suc n)) Any (counted 1 c s)
    unfolding counted
    first-at n c h s i = go (leb (s.records + 1) 2048) refl
      where
        go : (u : Bool) → leb (s.records + 1) 2048 ≡ u → At (F (suc n)) Any (counted 1 c s)
        go true q = rw (q, counted) (tt, k.begins n s (leb-true (s.records + 1) 2048 q) i)
        go false q = rw (q, counted) h

    meant_con : (n : ℕ) (c : ConAt) → ConIn e c → Tells (F n) (F (suc n)) (MeantCon c) (conOf c)
    meant_con n c h = con-in (F (suc n)) (k.counts (suc n)) (k.enters (suc n)) (F n) (λ b q. record { at = first-at n b q }) c h

    one-more : (n : ℕ) (c : ConAt) → depthConAt c ≤ 64 → (x : Told (Con ℕ)) → At (F (suc n)) (MeantCon c) x
        → LineAt F n (onward x (λ d. give (d ∷ [])))
    one-more n c h (told d s) i = (((i.0.0, omega (arith, i.0.1)), tt), subst (λ (m : ℕ). F m s) (omega arith) i.1)
    one-more n c h (refusedAt m b) i = i

    meant-in : (n : ℕ) (x : Parsed (Option ConAt)) → Ends e (LineIn e) x → (s : Sofar) → F n s → LineAt F n (meant x s)
    unfolding meant
    meant-in n (bad c) h s i = h
    meant-in n (read none p) h s i = (tt, subst (λ (m : ℕ). F m s) (omega arith) i)
    meant-in n (read (some c) p) h s i = one-more n c h.0.1 (conOf c s) ((meant_con n c h.0.0).at s i)

pub line-tells : (F : ℕ → Sofar → Type 0) → Stays F → (n : ℕ) (l : Bytes) (s : Sofar) → F n s → LineAt (suc (length l)) F n (lineRead l s)
unfolding lineRead
line-tells F k n l s i = meant-in (suc (length l)) F k n (line l) (line-in l) s i

-- what holds of any sheet
always : Stays (λ n s. Unit {0})
always = record { counts = λ n s k h i. tt; enters = λ n s b r q i. tt; begins = λ n s h i. tt }

-- the column of a refused line is one of the line's, or that of its end
pub refused-in : (l : Bytes) (s : Sofar) (n c : ℕ) → lineRead l s ≡ refusedAt n c → c ≤ suc (length l)
refused-in l s n c q = subst (λ (x : Told (List (Con ℕ))). LineAt (suc (length l)) (λ m r. Unit {0}) 0 x) q (line-tells (λ m r. Unit {0}) always 0 l s tt)
