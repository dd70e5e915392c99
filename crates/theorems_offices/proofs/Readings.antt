-- Reading text over two tables: dimensions, types, lines and whole sheets.
use Rattle.std.specs.Prelude.{◌≡◌, Bool, ℕ, suc, leb, length}
use Rattle.std.proofs.Math.Path.{refl}
use Rattle.std.proofs.Common.{sym, ap, ap₂, ◌∙◌}
use Rattle.std.proofs.Math.Bool.{true, false}
use Rattle.std.proofs.Math.Option.{Option, none, some}
use mathlib.Core.List.{List, [], ◌∷◌, ◌++◌, map, map-append}
use Rattle.std.proofs.lemmas.List.{length-map}
use Rattle.rules.specs.Base.{Got, need, bounded}
use Rattle.rules.specs.Exponents.{Exp, isZero}
use Rattle.rules.specs.Trees.{Open, var, quant, par, Atom, free, base, Factor, ◌↑◌, Product, Ty, opened, basic, dim, fn, struct, list, Tys, nil, cons}
use Rattle.rules.specs.Trees.{Fields, noFields, field, Con, equal, isDim, is_scalar, hasField}
use Rattle.rules.specs.Products.{put, multiply}
use Rattle.rules.specs.Names.{Bytes, Table, table_of, numbersOf, is_held}
use Rattle.rules.specs.WellFormed.{is_lt}
use Rattle.rules.specs.Grammar.{Parsed, read, bad, NameAt, FactorAt, TyAt, open_at, basicAt, dimAt, fn_at, listAt, struct_at, deepAt, TysAt, nilAt}
use Rattle.rules.specs.Grammar.{consAt, FieldsAt, noneAt, field_at, ConAt, equalAt, isDimAt, isScalarAt, hasFieldAt, line, lines_of}
use Rattle.rules.specs.TextReading.{Sofar, Told, placed, openNamed, atomNamed, powerOf, namesSofar}
use Rattle.rules.specs.TextReading.{multiplied, factorsOf, productOf, rises, ty_of, tys_of, fields_of, conOf, meant, lineRead}
use Rattle.rules.specs.TextReading.{Sheet, sheet, refusedIn, with, nextLine, lines_read, unread, sheetRead}
use Rattle.rules.specs.Offices.{Name, byBytes, nameNo, mapOpen, mapAtom, mapFactor, mapTy, map_tys, mapFields, mapCon}
use Rattle.laws.specs.Lists.{Every}
use Rattle.laws.specs.NameTable.{Good}
use Rattle.laws.proofs.Sorted.{merge-each}
use Rattle.laws.proofs.Value.{Gives, next, allowed}
use Rattle.laws.proofs.Alike.{both, neither}
use Rattle.theorems_offices.proofs.Both.{Both, through}
use Rattle.theorems_offices.proofs.Naming.{keeps}
use Rattle.theorems_offices.proofs.Products.{put_map, multiply-map}
use Rattle.theorems_offices.proofs.Steps.{Grows, Onward, further, still, Behind, Related, Out, three, three', refusal, Beside, in-turn, gives, Equal, Nothing}
use Rattle.theorems_offices.proofs.Steps.{counted-alike, placed-same, OneName, one-later, named-alike}
use Rattle.theorems_offices.proofs.Steps as steps

-- ══ Values that are alike, now and later ══

-- trees with the same names in them, over all tables that the two readings may still reach
pub record Later {A B : Type 0} (g : (ℕ → Name) → A → B) (t t' : Table) (a a' : A) : Type 0 where
  pub at : (u u' : Table) → Onward t t' u u' → g (nameNo u) a ≡ g (nameNo u') a'

pub later-on : {A B : Type 0} {g : (ℕ → Name) → A → B} {t t' u u' : Table} {a a' : A} → Onward t t' u u' → Later g t t' a a' → Later g u u' a a'
later-on k r = record { at = λ v v' l. r.at v v' (further k l) }

pub now : {A B : Type 0} {g : (ℕ → Name) → A → B} {t t' : Table} {a a' : A} → Later g t t' a a' → g (nameNo t) a ≡ g (nameNo t') a'
now {t} {t'} r = r.at t t' (still t t')

name-later : {t t' : Table} {x x' : ℕ} → OneName t t' x x' → (u u' : Table) → Onward t t' u u' → nameNo u x ≡ nameNo u' x'
name-later r u u' k = (one-later k r).same

-- ══ Open names and products, whose names are held ══

abbrev HeldOpen : Table → Open ℕ → Type 0
HeldOpen t (var x) = is_held t x ≡ true
HeldOpen t (quant i) = Unit {0}
HeldOpen t (par x) = is_held t x ≡ true

abbrev HeldAtom : Table → Atom ℕ → Type 0
HeldAtom t (free o) = HeldOpen t o
HeldAtom t (base x) = is_held t x ≡ true

abbrev HeldFactor : Table → Factor ℕ → Type 0
HeldFactor t (a ↑ e) = HeldAtom t a

open-same : {t u : Table} → Grows t u → (o : Open ℕ) → HeldOpen t o → mapOpen (nameNo u) o ≡ mapOpen (nameNo t) o
open-same g (var x) h = ap var (g.same x h)
open-same g (quant i) h = refl
open-same g (par x) h = ap par (g.same x h)

open-held : {t u : Table} → Grows t u → (o : Open ℕ) → HeldOpen t o → HeldOpen u o
open-held g (var x) h = g.held x h
open-held g (quant i) h = tt
open-held g (par x) h = g.held x h

atom-same : {t u : Table} → Grows t u → (a : Atom ℕ) → HeldAtom t a → mapAtom (nameNo u) a ≡ mapAtom (nameNo t) a
atom-same g (free o) h = ap free (open-same g o h)
atom-same g (base x) h = ap base (g.same x h)

atom-held : {t u : Table} → Grows t u → (a : Atom ℕ) → HeldAtom t a → HeldAtom u a
atom-held g (free o) h = open-held g o h
atom-held g (base x) h = g.held x h

product-same : {t u : Table} → Grows t u → (p : Product ℕ) → Every (HeldFactor t) p → map (mapFactor (nameNo u)) p ≡ map (mapFactor (nameNo t)) p
product-same g [] h = refl
product-same g (a ↑ e ∷ p) h = ap₂ (λ (b : Atom Name) (q : Product Name). b ↑ e ∷ q) (atom-same g a h.0) (product-same g p h.1)

product-held : {t u : Table} → Grows t u → (p : Product ℕ) → Every (HeldFactor t) p → Every (HeldFactor u) p
product-held g [] h = tt
product-held g (a ↑ e ∷ p) h = (atom-held g a h.0, product-held g p h.1)

record OneOpen (t t' : Table) (o o' : Open ℕ) : Type 0 where
  same : mapOpen (nameNo t) o ≡ mapOpen (nameNo t') o'
  held : HeldOpen t o
  held' : HeldOpen t' o'

record OneAtom (t t' : Table) (a a' : Atom ℕ) : Type 0 where
  same : mapAtom (nameNo t) a ≡ mapAtom (nameNo t') a'
  held : HeldAtom t a
  held' : HeldAtom t' a'

record OneProduct (t t' : Table) (p p' : Product ℕ) : Type 0 where
  same : map (mapFactor (nameNo t)) p ≡ map (mapFactor (nameNo t')) p'
  held : Every (HeldFactor t) p
  held' : Every (HeldFactor t') p'

atom-later : {t t' u u' : Table} {a a' : Atom ℕ} → Onward t t' u u' → OneAtom t t' a a' → OneAtom u u' a a'
atom-later {a} {a'} k r = record {
  same = atom-same k.here a r.held ∙ r.same ∙ sym (atom-same k.there a' r.held');
  held = atom-held k.here a r.held;
  held' = atom-held k.there a' r.held';
}

product-later : {t t' u u' : Table} {p p' : Product ℕ} → Onward t t' u u' → OneProduct t t' p p' → OneProduct u u' p p'
product-later {p} {p'} k r = record {
  same = product-same k.here p r.held ∙ r.same ∙ sym (product-same k.there p' r.held');
  held = product-held k.here p r.held;
  held' = product-held k.there p' r.held';
}

open-later : {t t' : Table} {o o' : Open ℕ} → OneOpen t t' o o' → Later (λ f u. mapTy f u) t t' (opened o) (opened o')
unfolding mapTy
open-later {o} {o'} r = record { at = λ u u' k. ap opened (open-same k.here o r.held ∙ r.same ∙ sym (open-same k.there o' r.held')) }

open-alike : {t t' : Table} (o : Open NameAt) → Beside OneOpen t t' (openNamed o) (openNamed o)
open-alike (var n) = in-turn (named-alike n)
    (λ u u' k x x' r. gives (var x) (var x') (λ v v' l. let w = one-later l r in record { same = ap var w.same; held = w.held; held' = w.held' }))
open-alike (quant i) = gives (quant i) (quant i) (λ u u' k. record { same = refl; held = tt; held' = tt })
open-alike (par n) = in-turn (named-alike n)
    (λ u u' k x x' r. gives (par x) (par x') (λ v v' l. let w = one-later l r in record { same = ap par w.same; held = w.held; held' = w.held' }))

atom-alike : {t t' : Table} (a : Atom NameAt) → Beside OneAtom t t' (atomNamed a) (atomNamed a)
atom-alike (free o) = in-turn (open-alike o)
    (λ u u' k x x' r. gives (free x) (free x') (λ v v' l. atom-later l (record { same = ap free r.same; held = r.held; held' = r.held' })))
atom-alike (base n) = in-turn (named-alike n)
    (λ u u' k x x' r. gives (base x) (base x') (λ v v' l. let w = one-later l r in record { same = ap base w.same; held = w.held; held' = w.held' }))

-- ══ Dimensions ══

-- a factor by itself
single-alike : {t t' : Table} {a a' : Atom ℕ} (e : Exp) → OneAtom t t' a a' → OneProduct t t' (put a e []) (put a' e [])
single-alike {t} {t'} {a} {a'} e r = record {
  same = sym (put_map (nameNo t) a e []) ∙ ap (λ (b : Atom Name). put b e []) r.same ∙ put_map (nameNo t') a' e [];
  held = one t a r.held;
  held' = one t' a' r.held';
}
  where
    one : (w : Table) (b : Atom ℕ) → HeldAtom w b → Every (HeldFactor w) (put b e [])
    one w b h = go (isZero e) refl
      where
        go : (z : Bool) → isZero e ≡ z → Every (HeldFactor w) (put b e [])
        go true q = rw (q, put) tt
        go false q = rw (q, put) (h, tt)

multiply-held : (w : Table) (p q : Product ℕ) → Every (HeldFactor w) p → Every (HeldFactor w) q
    → Gives (multiply (numbersOf w) bounded p q) (Every (HeldFactor w))
unfolding multiply
multiply-held w p q h k = next (merge-each (HeldFactor w) (numbersOf w) bounded (λ a b e d r x y u z. x) p q h k)
    (λ r g. allowed (leb (length r) 64) 8 r (λ u. g))

module _ {pool table pool' table' : List ℕ} (good : Good pool table) (good' : Good pool' table') where
  abbrev T₁ : Table
  T₁ = table_of pool table

  abbrev T₂ : Table
  T₂ = table_of pool' table'

  multiply-alike : (p p' q q' : Product ℕ) → OneProduct T₁ T₂ p p' → OneProduct T₁ T₂ q q'
      → Both (map (mapFactor (nameNo T₁))) (map (mapFactor (nameNo T₂))) (multiply (numbersOf T₁) bounded p q) (multiply (numbersOf T₂) bounded p' q')
  multiply-alike p p' q q' r s = through (multiply-map _ byBytes _ (keeps good) bounded p q) (multiply-map _ byBytes _ (keeps good') bounded p' q')
      (ap₂ (λ (x y : Product Name). multiply byBytes bounded x y) r.same s.same)

  order-alike : (y y' x x' : ℕ) → OneName T₁ T₂ y y' → OneName T₁ T₂ x x' → (numbersOf T₁).order y x ≡ (numbersOf T₂).order y' x'
  order-alike y y' x x' r s = sym ((keeps good).ordered y x) ∙ ap₂ (λ (a b : Name). byBytes.order a b) r.same s.same ∙ (keeps good').ordered y' x'

placed-product : {t t' : Table} (c : ℕ) (s s' : Sofar) → Behind t t' s s' → (m m' : Got (Product ℕ))
    → Gives m (Every (HeldFactor (table_of s.pool s.table))) → Gives m' (Every (HeldFactor (table_of s'.pool s'.table)))
    → Both (map (mapFactor (nameNo (table_of s.pool s.table)))) (map (mapFactor (nameNo (table_of s'.pool s'.table)))) m m'
    → Out OneProduct t t' (placed c m s) (placed c m' s')
placed-product c s s' h m m' g g' (neither {n}) = refusal n c
placed-product c s s' h m m' g g' (both {a = p} {b = p'} e) = steps.both p p' s s' h (record { same = e; held = g.holds p refl; held' = g'.holds p' refl })

multiplied-alike : {t t' : Table} (p p' : Product ℕ) (f : FactorAt) → OneProduct t t' p p' → Beside OneProduct t t' (multiplied p f) (multiplied p' f)
unfolding multiplied
multiplied-alike p p' f r =
    in-turn (atom-alike f.atom) (λ u u' k a a' i.
    in-turn (placed-same f.power.column (powerOf f.power)) (λ v v' l e e' j. rw (← j) (record {
      at = λ s s' h.
          let q = product-later h.grown (product-later (further k l) r) in
          let o = single-alike e (atom-later h.grown (atom-later l i)) in
          placed-product f.column s s' h _ _ (multiply-held (table_of s.pool s.table) p (put a e []) q.held o.held)
          (multiply-held (table_of s'.pool s'.table) p' (put a' e []) q.held' o.held')
          (multiply-alike h.good h.good' p p' (put a e []) (put a' e []) q o);
    })))

factors-alike : {t t' : Table} (fs : List FactorAt) (p p' : Product ℕ) → OneProduct t t' p p' → Beside OneProduct t t' (factorsOf fs p) (factorsOf fs p')
unfolding factorsOf
factors-alike [] p p' r = gives p p' (λ u u' k. product-later k r)
factors-alike (f ∷ fs) p p' r = in-turn (multiplied-alike p p' f r) (λ u u' k q q' i. factors-alike fs q q' i)

as_many : {t t' : Table} (p p' : Product ℕ) → OneProduct t t' p p' → length p ≡ length p'
as_many {t} {t'} p p' r = sym (length-map p (mapFactor (nameNo t))) ∙ ap length r.same ∙ length-map p' (mapFactor (nameNo t'))

product-alike : {t t' : Table} (c : ℕ) (fs : List FactorAt) (e : ℕ) → Beside OneProduct t t' (productOf c fs e) (productOf c fs e)
unfolding productOf
product-alike c fs e =
    in-turn (counted-alike 1 1 c refl) (λ u u' k x x' i.
    in-turn (factors-alike fs [] [] (record { same = refl; held = tt; held' = tt })) (λ v v' l p p' r.
    in-turn (counted-alike (length p) (length p') e (as_many p p' r)) (λ w w' m y y' j. gives p p' (λ z z' n. product-later (further m n) r))))

-- ══ Types ══

data MaybeName (t t' : Table) : Option ℕ → Option ℕ → Type 0 where
  nobody : MaybeName t t' none none
  somebody : (x x' : ℕ) → OneName t t' x x' → MaybeName t t' (some x) (some x')

rises-alike : {t t' : Table} (y y' : Option ℕ) (x x' c : ℕ) → MaybeName t t' y y' → OneName t t' x x' → Beside Nothing t t' (rises y x c) (rises y' x' c)
rises-alike y y' x x' c nobody r = gives tt tt (λ u u' k. tt)
rises-alike {t} {t'} y y' x x' c (somebody z z' q) r = record {
  at = λ s s' h. rw (order-alike h.good h.good' z z' x x' (one-later h.grown q) (one-later h.grown r)) (by (is_lt ((namesSofar s').order z' x')) s s' h);
}
  where
    by : (b : Bool) (s s' : Sofar) → Behind t t' s s' → Out Nothing t t' (placed c (need b 1) s) (placed c (need b 1) s')
    by true s s' h = steps.both tt tt s s' h tt
    by false s s' h = refusal 1 c

maybe-later : {t t' u u' : Table} {y y' : Option ℕ} → Onward t t' u u' → MaybeName t t' y y' → MaybeName u u' y y'
maybe-later k nobody = nobody
maybe-later k (somebody x x' r) = somebody x x' (one-later k r)

struct-same : {n m : Name} {us vs : Tys Name} {fs gs : Fields Name} → n ≡ m → us ≡ vs → fs ≡ gs → struct n us fs ≡ struct m vs gs
struct-same e f g = rw (e, f, g)

field-same : {n m : Name} {u v : Ty Name} {fs gs : Fields Name} → n ≡ m → u ≡ v → fs ≡ gs → field n u fs ≡ field m v gs
field-same e f g = rw (e, f, g)

abbrev Types : Related (Ty ℕ) (Ty ℕ)
Types = Later (λ f u. mapTy f u)

abbrev TypeLists : Related (Tys ℕ) (Tys ℕ)
TypeLists = Later (λ f us. map_tys f us)

abbrev FieldLists : Related (Fields ℕ) (Fields ℕ)
FieldLists = Later (λ f gs. mapFields f gs)

abbrev Cons : Related (Con ℕ) (Con ℕ)
Cons = Later (λ f c. mapCon f c)

mutual
  unfolding ty_of mapTy

  ty-alike : {t t' : Table} (w : TyAt) → Beside Types t t' (ty_of w) (ty_of w)
  ty-alike (open_at c o) = in-turn (in-turn (counted-alike 1 1 c refl) (λ u u' k x x' i. open-alike o))
      (λ u u' k x x' r. gives (opened x) (opened x') (λ v v' l. later-on l (open-later r)))
  ty-alike (basicAt c b) = in-turn (counted-alike 1 1 c refl) (λ u u' k x x' i. gives (basic b) (basic b) (λ v v' l. record { at = λ w w' m. refl }))
  ty-alike (dimAt c fs e) = in-turn (product-alike c fs e)
      (λ u u' k p p' r. gives (dim p) (dim p') (λ v v' l. record { at = λ w w' m. ap dim (product-later (further l m) r).same }))
  ty-alike (fn_at c ps w) =
      in-turn (in-turn (counted-alike 1 1 c refl) (λ u u' k x x' i. tys-alike ps)) (λ u u' k ts ts' r.
      in-turn (ty-alike w) (λ v v' l a a' q. gives (fn ts a) (fn ts' a')
      (λ z z' m. record { at = λ w w' n. ap₂ (λ (us : Tys Name) (b : Ty Name). fn us b) (r.at w w' (further l (further m n))) (q.at w w' (further m n)) })))
  ty-alike (listAt c w) = in-turn (in-turn (counted-alike 1 1 c refl) (λ u u' k x x' i. ty-alike w))
      (λ u u' k a a' r. gives (list a) (list a') (λ v v' l. record { at = λ w w' m. ap list (r.at w w' (further l m)) }))
  ty-alike (struct_at c n ps fs) =
      in-turn (in-turn (counted-alike 1 1 c refl) (λ u u' k x x' i. named-alike n)) (λ u u' k x x' i.
      in-turn (tys-alike ps) (λ v v' l ts ts' r.
      in-turn (fields-alike fs none none nobody) (λ w w' m gs gs' q. gives (struct x ts gs) (struct x' ts' gs') (λ y y' p. record {
        at = λ z z' o. struct-same (name-later i z z' (further l (further m (further p o)))) (r.at z z' (further m (further p o))) (q.at z z' (further p o));
      }))))
  ty-alike (deepAt c) = record { at = λ s s' h. refusal 1 c }

  tys-alike : {t t' : Table} (ws : TysAt) → Beside TypeLists t t' (tys_of ws) (tys_of ws)
  tys-alike nilAt = gives nil nil (λ u u' k. record { at = λ w w' m. refl })
  tys-alike (consAt w ws) =
      in-turn (ty-alike w) (λ u u' k a a' r.
      in-turn (tys-alike ws) (λ v v' l ts ts' q. gives (cons a ts) (cons a' ts')
      (λ z z' m. record {
        at = λ w w' n. ap₂ (λ (b : Ty Name) (us : Tys Name). cons b us) (r.at w w' (further l (further m n)))
            (q.at w w' (further m n));
      })))

  fields-alike : {t t' : Table} (fs : FieldsAt) (y y' : Option ℕ) → MaybeName t t' y y' → Beside FieldLists t t' (fields_of fs y) (fields_of fs y')
  fields-alike noneAt y y' r = gives noFields noFields (λ u u' k. record { at = λ w w' m. refl })
  fields-alike (field_at n w fs) y y' r =
      in-turn (named-alike n) (λ u u' k x x' i.
      in-turn (in-turn (in-turn (rises-alike y y' x x' n.column (maybe-later k r) i) (λ v v' l z z' j. counted-alike 1 1 n.column refl))
      (λ v v' l z z' j. ty-alike w)) (λ v v' l a a' q.
      in-turn (fields-alike fs (some x) (some x') (somebody x x' (one-later l i)))
      (λ z z' m gs gs' p. gives (field x a gs) (field x' a' gs') (λ e e' o. record {
        at = λ d d' h. field-same (name-later i d d' (further l (further m (further o h)))) (q.at d d' (further m (further o h))) (p.at d d' (further o h));
      }))))

-- ══ Lines ══

con-alike : {t t' : Table} (c : ConAt) → Beside Cons t t' (conOf c) (conOf c)
unfolding conOf mapCon
con-alike (equalAt c l r) =
    in-turn (in-turn (counted-alike 1 1 c refl) (λ u u' k x x' i. ty-alike l)) (λ u u' k a a' p.
    in-turn (ty-alike r) (λ v v' m b b' q. gives (equal a b) (equal a' b')
    (λ w w' n. record { at = λ z z' o. ap₂ (λ (c d : Ty Name). equal c d) (p.at z z' (further m (further n o))) (q.at z z' (further n o)) })))
con-alike (isDimAt c w) = in-turn (in-turn (counted-alike 1 1 c refl) (λ u u' k x x' i. ty-alike w))
    (λ u u' k a a' p. gives (isDim a) (isDim a') (λ v v' m. record { at = λ z z' n. ap isDim (p.at z z' (further m n)) }))
con-alike (isScalarAt c d fs e) = in-turn (in-turn (counted-alike 1 1 c refl) (λ u u' k x x' i. product-alike d fs e))
    (λ u u' k p p' r. gives (is_scalar p) (is_scalar p') (λ v v' m. record { at = λ z z' n. ap is_scalar (product-later (further m n) r).same }))
con-alike (hasFieldAt c w n x) =
    in-turn (in-turn (counted-alike 1 1 c refl) (λ u u' k x x' i. ty-alike w)) (λ u u' k a a' p.
    in-turn (named-alike n) (λ v v' l y y' i.
    in-turn (ty-alike x) (λ w w' m b b' q. gives (hasField y a b) (hasField y' a' b') (λ z z' o. record {
      at = λ d d' h. has-same (name-later i d d' (further m (further o h))) (p.at d d' (further l (further m (further o h)))) (q.at d d' (further o h));
    }))))
  where
    has-same : {n m : Name} {u v a b : Ty Name} → n ≡ m → u ≡ v → a ≡ b → hasField n u a ≡ hasField m v b
    has-same e f g = rw (e, f, g)

abbrev pub Sets : Related (List (Con ℕ)) (List (Con ℕ))
Sets = Later (λ f cs. map (mapCon f) cs)

meant-alike : {t t' : Table} (p : Parsed (Option ConAt)) → Beside Sets t t' (meant p) (meant p)
unfolding meant
meant-alike (bad c) = record { at = λ s s' h. refusal 12 c }
meant-alike (read none p) = gives [] [] (λ u u' k. record { at = λ w w' m. refl })
meant-alike (read (some c) p) = in-turn (con-alike c)
    (λ u u' k d d' r. gives (d ∷ []) (d' ∷ []) (λ v v' l. record { at = λ w w' m. ap (λ (e : Con Name). e ∷ []) (r.at w w' (further l m)) }))

-- ══ Sheets ══

-- what two readings of a sheet came to
pub data SheetsOut (t t' : Table) : Sheet → Sheet → Type 0 where
  three-at : (l c : ℕ) (x : Sheet) → SheetsOut t t' (refusedIn 3 l c) x
  three-at' : (x : Sheet) (l c : ℕ) → SheetsOut t t' x (refusedIn 3 l c)
  refused-at : (n l c : ℕ) → SheetsOut t t' (refusedIn n l c) (refusedIn n l c)
  both-read : (cs cs' : List (Con ℕ)) (s s' : Sofar) → Behind t t' s s' → Sets (table_of s.pool s.table) (table_of s'.pool s'.table) cs cs'
      → SheetsOut t t' (sheet cs s) (sheet cs' s')

joined : {t t' u u' : Table} {cs cs' : List (Con ℕ)} {x x' : Sheet} → Onward t t' u u' → Sets u u' cs cs' → SheetsOut u u' x x'
    → SheetsOut t t' (with cs x) (with cs' x')
joined {cs} {cs'} k r (three-at l c x) = three-at l c (with cs' x)
joined {cs} {cs'} k r (three-at' x l c) = three-at' (with cs x) l c
joined k r (refused-at n l c) = refused-at n l c
joined {cs} {cs'} k r (both-read ds ds' s s' h q) = both-read (cs ++ ds) (cs' ++ ds') s s'
    (record { good = h.good; good' = h.good'; grown = further k h.grown; records = h.records })
    (record {
      at = λ v v' l.
          map-append (mapCon (nameNo v)) cs ds
          ∙ ap₂ (λ (as' bs : List (Con Name)). as' ++ bs) (r.at v v' (further h.grown l)) (q.at v v' l)
          ∙ sym (map-append (mapCon (nameNo v')) cs' ds');
    })

lines-alike : (k : ℕ) (ls : List Bytes) (t t' : Table) (s s' : Sofar) → Behind t t' s s' → SheetsOut t t' (lines_read k ls s) (lines_read k ls s')
unfolding lines_read lineRead
lines-alike k [] t t' s s' h = both-read [] [] s s' h (record { at = λ u u' l. refl })
lines-alike k (l ∷ ls) t t' s s' h = go ((meant-alike (line l)).at s s' h) (λ u u'. lines-alike (suc k) ls u u')
  where
    go : {x x' : Told (List (Con ℕ))} → Out Sets t t' x x'
        → ((u u' : Table) (s s' : Sofar) → Behind u u' s s' → SheetsOut u u' (lines_read (suc k) ls s) (lines_read (suc k) ls s'))
        → SheetsOut t t' (nextLine k x (λ s. lines_read (suc k) ls s)) (nextLine k x' (λ s. lines_read (suc k) ls s))
    go (three c x) f = three-at k c _
    go (three' x c) f = three-at' _ k c
    go (refusal n c) f = refused-at n k c
    go (steps.both cs cs' s s' b r) f = joined b.grown r (f (table_of s.pool s.table) (table_of s'.pool s'.table) s s'
        (record { good = b.good; good' = b.good'; grown = still (table_of s.pool s.table) (table_of s'.pool s'.table); records = b.records }))

-- the same text, read over two tables
pub sheets-alike : {pool table pool' table' : List ℕ} → Good pool table → Good pool' table' → (text : Bytes)
    → SheetsOut (table_of pool table) (table_of pool' table') (sheetRead pool table text) (sheetRead pool' table' text)
unfolding sheetRead
sheets-alike {pool} {table} {pool'} {table'} g g' text = lines-alike 1 (lines_of text) (table_of pool table) (table_of pool' table')
    (unread pool table) (unread pool' table')
    (record { good = g; good' = g'; grown = still (table_of pool table) (table_of pool' table'); records = refl })
