-- Trees that are alike once numbers are replaced by names are written as lists that read alike.
use Rattle.std.specs.Prelude.{◌≡◌, true, false, ℕ, suc, ◌+◌, ◌<◌}
use Rattle.std.proofs.Math.Path.{refl}
use Rattle.std.proofs.Common.{ap, ap₂, sym, ◌∙◌, arith}
use mathlib.Core.List.{List, [], ◌∷◌, ◌++◌, map, map-append}
use Rattle.std.proofs.Math.ListN.{length, length-map}
use Rattle.rules.specs.Base.{any, collect}
use Rattle.rules.specs.Exponents.{frac}
use Rattle.rules.specs.Trees.{Open, var, quant, par, free, base, Factor, ◌↑◌, Product, Ty, opened, basic, dim, fn, struct, list, Tys}
use Rattle.rules.specs.Trees.{
  nil,
  cons,
  Fields,
  noFields,
  field,
  Con,
  equal,
  isDim,
  is_scalar,
  hasField,
  Binding,
  ◌≔◌,
  size,
  sizeCon,
  sizeBinding,
  count,
  countFields,
  boolean,
  string,
  datetime,
}
use Rattle.rules.specs.Names.{Table}
use Rattle.rules.specs.Schemes.{Scheme, concrete, scheme}
use Rattle.rules.specs.Views.{kindOpen, kindBasic}
use Rattle.rules.specs.Writing.{
  Rec,
  rec,
  head,
  kindIn,
  twos,
  word_of,
  writeFactor,
  writeProduct,
  writeTy,
  writeTys,
  writeFields,
  writeCon,
  writeBinding,
  writeBound,
  writeScheme,
  words,
}
use Rattle.rules.specs.Offices.{
  Word,
  number,
  name,
  Name,
  nameNo,
  namesOne,
  readBack,
  ReadAlike,
  mapOpen,
  mapFactor,
  mapTy,
  map_tys,
  mapFields,
  mapCon,
  mapBinding,
  mapScheme,
}
use Rattle.laws.specs.Heads.{kind-head}
use Rattle.theorems_offices.proofs.Over.{collect-over}
use Rattle.theorems_offices.proofs.Sizes.{size-map, count_map, size-con, size-binding}
use Rattle.theorems_offices.proofs.Reading.{Seen, seen}

-- ══ Words from records ══

spread : List Seen → List Word
spread [] = []
spread (s ∷ ss) = s.0 ∷ s.1 ∷ s.2 ∷ s.3 ∷ spread ss

back-words : (t : Table) (rs : List Rec) → readBack t (words rs) ≡ spread (map (seen t) rs)
unfolding readBack words spread
back-words t [] = refl
back-words t (rec k a b c ∷ rs) = rw (back-words t rs)

pub words-alike : (t t' : Table) (rs rs' : List Rec) → map (seen t) rs ≡ map (seen t') rs' → ReadAlike t t' (words rs) (words rs')
words-alike t t' rs rs' e = record { words = back-words t rs ∙ ap spread e ∙ sym (back-words t' rs') }

-- ══ Trees over names, written ══

fields-counted : {N M : Type 0} (f : N → M) (fs : Fields N) → countFields (mapFields f fs) ≡ countFields fs
unfolding countFields mapTy
fields-counted f noFields = refl
fields-counted f (field n t fs) = rw (fields-counted f fs)

-- a record of a kind and a length
abbrev line : ℕ → ℕ → Word → ℕ → ℕ → Seen
line k n w b c = (number (head k n), w, number b, number c)

abbrev openSeen : Open Name → Seen
openSeen (var x) = line 1 1 (name x) 0 0
openSeen (quant i) = line 14 1 (number i) 0 0
openSeen (par x) = line 2 1 (name x) 0 0

abbrev factorSeen : Factor Name → Seen
factorSeen (free (var x) ↑ frac n d) = line 11 1 (name x) (twos n) d
factorSeen (free (par x) ↑ frac n d) = line 12 1 (name x) (twos n) d
factorSeen (base x ↑ frac n d) = line 13 1 (name x) (twos n) d
factorSeen (free (quant i) ↑ frac n d) = line 15 1 (number i) (twos n) d

abbrev productSeen : Product Name → List Seen
productSeen p = line 3 (suc (length p)) (number (length p)) 0 0 ∷ map factorSeen p

unfoldable mutual
  tySeen : Ty Name → List Seen
  tySeen (opened o) = openSeen o ∷ []
  tySeen (basic b) = line (kindBasic b) 1 (number 0) 0 0 ∷ []
  tySeen (dim p) = productSeen p
  tySeen (fn ps r) = line 7 (size (fn ps r)) (number (count ps)) 0 0 ∷ (tysSeen ps ++ tySeen r)
  tySeen (struct n as' fs) = line 8 (size (struct n as' fs)) (name n) (count as') (countFields fs) ∷ (tysSeen as' ++ fieldsSeen fs)
  tySeen (list t) = line 10 (size (list t)) (number 0) 0 0 ∷ tySeen t

  tysSeen : Tys Name → List Seen
  tysSeen nil = []
  tysSeen (cons t ts) = tySeen t ++ tysSeen ts

  fieldsSeen : Fields Name → List Seen
  fieldsSeen noFields = []
  fieldsSeen (field n t fs) = line 9 (suc (size t)) (name n) 0 0 ∷ (tySeen t ++ fieldsSeen fs)

pub conSeen : Con Name → List Seen
conSeen (equal l r) = line 20 (sizeCon (equal l r)) (number 0) 0 0 ∷ (tySeen l ++ tySeen r)
conSeen (isDim t) = line 21 (sizeCon (isDim t)) (number 0) 0 0 ∷ tySeen t
conSeen (is_scalar p) = line 22 (sizeCon (is_scalar p)) (number 0) 0 0 ∷ productSeen p
conSeen (hasField n s t) = line 23 (sizeCon (hasField n s t)) (name n) 0 0 ∷ (tySeen s ++ tySeen t)

bindingSeen : Binding Name → List Seen
bindingSeen (x ≔ t) = line 24 (sizeBinding (x ≔ t)) (name x) 0 0 ∷ tySeen t

boundSeen : Open Name → Seen
boundSeen (var x) = line 25 1 (name x) 0 0
boundSeen (quant i) = line 25 1 (number i) 1 0
boundSeen (par x) = line 25 1 (name x) 0 0

schemeSeen : Scheme Name → List Seen
schemeSeen (concrete t) = line 26 (suc (size t)) (number 0) 1 0 ∷ tySeen t
schemeSeen (scheme n t bs) = line 26 (suc (size t + length bs)) (number n) 0 0 ∷ (tySeen t ++ map boundSeen bs)

module _ (t : Table) where
  -- ══ Trees over numbers, written: the same records with names in them ══

  -- a record that names something, and one that doesn't, whatever its length
  name-line : (k n a b c : ℕ) → k < 65_536 → namesOne k b ≡ true → seen t (rec (head k n) a b c) ≡ line k n (name (nameNo t a)) b c
  name-line k n a b c h e = rw (kind-head k n h, e)

  number-line : (k n a b c : ℕ) → k < 65_536 → namesOne k b ≡ false → seen t (rec (head k n) a b c) ≡ line k n (number a) b c
  number-line k n a b c h e = rw (kind-head k n h, e)

  open-seen : (o : Open ℕ) → seen t (rec (head (kindOpen o) 1) (word_of o) 0 0) ≡ openSeen (mapOpen (nameNo t) o)
  unfolding namesOne any head kindIn
  open-seen (var x) = refl
  open-seen (quant i) = refl
  open-seen (par x) = refl

  factor-seen : (x : Factor ℕ) → seen t (writeFactor x) ≡ factorSeen (mapFactor (nameNo t) x)
  unfolding namesOne any writeFactor head kindIn
  factor-seen (free (var x) ↑ frac n d) = refl
  factor-seen (free (quant i) ↑ frac n d) = refl
  factor-seen (free (par x) ↑ frac n d) = refl
  factor-seen (base x ↑ frac n d) = refl

  factors-seen : (p : Product ℕ) → map (seen t) (map writeFactor p) ≡ map factorSeen (map (mapFactor (nameNo t)) p)
  factors-seen [] = refl
  factors-seen (x ∷ p) = rw (factor-seen x, factors-seen p)

  product-seen : (p : Product ℕ) → map (seen t) (writeProduct p) ≡ productSeen (map (mapFactor (nameNo t)) p)
  unfolding namesOne any writeProduct
  product-seen p = rw (number-line 3 (suc (length p)) (length p) 0 0 (omega arith) refl, factors-seen p, length-map p (mapFactor (nameNo t)))

  mutual
    unfolding writeTy mapTy tySeen namesOne any

    ty-seen : (u : Ty ℕ) → map (seen t) (writeTy u) ≡ tySeen (mapTy (nameNo t) u)
    ty-seen (opened o) = rw (open-seen o)
    ty-seen (basic boolean) = rw (number-line 4 1 0 0 0 (omega arith) refl)
    ty-seen (basic string) = rw (number-line 5 1 0 0 0 (omega arith) refl)
    ty-seen (basic datetime) = rw (number-line 6 1 0 0 0 (omega arith) refl)
    ty-seen (dim p) = product-seen p
    ty-seen (fn ps r) =
        let first = number-line 7 (size (fn ps r)) (count ps) 0 0 (omega arith) refl in
        rw (size-map (nameNo t) (fn ps r), first, map-append (seen t) (writeTys ps) (writeTy r), tys-seen ps, ty-seen r, count_map (nameNo t) ps)
    ty-seen (struct n as' fs) =
        let first = name-line 8 (size (struct n as' fs)) n (count as') (countFields fs) (omega arith) refl in
        rw (
          size-map (nameNo t) (struct n as' fs),
          first,
          map-append (seen t) (writeTys as') (writeFields fs),
          tys-seen as',
          fields-seen fs,
          count_map (nameNo t) as',
          fields-counted (nameNo t) fs,
        )
    ty-seen (list u) = rw (size-map (nameNo t) (list u), number-line 10 (size (list u)) 0 0 0 (omega arith) refl, ty-seen u)

    tys-seen : (us : Tys ℕ) → map (seen t) (writeTys us) ≡ tysSeen (map_tys (nameNo t) us)
    tys-seen nil = refl
    tys-seen (cons u us) = rw (map-append (seen t) (writeTy u) (writeTys us), ty-seen u, tys-seen us)

    fields-seen : (fs : Fields ℕ) → map (seen t) (writeFields fs) ≡ fieldsSeen (mapFields (nameNo t) fs)
    fields-seen noFields = refl
    fields-seen (field n u fs) =
        let first = name-line 9 (suc (size u)) n 0 0 (omega arith) refl in
        rw (size-map (nameNo t) u, first, map-append (seen t) (writeTy u) (writeFields fs), ty-seen u, fields-seen fs)

  pub con-seen : (c : Con ℕ) → map (seen t) (writeCon c) ≡ conSeen (mapCon (nameNo t) c)
  unfolding writeCon mapCon conSeen namesOne any
  con-seen (equal l r) =
      let first = number-line 20 (sizeCon (equal l r)) 0 0 0 (omega arith) refl in
      rw (size-con (nameNo t) (equal l r), first, map-append (seen t) (writeTy l) (writeTy r), ty-seen l, ty-seen r)
  con-seen (isDim u) = rw (size-con (nameNo t) (isDim u), number-line 21 (sizeCon (isDim u)) 0 0 0 (omega arith) refl, ty-seen u)
  con-seen (is_scalar p) = rw (size-con (nameNo t) (is_scalar p), number-line 22 (sizeCon (is_scalar p)) 0 0 0 (omega arith) refl, product-seen p)
  con-seen (hasField n s u) =
      let first = name-line 23 (sizeCon (hasField n s u)) n 0 0 (omega arith) refl in
      rw (size-con (nameNo t) (hasField n s u), first, map-append (seen t) (writeTy s) (writeTy u), ty-seen s, ty-seen u)

  -- ══ Bindings, bounds, schemes and sets ══

  binding-seen : (b : Binding ℕ) → map (seen t) (writeBinding b) ≡ bindingSeen (mapBinding (nameNo t) b)
  unfolding writeBinding mapBinding bindingSeen namesOne any
  binding-seen (x ≔ u) = rw (size-binding (nameNo t) (x ≔ u), name-line 24 (sizeBinding (x ≔ u)) x 0 0 (omega arith) refl, ty-seen u)

  bound-seen : (o : Open ℕ) → seen t (writeBound o) ≡ boundSeen (mapOpen (nameNo t) o)
  unfolding writeBound boundSeen namesOne any head kindIn
  bound-seen (var x) = refl
  bound-seen (quant i) = refl
  bound-seen (par x) = refl

  bounds-seen : (os : List (Open ℕ)) → map (seen t) (map writeBound os) ≡ map boundSeen (map (mapOpen (nameNo t)) os)
  bounds-seen [] = refl
  bounds-seen (o ∷ os) = rw (bound-seen o, bounds-seen os)

  scheme-seen : (s : Scheme ℕ) → map (seen t) (writeScheme s) ≡ schemeSeen (mapScheme (nameNo t) s)
  unfolding writeScheme mapScheme schemeSeen namesOne any
  scheme-seen (concrete u) = rw (size-map (nameNo t) u, number-line 26 (suc (size u)) 0 1 0 (omega arith) refl, ty-seen u)
  scheme-seen (scheme n u bs) =
      let first = number-line 26 (suc (size u + length bs)) n 0 0 (omega arith) refl in
      rw (size-map (nameNo t) u, length-map bs (mapOpen (nameNo t)), first, map-append (seen t) (writeTy u) (map writeBound bs), ty-seen u, bounds-seen bs)

  set-seen : (cs : List (Con ℕ)) → map (seen t) (collect writeCon cs) ≡ collect conSeen (map (mapCon (nameNo t)) cs)
  set-seen cs = sym (collect-over (mapCon (nameNo t)) (seen t) writeCon conSeen (λ c. sym (con-seen c)) cs)

  bindings-seen : (bs : List (Binding ℕ)) → map (seen t) (collect writeBinding bs) ≡ collect bindingSeen (map (mapBinding (nameNo t)) bs)
  bindings-seen bs = sym (collect-over (mapBinding (nameNo t)) (seen t) writeBinding bindingSeen (λ b. sym (binding-seen b)) bs)

  names-seen : (ns : List ℕ) → map (seen t) (map (λ n. writeBound (var n)) ns) ≡ map (λ n. boundSeen (var n)) (map (nameNo t) ns)
  names-seen [] = refl
  names-seen (n ∷ ns) = rw (bound-seen (var n), names-seen ns)

-- ══ Written alike ══

module _ (t t' : Table) where
  pub type-written : (u u' : Ty ℕ) → mapTy (nameNo t) u ≡ mapTy (nameNo t') u' → map (seen t) (writeTy u) ≡ map (seen t') (writeTy u')
  type-written u u' e = ty-seen t u ∙ ap tySeen e ∙ sym (ty-seen t' u')

  pub set-written : (cs cs' : List (Con ℕ)) → map (mapCon (nameNo t)) cs ≡ map (mapCon (nameNo t')) cs'
      → map (seen t) (collect writeCon cs) ≡ map (seen t') (collect writeCon cs')
  set-written cs cs' e = set-seen t cs ∙ ap (collect conSeen) e ∙ sym (set-seen t' cs')

  pub bindings-written : (bs bs' : List (Binding ℕ)) → map (mapBinding (nameNo t)) bs ≡ map (mapBinding (nameNo t')) bs'
      → map (seen t) (collect writeBinding bs) ≡ map (seen t') (collect writeBinding bs')
  bindings-written bs bs' e = bindings-seen t bs ∙ ap (collect bindingSeen) e ∙ sym (bindings-seen t' bs')

  pub scheme-written : (s s' : Scheme ℕ) → mapScheme (nameNo t) s ≡ mapScheme (nameNo t') s' → map (seen t) (writeScheme s) ≡ map (seen t') (writeScheme s')
  scheme-written s s' e = scheme-seen t s ∙ ap schemeSeen e ∙ sym (scheme-seen t' s')

  pub opened-written : (u u' : Ty ℕ) (os os' : List (Open ℕ)) → mapTy (nameNo t) u ≡ mapTy (nameNo t') u'
      → map (mapOpen (nameNo t)) os ≡ map (mapOpen (nameNo t')) os'
      → map (seen t) (writeTy u ++ map writeBound os) ≡ map (seen t') (writeTy u' ++ map writeBound os')
  opened-written u u' os os' e f = both t u os ∙ ap₂ (λ v ps. tySeen v ++ map boundSeen ps) e f ∙ sym (both t' u' os')
    where
      both : (t : Table) (u : Ty ℕ) (os : List (Open ℕ))
          → map (seen t) (writeTy u ++ map writeBound os) ≡ tySeen (mapTy (nameNo t) u) ++ map boundSeen (map (mapOpen (nameNo t)) os)
      both t u os = map-append (seen t) (writeTy u) (map writeBound os) ∙ ap₂ (λ (a b : List Seen). a ++ b) (ty-seen t u) (bounds-seen t os)

  pub answer-written : (bs bs' : List (Binding ℕ)) (ns ns' : List ℕ) → map (mapBinding (nameNo t)) bs ≡ map (mapBinding (nameNo t')) bs'
      → map (nameNo t) ns ≡ map (nameNo t') ns'
      → map (seen t) (collect writeBinding bs ++ map (λ n. writeBound (var n)) ns)
      ≡ map (seen t') (collect writeBinding bs' ++ map (λ n. writeBound (var n)) ns')
  answer-written bs bs' ns ns' e f = both t bs ns ∙ ap₂ (λ cs ms. collect bindingSeen cs ++ map (λ n. boundSeen (var n)) ms) e f ∙ sym (both t' bs' ns')
    where
      both : (t : Table) (bs : List (Binding ℕ)) (ns : List ℕ)
          → map (seen t) (collect writeBinding bs ++ map (λ n. writeBound (var n)) ns) ≡ collect bindingSeen (map (mapBinding (nameNo t)) bs)
          ++ map (λ n. boundSeen (var n)) (map (nameNo t) ns)
      both t bs ns = map-append (seen t) (collect writeBinding bs) (map (λ n. writeBound (var n)) ns)
          ∙ ap₂ (λ (a b : List Seen). a ++ b) (bindings-seen t bs) (names-seen t ns)
