-- Every written type is read back.
use Rattle.std.specs.Prelude.{◌≡◌, Bool, true, false, ◌&&◌, eqb, length}
use Rattle.std.proofs.Math.Path.{refl}
use Rattle.std.proofs.Common.{sym, ap, ◌∙◌}
use mathlib.Core.List.{List, [], ◌∷◌, ◌++◌, append_assoc}
use Rattle.std.proofs.Math.Option.{none, some}
use Prim.Native.Nat.{ℕ, zero, suc, ◌≤◌}
use native.Mathlib.Omega.{arith}
use borrow.Author.Tests.{ltb-true, ne_eqb}
use Rattle.std.proofs.Math.ListN.{length-append}
use Rattle.rules.specs.Base.{collect}
use Rattle.rules.specs.Trees.{
  var,
  quant,
  par,
  Product,
  Names,
  Basic,
  boolean,
  string,
  datetime,
  Ty,
  opened,
  basic,
  dim,
  fn,
  struct,
  list,
  Tys,
  nil,
  cons,
  Fields,
  noFields,
  field,
  count,
  countFields,
  depth,
  depthTys,
  depthFields,
}
use Rattle.rules.specs.Names.{Bytes, table_of, numbersOf, is_held}
use Rattle.rules.specs.WellFormed.{goodOpen, goodTy, goodTys, goodFields, rising, is_lt, fieldNames}
use Rattle.laws.specs.Lists.{Every, and_left, and_right}
use Rattle.laws.proofs.Lists.{true≢false}
use Rattle.laws.specs.NameTable.{Good}
use Rattle.laws.proofs.Reading.{deep}
use Rattle.rules.specs.Grammar.{
  here,
  give,
  ◌>>=◌,
  ◌>>◌,
  Rule,
  isBlank,
  is_plain,
  isDigit,
  skipFrom,
  skip,
  spellFrom,
  spell,
  sign,
  starts,
  ifSign,
  nameFrom,
  dimension,
  moreTys,
  tys,
  function,
  listed,
  moreFields,
  fields,
  structure,
  type,
  TyAt,
  TysAt,
  nilAt,
  FieldsAt,
  noneAt,
  field_at,
  fieldName,
  NameAt,
}
use Rattle.rules.specs.TextWriting.{escaped, nameText, openText, dimensionText, tyText, tysText, moreTysText, argumentsText, fieldsText, moreFieldsText}
use Rattle.text_laws.specs.Spelling.{IsByte}
use Rattle.text_laws.proofs.Spelling.{Finds, found, then, NameEnds}
use Rattle.text_laws.proofs.Meanings as Meanings
use Rattle.text_laws.proofs.ReadBack.{Stops, ListStops, as', blank-type, name-found, Dimension, dimension-found}

-- ══ What follows a type ══

greater-stops : (rest : Bytes) → ListStops (62 ∷ rest)
unfolding nameFrom is_plain isDigit skip skipFrom isBlank
greater-stops rest = record { stops = record { ends = λ c. refl; no_arguments = λ c. refl; no_fields = λ c. refl }; no-comma = λ c. refl }

bracket-stops : (rest : Bytes) → Stops (93 ∷ rest)
unfolding nameFrom is_plain isDigit skip skipFrom isBlank
bracket-stops rest = record { ends = λ c. refl; no_arguments = λ c. refl; no_fields = λ c. refl }

pub paren-stops : (rest : Bytes) → ListStops (41 ∷ rest)
unfolding nameFrom is_plain isDigit skip skipFrom isBlank
paren-stops rest = record { stops = record { ends = λ c. refl; no_arguments = λ c. refl; no_fields = λ c. refl }; no-comma = λ c. refl }

brace-stops : (rest : Bytes) → ListStops (125 ∷ rest)
unfolding nameFrom is_plain isDigit skip skipFrom isBlank
brace-stops rest = record { stops = record { ends = λ c. refl; no_arguments = λ c. refl; no_fields = λ c. refl }; no-comma = λ c. refl }

-- ══ A name is no blank ══

pub plain-no : (b k : ℕ) → is_plain k ≡ false → is_plain b ≡ true → eqb b k ≡ false
plain-no b k h e = ne_eqb b k (λ z. true≢false (sym e ∙ ap is_plain z ∙ h))

plain-shown : (b : ℕ) → is_plain b ≡ true → isBlank b ≡ false
unfolding isBlank is_plain isDigit
plain-shown b e = rw (plain-no b 32 refl e, plain-no b 9 refl e, plain-no b 13 refl e)

skip-shown : (b c : ℕ) (t : Bytes) → isBlank b ≡ false → skip (here c (b ∷ t)) ≡ here c (b ∷ t)
unfolding skip skipFrom
skip-shown b c t e = rw (e, skipFrom)

-- a field's name begins where it is looked for
skip-name : (n : Bytes) (c : ℕ) (t : Bytes) → skip (here c (nameText n ++ (58 ∷ t))) ≡ here c (nameText n ++ (58 ∷ t))
unfolding nameText collect escaped isBlank
skip-name [] c t = skip-shown 58 c t refl
skip-name (b ∷ n) c t = go (is_plain b) refl
  where
    go : (u : Bool) → is_plain b ≡ u → skip (here c (nameText (b ∷ n) ++ (58 ∷ t))) ≡ here c (nameText (b ∷ n) ++ (58 ∷ t))
    go true e = rw e (skip-shown b c ((nameText n) ++ (58 ∷ t)) (plain-shown b e))
    go false e = rw e (skip-shown 92 c _ refl)

module _ {pool table : List ℕ} (good : Good pool table) (bytes : Every IsByte pool) where
  abbrev pub name_of : ℕ → Bytes
  name_of x = Meanings.name_of good x

  abbrev pub ν : Names ℕ
  ν = numbersOf (table_of pool table)

  abbrev pub isGood : Ty ℕ → Bool
  isGood t = goodTy ν (is_held (table_of pool table)) 0 t

  abbrev areGood : Tys ℕ → Bool
  areGood ts = goodTys ν (is_held (table_of pool table)) 0 ts

  abbrev fieldsGood : Fields ℕ → Bool
  fieldsGood fs = goodFields ν (is_held (table_of pool table)) 0 fs

  types-stop : (ts : Tys ℕ) (rest : Bytes) → Stops rest → Stops (moreTysText name_of ts ++ rest)
  unfolding tyText nameFrom is_plain isDigit skip skipFrom isBlank
  types-stop nil rest s = s
  types-stop (cons t ts) rest s = record { ends = λ c. refl; no_arguments = λ c. refl; no_fields = λ c. refl }

  fields-stop : (fs : Fields ℕ) (rest : Bytes) → Stops rest → Stops (moreFieldsText name_of fs ++ rest)
  unfolding tyText nameFrom is_plain isDigit skip skipFrom isBlank
  fields-stop noFields rest s = s
  fields-stop (field n t fs) rest s = record { ends = λ c. refl; no_arguments = λ c. refl; no_fields = λ c. refl }

  -- a struct's name ends where arguments or fields begin, or behind both
  struct-ends : (as' : Tys ℕ) (fs : Fields ℕ) (rest : Bytes) → Stops rest → NameEnds (argumentsText name_of as' ++ (fieldsText name_of fs ++ rest))
  unfolding tyText nameFrom is_plain isDigit
  struct-ends nil noFields rest s = s.ends
  struct-ends nil (field n t fs) rest s = λ c. refl
  struct-ends (cons t ts) fs rest s = λ c. refl

  no-arguments-in : (fs : Fields ℕ) (rest : Bytes) → Stops rest → (c : ℕ) → starts "<" (skip (here c (fieldsText name_of fs ++ rest))) ≡ false
  unfolding tyText skip skipFrom isBlank
  no-arguments-in noFields rest s c = s.no_arguments c
  no-arguments-in (field n t fs) rest s c = refl

  -- a type doesn't begin with a closing bracket
  no-paren : (t : Ty ℕ) → isGood t ≡ true → (c : ℕ) (rest : Bytes) → starts ")" (skip (here c (tyText name_of t ++ rest))) ≡ false
  unfolding goodTy goodOpen tyText openText dimensionText skip skipFrom isBlank
  no-paren (opened (var x)) g c rest = refl
  no-paren (opened (quant i)) g c rest = absurd (omega (arith, ltb-true i 0 g))
  no-paren (opened (par x)) g c rest = refl
  no-paren (basic boolean) g c rest = refl
  no-paren (basic string) g c rest = refl
  no-paren (basic datetime) g c rest = refl
  no-paren (dim p) g c rest = refl
  no-paren (fn ps r) g c rest = refl
  no-paren (struct n as' fs) g c rest = refl
  no-paren (list t) g c rest = refl

  -- ══ How many can follow ══

  many-types : (ts : Tys ℕ) (t : Bytes) → count ts ≤ length (moreTysText name_of ts ++ t)
  unfolding tyText count
  many-types nil t = omega arith
  many-types (cons u ts) t = let h = many-types ts t in simp (append_assoc, length-append) (omega (arith, simp length-append at h))

  many-fields : (fs : Fields ℕ) (t : Bytes) → countFields fs ≤ length (moreFieldsText name_of fs ++ t)
  unfolding tyText countFields
  many-fields noFields t = omega arith
  many-fields (field n u fs) t = let h = many-fields fs t in simp (append_assoc, length-append) (omega (arith, simp length-append at h))

  -- ══ Fields rise ══

  rises-behind : (n : ℕ) (fs : Fields ℕ) → rising ν.order (n ∷ fieldNames fs) ≡ true → Meanings.Rises good (some n) fs
  unfolding rising
  rises-behind n noFields h = tt
  rises-behind n (field m t fs) h = (and_left (is_lt (ν.order n m)) _ h, rises-behind m fs (and_right (is_lt (ν.order n m)) _ h))

  rises-all : (fs : Fields ℕ) → rising ν.order (fieldNames fs) ≡ true → Meanings.Rises good none fs
  rises-all noFields h = tt
  rises-all (field n t fs) h = (tt, rises-behind n fs h)

  -- ══ Texts, from left to right ══

  list-text : (t : Ty ℕ) (rest : Bytes) → tyText name_of (list t) ++ rest ≡ 76 ∷ 105 ∷ 115 ∷ 116 ∷ 60 ∷ (tyText name_of t ++ (62 ∷ rest))
  unfolding tyText
  list-text t rest = rw (append_assoc (tyText name_of t) (62 ∷ []) rest)

  fn-text : (ps : Tys ℕ) (r : Ty ℕ) (rest : Bytes)
      → tyText name_of (fn ps r) ++ rest ≡ 70 ∷ 110 ∷ 91 ∷ 40 ∷ (tysText name_of ps ++ (41 ∷ 32 ∷ 45 ∷ 62 ∷ 32 ∷ (tyText name_of r ++ (93 ∷ rest))))
  unfolding tyText
  fn-text ps r rest = rw (
    append_assoc (tysText name_of ps) (41 ∷ 32 ∷ 45 ∷ 62 ∷ 32 ∷ (tyText name_of r ++ (93 ∷ []))) rest,
    append_assoc (tyText name_of r) (93 ∷ []) rest,
  )

  struct-text : (x : ℕ) (as' : Tys ℕ) (fs : Fields ℕ) (rest : Bytes)
      → tyText name_of (struct x as' fs) ++ rest ≡ 64 ∷ (nameText (name_of x) ++ (argumentsText name_of as' ++ (fieldsText name_of fs ++ rest)))
  unfolding tyText
  struct-text x as' fs rest = rw (
    append_assoc (nameText (name_of x)) (argumentsText name_of as' ++ fieldsText name_of fs) rest,
    append_assoc (argumentsText name_of as') (fieldsText name_of fs) rest,
  )

  arguments-text : (t : Ty ℕ) (ts : Tys ℕ) (rest : Bytes)
      → argumentsText name_of (cons t ts) ++ rest ≡ 60 ∷ (tyText name_of t ++ (moreTysText name_of ts ++ (62 ∷ rest)))
  unfolding tyText
  arguments-text t ts rest = rw (
    append_assoc (tyText name_of t) (moreTysText name_of ts ++ (62 ∷ [])) rest,
    append_assoc (moreTysText name_of ts) (62 ∷ []) rest,
  )

  more-text : (t : Ty ℕ) (ts : Tys ℕ) (rest : Bytes)
      → moreTysText name_of (cons t ts) ++ rest ≡ 44 ∷ 32 ∷ (tyText name_of t ++ (moreTysText name_of ts ++ rest))
  unfolding tyText
  more-text t ts rest = rw (append_assoc (tyText name_of t) (moreTysText name_of ts) rest)

  parameters-text : (t : Ty ℕ) (ts : Tys ℕ) (rest : Bytes) → tysText name_of (cons t ts) ++ rest ≡ tyText name_of t ++ (moreTysText name_of ts ++ rest)
  unfolding tyText
  parameters-text t ts rest = append_assoc (tyText name_of t) (moreTysText name_of ts) rest

  fields-text : (n : ℕ) (t : Ty ℕ) (fs : Fields ℕ) (rest : Bytes)
      → fieldsText name_of (field n t fs) ++ rest
      ≡ 123 ∷ (nameText (name_of n) ++ (58 ∷ 32 ∷ (tyText name_of t ++ (moreFieldsText name_of fs ++ (125 ∷ rest)))))
  unfolding tyText
  fields-text n t fs rest = rw (
    append_assoc (nameText (name_of n)) (58 ∷ 32 ∷ (tyText name_of t ++ (moreFieldsText name_of fs ++ (125 ∷ [])))) rest,
    append_assoc (tyText name_of t) (moreFieldsText name_of fs ++ (125 ∷ [])) rest,
    append_assoc (moreFieldsText name_of fs) (125 ∷ []) rest,
  )

  more-fields-text : (n : ℕ) (t : Ty ℕ) (fs : Fields ℕ) (rest : Bytes)
      → moreFieldsText name_of (field n t fs) ++ rest
      ≡ 44 ∷ 32 ∷ (nameText (name_of n) ++ (58 ∷ 32 ∷ (tyText name_of t ++ (moreFieldsText name_of fs ++ rest))))
  unfolding tyText
  more-fields-text n t fs rest = rw (
    append_assoc (nameText (name_of n)) (58 ∷ 32 ∷ (tyText name_of t ++ moreFieldsText name_of fs)) rest,
    append_assoc (tyText name_of t) (moreFieldsText name_of fs) rest,
  )

  -- ══ Types ══

  abbrev pub TyFound : ℕ → Ty ℕ → Type 0
  TyFound d t = (c : ℕ) (rest : Bytes) → Stops rest → Finds (type d (here c (tyText name_of t ++ rest))) (Meanings.TyMeans good t) rest

  lift : (t : Ty ℕ) (d : ℕ) → depth t ≤ d → ((e : ℕ) → depth t ≤ suc e → TyFound (suc e) t) → TyFound d t
  lift t zero h k = absurd (omega (arith, deep t))
  lift t (suc e) h k = k e h

  var-found : (x d : ℕ) → Meanings.Held good x → TyFound (suc d) (opened (var x))
  unfolding type skip skipFrom isBlank spell spellFrom tyText openText
  var-found x d h c rest s = then _ (name-found good bytes x (suc c) rest h s.ends)
      (λ m b i. found (Meanings.open-means good c (var x) (var m) (λ j r. rw (Meanings.known good x h m i j r))))

  par-found : (x d : ℕ) → Meanings.Held good x → TyFound (suc d) (opened (par x))
  unfolding type skip skipFrom isBlank spell spellFrom tyText openText
  par-found x d h c rest s = then _ (name-found good bytes x (suc c) rest h s.ends)
      (λ m b i. found (Meanings.open-means good c (par x) (par m) (λ j r. rw (Meanings.known good x h m i j r))))

  basic-found : (b : Basic) (d : ℕ) → TyFound (suc d) (basic b)
  unfolding type skip skipFrom isBlank spell spellFrom tyText
  basic-found boolean d c rest s = found (Meanings.basic-means good c boolean)
  basic-found string d c rest s = found (Meanings.basic-means good c string)
  basic-found datetime d c rest s = found (Meanings.basic-means good c datetime)

  pub begins-dimension : (d c : ℕ) (p : Product ℕ) (rest : Bytes)
      → type (suc d) (here c (dimensionText name_of p ++ rest)) ≡ dimension (here c (dimensionText name_of p ++ rest))
  unfolding type dimensionText skip skipFrom isBlank
  begins-dimension d c p rest = refl

  dim-means : (p : Product ℕ) → Meanings.GoodDim good p → (w : TyAt) → Dimension good bytes p w → Meanings.TyMeans good (dim p) w
  dim-means p g w h j r q e m = rw h.is (Meanings.dim-means good h.start h.end p h.factors h.means g.in_order g.few j r q e m)

  dim-found : (p : Product ℕ) (d : ℕ) → Meanings.GoodDim good p → TyFound (suc d) (dim p)
  unfolding tyText
  dim-found p d g c rest s = rw (begins-dimension d c p rest) (as' (dimension-found good bytes p g.each c rest) (λ w h. dim-means p g w h))

  -- types with what is found in them
  list-found : (t : Ty ℕ) (d : ℕ) → TyFound d t → TyFound (suc d) (list t)
  unfolding type listed skip skipFrom isBlank spell spellFrom
  list-found t d f c rest s = rw (list-text t rest)
      (then _ (f (suc (suc (suc (suc (suc c))))) (62 ∷ rest) (greater-stops rest).stops) (λ w b m. found (Meanings.list-means good c t w m)))

  -- the rules for what stands in brackets
  abbrev MoreFound : ℕ → Tys ℕ → Type 0
  MoreFound d ts = (n : ℕ) → count ts ≤ n → (c : ℕ) (rest : Bytes) → ListStops rest
      → Finds (moreTys (type d) n (here c (moreTysText name_of ts ++ rest))) (Meanings.TysMean good ts) rest

  more-none : (d : ℕ) → MoreFound d nil
  unfolding moreTys tyText
  more-none d zero h c rest s = found (Meanings.nil-means good)
  more-none d (suc n) h c rest s = rw (s.no-comma c) (found (Meanings.nil-means good))

  more-cons : (d : ℕ) (t : Ty ℕ) (ts : Tys ℕ) → TyFound d t → MoreFound d ts → MoreFound d (cons t ts)
  unfolding moreTys count skip skipFrom isBlank spell spellFrom
  more-cons d t ts f g zero h c rest s = absurd (omega arith)
  more-cons d t ts f g (suc n) h c rest s =
      rw (more-text t ts rest) (rw (blank-type d (suc c) (tyText name_of t ++ (moreTysText name_of ts ++ rest)))
      (then _ (f (suc (suc c)) (moreTysText name_of ts ++ rest) (types-stop ts rest s.stops))
      (λ w b m. then _ (g n (omega arith) b rest s) (λ ws e k. found (Meanings.cons-means good t ts w ws m k)))))

  tys-found : (d : ℕ) (t : Ty ℕ) (ts : Tys ℕ) → TyFound d t → MoreFound d ts → (c : ℕ) (rest : Bytes) → ListStops rest
      → Finds (tys (type d) (here c (tyText name_of t ++ (moreTysText name_of ts ++ rest)))) (Meanings.TysMean good (cons t ts)) rest
  tys-found d t ts f g c rest s =
      then _ (f c (moreTysText name_of ts ++ rest) (types-stop ts rest s.stops)) (λ w b m.
      then _ (g (length (moreTysText name_of ts ++ rest)) (many-types ts rest) b rest s) (λ ws e k. found (Meanings.cons-means good t ts w ws m k)))

  abbrev ParametersFound : ℕ → Tys ℕ → Type 0
  ParametersFound d ps = (c : ℕ) (rest : Bytes)
      → Finds (ifSign ")" (give nilAt) (tys (type d)) (here c (tysText name_of ps ++ (41 ∷ rest)))) (Meanings.TysMean good ps) (41 ∷ rest)

  no-parameters : (d : ℕ) → ParametersFound d nil
  unfolding tyText skip skipFrom isBlank
  no-parameters d c rest = found (Meanings.nil-means good)

  parameters-found : (d : ℕ) (t : Ty ℕ) (ts : Tys ℕ) → isGood t ≡ true → TyFound d t → MoreFound d ts → ParametersFound d (cons t ts)
  parameters-found d t ts g f k c rest =
      rw (parameters-text t ts (41 ∷ rest))
      (rw (no-paren t g c (moreTysText name_of ts ++ (41 ∷ rest))) (tys-found d t ts f k c (41 ∷ rest) (paren-stops rest)))

  fn-found : (d : ℕ) (ps : Tys ℕ) (r : Ty ℕ) → ParametersFound d ps → TyFound d r → TyFound (suc d) (fn ps r)
  unfolding type function skip skipFrom isBlank spell spellFrom
  fn-found d ps r f g c rest s =
      rw (fn-text ps r rest) (then _ (f (suc (suc (suc (suc c)))) (32 ∷ 45 ∷ 62 ∷ 32 ∷ (tyText name_of r ++ (93 ∷ rest)))) (λ vs b k.
      rw (blank-type d (suc (suc (suc (suc b)))) (tyText name_of r ++ (93 ∷ rest)))
      (then _ (g (suc (suc (suc (suc (suc b))))) (93 ∷ rest) (bracket-stops rest)) (λ w e m.
      found (Meanings.fn-means good c ps r vs w k m)))))

  -- ══ Structs ══

  abbrev arguments : ℕ → Rule TysAt
  arguments d = ifSign "<" (sign "<" >> tys (type d) >>= λ ts. sign ">" >> give ts) (give nilAt)

  abbrev ArgumentsFound : ℕ → Tys ℕ → Type 0
  ArgumentsFound d as' = (c : ℕ) (rest : Bytes) → ((c : ℕ) → starts "<" (skip (here c rest)) ≡ false)
      → Finds (arguments d (here c (argumentsText name_of as' ++ rest))) (Meanings.TysMean good as') rest

  no-arguments-found : (d : ℕ) → ArgumentsFound d nil
  unfolding tyText
  no-arguments-found d c rest h = rw (h c) (found (Meanings.nil-means good))

  arguments-found : (d : ℕ) (t : Ty ℕ) (ts : Tys ℕ) → TyFound d t → MoreFound d ts → ArgumentsFound d (cons t ts)
  unfolding skip skipFrom isBlank spell spellFrom
  arguments-found d t ts f k c rest h =
      rw (arguments-text t ts rest) (then _ (tys-found d t ts f k (suc c) (62 ∷ rest) (greater-stops rest)) (λ ws b m. found m))

  abbrev MoreFieldsFound : ℕ → Fields ℕ → Type 0
  MoreFieldsFound d fs = (n : ℕ) → countFields fs ≤ n → (c : ℕ) (rest : Bytes) → ListStops rest
      → Finds (moreFields (type d) n (here c (moreFieldsText name_of fs ++ rest))) (Meanings.FieldsMean good fs) rest

  more-no-fields : (d : ℕ) → MoreFieldsFound d noFields
  unfolding moreFields tyText
  more-no-fields d zero h c rest s = found (Meanings.none-means good)
  more-no-fields d (suc n) h c rest s = rw (s.no-comma c) (found (Meanings.none-means good))

  colon-ends : (rest : Bytes) → NameEnds (58 ∷ rest)
  unfolding nameFrom is_plain isDigit
  colon-ends rest c = refl

  field-name-found : (n c : ℕ) (rest : Bytes) → Meanings.Held good n
      → Finds (fieldName (here c (nameText (name_of n) ++ (58 ∷ rest)))) (λ m. m.bytes ≡ name_of n) (58 ∷ rest)
  field-name-found n c rest h = rw (skip-name (name_of n) c rest) (name-found good bytes n c (58 ∷ rest) h (colon-ends rest))

  blank-name : (c : ℕ) (t : Bytes) → fieldName (here c (32 ∷ t)) ≡ fieldName (here (suc c) t)
  unfolding skip skipFrom isBlank
  blank-name c t = refl

  -- what follows a field's name: its type, and the other fields
  abbrev afterName : ℕ → ℕ → NameAt → Rule FieldsAt
  afterName d m x = (sign ":" >> type d >>= λ t. moreFields (type d) m >>= λ fs. give (field_at x t fs))

  after-name-found : (d m n : ℕ) (x : NameAt) (t : Ty ℕ) (fs : Fields ℕ) → Meanings.Held good n → x.bytes ≡ name_of n → TyFound d t
      → MoreFieldsFound d fs → countFields fs ≤ m
      → (c : ℕ) (rest : Bytes) → ListStops rest
      → Finds (afterName d m x (here c (58 ∷ 32 ∷ (tyText name_of t ++ (moreFieldsText name_of fs ++ rest)))))
      (Meanings.FieldsMean good (field n t fs)) rest
  unfolding skip skipFrom isBlank spell spellFrom
  after-name-found d m n x t fs l i f g h c rest s =
      rw (blank-type d (suc c) (tyText name_of t ++ (moreFieldsText name_of fs ++ rest)))
      (then _ (f (suc (suc c)) (moreFieldsText name_of fs ++ rest) (fields-stop fs rest s.stops)) (λ w b k.
      then _ (g m h b rest s) (λ ws e q. found (Meanings.field-means good n t fs x w ws l i k q))))

  -- a field's name, its type, and what follows
  more-fields-cons : (d n : ℕ) (t : Ty ℕ) (fs : Fields ℕ) → Meanings.Held good n → TyFound d t → MoreFieldsFound d fs → MoreFieldsFound d (field n t fs)
  unfolding moreFields countFields skip skipFrom isBlank spell spellFrom
  more-fields-cons d n t fs l f g zero h c rest s = absurd (omega arith)
  more-fields-cons d n t fs l f g (suc m) h c rest s = rw (more-fields-text n t fs rest) (rw (blank-name (suc c) _)
      (then _ (field-name-found n (suc (suc c)) (32 ∷ (tyText name_of t ++ (moreFieldsText name_of fs ++ rest))) l)
      (λ x b i. after-name-found d m n x t fs l i f g (omega arith) b rest s)))

  abbrev braces : ℕ → Rule FieldsAt
  braces d = ifSign "{" (sign "{" >> fields (type d) >>= λ fs. sign "}" >> give fs) (give noneAt)

  abbrev FieldsFound : ℕ → Fields ℕ → Type 0
  FieldsFound d fs = (c : ℕ) (rest : Bytes) → ((c : ℕ) → starts "{" (skip (here c rest)) ≡ false)
      → Finds (braces d (here c (fieldsText name_of fs ++ rest))) (Meanings.FieldsMean good fs) rest

  no-fields-found : (d : ℕ) → FieldsFound d noFields
  unfolding tyText
  no-fields-found d c rest h = rw (h c) (found (Meanings.none-means good))

  in-braces : (d n : ℕ) (t : Ty ℕ) (fs : Fields ℕ) → Meanings.Held good n → TyFound d t → MoreFieldsFound d fs → (c : ℕ) (rest : Bytes) → ListStops rest
      → Finds (fields (type d) (here c (nameText (name_of n) ++ (58 ∷ 32 ∷ (tyText name_of t ++ (moreFieldsText name_of fs ++ rest))))))
      (Meanings.FieldsMean good (field n t fs)) rest
  unfolding skip skipFrom isBlank spell spellFrom
  in-braces d n t fs l f g c rest s =
      then _ (field-name-found n c (32 ∷ (tyText name_of t ++ (moreFieldsText name_of fs ++ rest))) l) (λ x b i.
      rw (blank-type d (suc b) (tyText name_of t ++ (moreFieldsText name_of fs ++ rest)))
      (then _ (f (suc (suc b)) (moreFieldsText name_of fs ++ rest) (fields-stop fs rest s.stops)) (λ w e k.
      then _ (g (length (moreFieldsText name_of fs ++ rest)) (many-fields fs rest) e rest s)
      (λ ws o q. found (Meanings.field-means good n t fs x w ws l i k q)))))

  fields-found : (d n : ℕ) (t : Ty ℕ) (fs : Fields ℕ) → Meanings.Held good n → TyFound d t → MoreFieldsFound d fs → FieldsFound d (field n t fs)
  unfolding skip skipFrom isBlank spell spellFrom
  fields-found d n t fs l f g c rest h =
      rw (fields-text n t fs rest) (then _ (in-braces d n t fs l f g (suc c) (125 ∷ rest) (brace-stops rest)) (λ ws b m. found m))

  struct-found : (d x : ℕ) (as' : Tys ℕ) (fs : Fields ℕ) → Meanings.Held good x → Meanings.Rises good none fs → ArgumentsFound d as'
      → FieldsFound d fs → TyFound (suc d) (struct x as' fs)
  unfolding type structure skip skipFrom isBlank spell spellFrom
  struct-found d x as' fs l k f g c rest s =
      rw (struct-text x as' fs rest) (then _
      (name-found good bytes x (suc c) (argumentsText name_of as' ++ (fieldsText name_of fs ++ rest)) l (struct-ends as' fs rest s)) (λ m b i.
      then _ (f b (fieldsText name_of fs ++ rest) (no-arguments-in fs rest s)) (λ vs e p.
      then _ (g e rest s.no_fields) (λ ws o q. found (Meanings.struct-means good c x as' fs m vs ws l i p q k)))))

  -- ══ Every type ══

  mutual
    unfolding goodTy goodOpen depth

    pub ty-found : (t : Ty ℕ) (d : ℕ) → isGood t ≡ true → depth t ≤ suc d → TyFound (suc d) t
    ty-found (opened (var x)) d g h = var-found x d (Meanings.held good x g)
    ty-found (opened (quant i)) d g h = absurd (omega (arith, ltb-true i 0 g))
    ty-found (opened (par x)) d g h = par-found x d (Meanings.held good x g)
    ty-found (basic b) d g h = basic-found b d
    ty-found (dim p) d g h = dim-found p d (Meanings.good-dim good p g)
    ty-found (fn ps r) d g h =
        fn-found d ps r (parameters ps d (and_left (areGood ps) _ g) (omega arith))
        (lift r d (omega arith) (λ e k. ty-found r e (and_right (areGood ps) _ g) k))
    ty-found (struct n as' fs) d g h =
        let k = and_left (is_held (table_of pool table) n && areGood as' && fieldsGood fs) _ g in
        let i = and_left (is_held (table_of pool table) n && areGood as') _ k in
        struct-found d n as' fs (Meanings.held good n (and_left (is_held (table_of pool table) n) _ i))
        (rises-all fs (and_right (is_held (table_of pool table) n && areGood as' && fieldsGood fs) _ g))
        (in-arrows as' d (and_right (is_held (table_of pool table) n) _ i) (omega arith))
        (all-fields fs d (and_right (is_held (table_of pool table) n && areGood as') _ k) (omega arith))
    ty-found (list t) d g h = list-found t d (lift t d (omega arith) (λ e k. ty-found t e g k))

    more-types : (ts : Tys ℕ) (d : ℕ) → areGood ts ≡ true → depthTys ts ≤ d → MoreFound d ts
    more-types nil d g h = more-none d
    more-types (cons t ts) d g h =
        more-cons d t ts (lift t d (omega arith) (λ e k. ty-found t e (and_left (isGood t) _ g) k)) (more-types ts d (and_right (isGood t) _ g) (omega arith))

    parameters : (ts : Tys ℕ) (d : ℕ) → areGood ts ≡ true → depthTys ts ≤ d → ParametersFound d ts
    parameters nil d g h = no-parameters d
    parameters (cons t ts) d g h =
        parameters-found d t ts (and_left (isGood t) _ g) (lift t d (omega arith) (λ e k. ty-found t e (and_left (isGood t) _ g) k))
        (more-types ts d (and_right (isGood t) _ g) (omega arith))

    in-arrows : (ts : Tys ℕ) (d : ℕ) → areGood ts ≡ true → depthTys ts ≤ d → ArgumentsFound d ts
    in-arrows nil d g h = no-arguments-found d
    in-arrows (cons t ts) d g h =
        arguments-found d t ts (lift t d (omega arith) (λ e k. ty-found t e (and_left (isGood t) _ g) k))
        (more-types ts d (and_right (isGood t) _ g) (omega arith))

    more-fields : (fs : Fields ℕ) (d : ℕ) → fieldsGood fs ≡ true → depthFields fs ≤ d → MoreFieldsFound d fs
    more-fields noFields d g h = more-no-fields d
    more-fields (field n t fs) d g h =
        let k = and_left (is_held (table_of pool table) n && isGood t) _ g in
        more-fields-cons d n t fs (Meanings.held good n (and_left (is_held (table_of pool table) n) _ k))
        (lift t d (omega arith) (λ e i. ty-found t e (and_right (is_held (table_of pool table) n) _ k) i))
        (more-fields fs d (and_right (is_held (table_of pool table) n && isGood t) _ g) (omega arith))

    all-fields : (fs : Fields ℕ) (d : ℕ) → fieldsGood fs ≡ true → depthFields fs ≤ d → FieldsFound d fs
    all-fields noFields d g h = no-fields-found d
    all-fields (field n t fs) d g h =
        let k = and_left (is_held (table_of pool table) n && isGood t) _ g in
        fields-found d n t fs (Meanings.held good n (and_left (is_held (table_of pool table) n) _ k))
        (lift t d (omega arith) (λ e i. ty-found t e (and_right (is_held (table_of pool table) n) _ k) i))
        (more-fields fs d (and_right (is_held (table_of pool table) n && isGood t) _ g) (omega arith))
