-- How records are read back as trees. A type nested over the limit isn't read.
use Rattle.std.specs.Prelude.{Bool, true, false, List, [], ◌∷◌, ℕ, zero, suc, ◌+◌, eqb, length}
use Rattle.std.proofs.Math.Option.{Option, none, some}
use Rattle.rules.specs.Base.{all, and_then}
use Rattle.rules.specs.Exponents.{frac}
use Rattle.rules.specs.Trees.{
  Open,
  var,
  quant,
  par,
  free,
  base,
  Factor,
  ◌↑◌,
  Product,
  Ty,
  opened,
  basic,
  dim,
  fn,
  struct,
  list,
  Tys,
  nil,
  cons,
  Fields,
  noFields,
  field,
  Con,
  equal,
  isDim,
  is_scalar,
  hasField,
  Binding,
  ◌≔◌,
  boolean,
  string,
  datetime,
}
use Rattle.rules.specs.Schemes.{Scheme, concrete, scheme}
use Rattle.rules.specs.Writing.{Rec, rec, kindIn, lengthIn, signed}

-- what was read, and what is left; none where the records are not of that form
abbrev pub Reader : Type 0 → Type 0
Reader A = List Rec → Option (A × List Rec)

abbrev pub pass : {A B : Type 0} → Option (A × List Rec) → (A → Reader B) → Option (B × List Rec)
pass none f = none
pass (some r) f = f r.0 r.1

infixl 1 ◌>>=◌
abbrev pub ◌>>=◌ : {A B : Type 0} → Reader A → (A → Reader B) → Reader B
◌>>=◌ m f = λ s. pass (m s) f

abbrev pub give : {A : Type 0} → A → Reader A
give a = λ s. some (a, s)

-- the words that a record does not use are 0
abbrev pub unused : {A : Type 0} → List ℕ → Reader A → Reader A
unused ws m = λ s. elim (all (λ w. eqb w 0) ws) [ true ↦ m s | false ↦ none ]

-- by the kind of a record
abbrev pub pick : {A : Type 0} → ℕ → List (ℕ × Reader A) → Reader A
pick k [] = λ s. none
pick k (x ∷ xs) = elim (eqb k x.0) [ true ↦ x.1 | false ↦ pick k xs ]

abbrev pub ifSo : {A : Type 0} → Bool → Option A → Option A
ifSo true o = o
ifSo false o = none

-- Of m records, a part that says to be n long was read, and takes n
abbrev pub lasting : {A : Type 0} → ℕ → ℕ → Option (A × List Rec) → Option (A × List Rec)
lasting n m none = none
lasting n m (some r) = ifSo (eqb (n + length r.1) m) (some r)

-- a part, by the kind, a, b, c of its first record; 'a list with a false length isn't well formed'
abbrev pub next : {A : Type 0} → (ℕ → ℕ → ℕ → ℕ → Reader A) → Reader A
next f [] = none
next f (rec w a b c ∷ rs) = lasting (lengthIn w) (suc (length rs)) (f (kindIn w) a b c rs)

abbrev pub factorTable : ℕ → ℕ → ℕ → List (ℕ × Reader (Factor ℕ))
factorTable a b c =
    (11, give (free (var a) ↑ frac (signed b) c))
    ∷ (12, give (free (par a) ↑ frac (signed b) c))
    ∷ (13, give (base a ↑ frac (signed b) c))
    ∷ (15, give (free (quant a) ↑ frac (signed b) c))
    ∷ []

abbrev pub factorKinds : ℕ → ℕ → ℕ → ℕ → Reader (Factor ℕ)
factorKinds k a b c = pick k (factorTable a b c)

unfoldable pub readFactors : ℕ → Reader (Product ℕ)
readFactors zero = give []
readFactors (suc n) = do
  f ← next factorKinds
  p ← readFactors n
  give (f ∷ p)

unfoldable pub readTys : Reader (Ty ℕ) → ℕ → Reader (Tys ℕ)
readTys ty zero = give nil
readTys ty (suc n) = do
  t ← ty
  ts ← readTys ty n
  give (cons t ts)

-- a field: its name, and its type behind it
abbrev pub readField : Reader (Ty ℕ) → ℕ → Reader (ℕ × Ty ℕ)
readField ty x = ty >>= λ t. give (x, t)

abbrev pub fieldTable : Reader (Ty ℕ) → ℕ → ℕ → ℕ → List (ℕ × Reader (ℕ × Ty ℕ))
fieldTable ty a b c = (9, unused (b ∷ c ∷ []) (readField ty a)) ∷ []

abbrev pub fieldKinds : Reader (Ty ℕ) → ℕ → ℕ → ℕ → ℕ → Reader (ℕ × Ty ℕ)
fieldKinds ty k a b c = pick k (fieldTable ty a b c)

unfoldable pub readFields : Reader (Ty ℕ) → ℕ → Reader (Fields ℕ)
readFields ty zero = give noFields
readFields ty (suc n) = do
  f ← next (fieldKinds ty)
  fs ← readFields ty n
  give (field f.0 f.1 fs)

abbrev pub readDim : ℕ → Reader (Ty ℕ)
readDim n = readFactors n >>= λ p. give (dim p)

abbrev pub readFn : Reader (Ty ℕ) → ℕ → Reader (Ty ℕ)
readFn ty n = do
  ps ← readTys ty n
  r ← ty
  give (fn ps r)

abbrev pub readStruct : Reader (Ty ℕ) → ℕ → ℕ → ℕ → Reader (Ty ℕ)
readStruct ty x n m = do
  as' ← readTys ty n
  fs ← readFields ty m
  give (struct x as' fs)

abbrev pub readList : Reader (Ty ℕ) → Reader (Ty ℕ)
readList ty = ty >>= λ t. give (list t)

abbrev pub typeTable : Reader (Ty ℕ) → ℕ → ℕ → ℕ → List (ℕ × Reader (Ty ℕ))
typeTable ty a b c =
    (1, unused (b ∷ c ∷ []) (give (opened (var a))))
    ∷ (2, unused (b ∷ c ∷ []) (give (opened (par a))))
    ∷ (14, unused (b ∷ c ∷ []) (give (opened (quant a))))
    ∷ (3, unused (b ∷ c ∷ []) (readDim a))
    ∷ (4, unused (a ∷ b ∷ c ∷ []) (give (basic boolean)))
    ∷ (5, unused (a ∷ b ∷ c ∷ []) (give (basic string)))
    ∷ (6, unused (a ∷ b ∷ c ∷ []) (give (basic datetime)))
    ∷ (7, unused (b ∷ c ∷ []) (readFn ty a))
    ∷ (8, readStruct ty a b c)
    ∷ (10, unused (a ∷ b ∷ c ∷ []) (readList ty))
    ∷ []

abbrev pub typeKinds : Reader (Ty ℕ) → ℕ → ℕ → ℕ → ℕ → Reader (Ty ℕ)
typeKinds ty k a b c = pick k (typeTable ty a b c)

-- types nested at most d deep
unfoldable pub readTy : ℕ → Reader (Ty ℕ)
readTy zero = λ s. none
readTy (suc d) = next (typeKinds (readTy d))

-- equal-scalar: 'kind 3 follows'
abbrev pub readScalar : ℕ → Reader (Con ℕ)
readScalar n = readFactors n >>= λ p. give (is_scalar p)

abbrev pub scalarTable : ℕ → ℕ → ℕ → List (ℕ × Reader (Con ℕ))
scalarTable a b c = (3, unused (b ∷ c ∷ []) (readScalar a)) ∷ []

abbrev pub scalarKinds : ℕ → ℕ → ℕ → ℕ → Reader (Con ℕ)
scalarKinds k a b c = pick k (scalarTable a b c)

abbrev pub readEqual : Reader (Ty ℕ) → Reader (Con ℕ)
readEqual ty = do
  l ← ty
  r ← ty
  give (equal l r)

abbrev pub readIsDim : Reader (Ty ℕ) → Reader (Con ℕ)
readIsDim ty = ty >>= λ t. give (isDim t)

abbrev pub readHasField : Reader (Ty ℕ) → ℕ → Reader (Con ℕ)
readHasField ty n = do
  s ← ty
  t ← ty
  give (hasField n s t)

abbrev pub conTable : Reader (Ty ℕ) → ℕ → ℕ → ℕ → List (ℕ × Reader (Con ℕ))
conTable ty a b c =
    (20, unused (a ∷ b ∷ c ∷ []) (readEqual ty))
    ∷ (21, unused (a ∷ b ∷ c ∷ []) (readIsDim ty))
    ∷ (22, unused (a ∷ b ∷ c ∷ []) (next scalarKinds))
    ∷ (23, unused (b ∷ c ∷ []) (readHasField ty a))
    ∷ []

abbrev pub conKinds : Reader (Ty ℕ) → ℕ → ℕ → ℕ → ℕ → Reader (Con ℕ)
conKinds ty k a b c = pick k (conTable ty a b c)

unfoldable pub readCon : Reader (Con ℕ)
readCon = next (conKinds (readTy 64))

abbrev pub readBoundTo : ℕ → Reader (Binding ℕ)
readBoundTo x = readTy 64 >>= λ t. give (x ≔ t)

abbrev pub bindingTable : ℕ → ℕ → ℕ → List (ℕ × Reader (Binding ℕ))
bindingTable a b c = (24, unused (b ∷ c ∷ []) (readBoundTo a)) ∷ []

abbrev pub bindingKinds : ℕ → ℕ → ℕ → ℕ → Reader (Binding ℕ)
bindingKinds k a b c = pick k (bindingTable a b c)

unfoldable pub readBinding : Reader (Binding ℕ)
readBinding = next bindingKinds

abbrev pub boundTable : ℕ → ℕ → List (ℕ × Reader (Open ℕ))
boundTable a c = (0, unused (c ∷ []) (give (var a))) ∷ (1, unused (c ∷ []) (give (quant a))) ∷ []

abbrev pub boundKinds : ℕ → ℕ → ℕ → ℕ → Reader (Open ℕ)
boundKinds k a b c = pick k ((25, pick b (boundTable a c)) ∷ [])

unfoldable pub readBound : Reader (Open ℕ)
readBound = next boundKinds

-- a list of them, to the end; the first number bounds how many
unfoldable pub read_all : {A : Type 0} → Reader A → ℕ → List Rec → Option (List A)
read_all r zero [] = some []
read_all r zero (x ∷ xs) = none
read_all r (suc n) [] = some []
read_all r (suc n) (x ∷ xs) = elim (r (x ∷ xs)) [
  | none ↦ none
  | some v ↦ elim (read_all r n v.1) [ none ↦ none | some vs ↦ some (v.0 ∷ vs) ]
]

unfoldable pub records : List ℕ → Option (List Rec)
records [] = some []
records (w ∷ []) = none
records (w ∷ a ∷ []) = none
records (w ∷ a ∷ b ∷ []) = none
records (w ∷ a ∷ b ∷ c ∷ ws) = elim (records ws) [ none ↦ none | some rs ↦ some (rec w a b c ∷ rs) ]

-- a scheme takes all records: its type, then its bounds; so its length is that of the list
unfoldable pub schemeOf : List Rec → Option (Scheme ℕ)
schemeOf [] = none
schemeOf (rec w n b c ∷ rs) = ifSo (eqb (lengthIn w) (suc (length rs))) (and_then (pick (kindIn w) (schemeTable n b c) rs) (λ r.
    and_then (read_all readBound (length r.1) r.1) (λ bs. withBounds r.0 bs)))
  where
    schemeTable : ℕ → ℕ → ℕ → List (ℕ × Reader (Scheme ℕ))
    schemeTable n b c = (
      26,
      unused (c
          ∷ []) (pick b ((0, readTy 64 >>= λ t. give (scheme n t [])) ∷ (1, unused (n ∷ []) (readTy 64 >>= λ t. give (concrete t))) ∷ [])),
    ) ∷ []

    withBounds : Scheme ℕ → List (Open ℕ) → Option (Scheme ℕ)
    withBounds (scheme n t os) bs = some (scheme n t bs)
    withBounds (concrete t) [] = some (concrete t)
    withBounds (concrete t) (o ∷ os) = none
