-- The grammar of sheets as text, in the order of docs/GRAMMAR.md. A rule takes a place in a line to what stands there,
-- as a tree with columns, and the place behind it; or to the column of the first byte that fits nothing.
use Rattle.std.specs.Prelude.{Bool, true, false, ◌&&◌, ◌||◌, List, [], ◌∷◌, map, ℕ, zero, suc, ◌+◌, ◌-◌, ◌*◌, eqb, leb, ℤ, pos, neg_ℤ, length}
use Rattle.std.proofs.Math.Option.{Option, none, some}
use Prim.Native.Char.{Char, code}
use Prim.Native.String.{String}
use Rattle.rules.specs.Names.{Bytes}
use Rattle.rules.specs.Trees.{Open, var, par, Atom, free, base, Basic, boolean, string, datetime}

-- ══ Bytes and lines ══

-- the bytes of a text in ASCII
abbrev pub ascii : String → Bytes
ascii String.[] = []
ascii (String.◌∷◌ c s) = code c ∷ ascii s

-- 'lines end with a line feed; the last one needs none'
abbrev pub inFront : ℕ → List Bytes → List Bytes
inFront b [] = (b ∷ []) ∷ []
inFront b (l ∷ ls) = (b ∷ l) ∷ ls

unfoldable pub lines_of : Bytes → List Bytes
lines_of [] = [] ∷ []
lines_of (b ∷ bs) = elim (eqb b 10) [ true ↦ [] ∷ lines_of bs | false ↦ inFront b (lines_of bs) ]

-- a place in a line: its column, counted from 1, and the bytes from there on; or behind a type nested 65 deep, where nothing is looked at
-- and every rule passes
pub data Place : Type 0 where
  here : ℕ → Bytes → Place
  beyond : Place

-- what stands there and the place behind it; or 12 at this column
pub data Parsed (A : Type 0) : Type 0 where
  read : A → Place → Parsed A
  bad : ℕ → Parsed A

abbrev pub Rule : Type 0 → Type 0
Rule A = Place → Parsed A

abbrev pub pass : {A B : Type 0} → Parsed A → (A → Rule B) → Parsed B
pass (read a p) f = f a p
pass (bad c) f = bad c

infixl 1 ◌>>=◌
abbrev pub ◌>>=◌ : {A B : Type 0} → Rule A → (A → Rule B) → Rule B
◌>>=◌ m f = λ p. pass (m p) f

infixl 1 ◌>>◌
abbrev pub ◌>>◌ : {A B : Type 0} → Rule A → Rule B → Rule B
◌>>◌ m f = λ p. pass (m p) (λ a. f)

abbrev pub give : {A : Type 0} → A → Rule A
give a = λ p. read a p

-- 'spaces, tabs and carriage returns are blanks .. and are skipped'
unfoldable pub isBlank : ℕ → Bool
isBlank b = eqb b 32 || eqb b 9 || eqb b 13

unfoldable pub skipFrom : ℕ → Bytes → Place
skipFrom c [] = here c []
skipFrom c (b ∷ bs) = elim (isBlank b) [ true ↦ skipFrom (suc c) bs | false ↦ here c (b ∷ bs) ]

unfoldable pub skip : Place → Place
skip (here c bs) = skipFrom c bs
skip beyond = beyond

-- these bytes, with nothing between them
unfoldable pub spellFrom : Bytes → ℕ → Bytes → Parsed (Unit {0})
spellFrom [] c bs = read tt (here c bs)
spellFrom (w ∷ ws) c [] = bad c
spellFrom (w ∷ ws) c (b ∷ bs) = elim (eqb b w) [ true ↦ spellFrom ws (suc c) bs | false ↦ bad c ]

unfoldable pub spell : Bytes → Rule (Unit {0})
spell ws (here c bs) = spellFrom ws c bs
spell ws beyond = read tt beyond

-- a sign or a keyword, behind blanks
abbrev pub sign : String → Rule (Unit {0})
sign ws = λ p. spell (ascii ws) (skip p)

abbrev pub mark : Char → Rule (Unit {0})
mark x = λ p. spell (code x ∷ []) (skip p)

-- the column of the next sign
abbrev pub columnOf : Place → ℕ
columnOf (here c bs) = c
columnOf beyond = 0

abbrev pub column : Rule ℕ
column = λ p. read (columnOf (skip p)) (skip p)

-- 'one byte of look-ahead': does the next sign begin with this byte
abbrev pub starts : Char → Place → Bool
starts x (here c []) = false
starts x (here c (b ∷ bs)) = eqb b (code x)
starts x beyond = false

abbrev pub either : {A : Type 0} → Bool → Rule A → Rule A → Rule A
either true r s = r
either false r s = s

abbrev pub ifSign : {A : Type 0} → Char → Rule A → Rule A → Rule A
ifSign x r s = λ p. either (starts x (skip p)) r s p

-- the rule for the byte with which the next sign begins; a byte for which there is none fits nothing
abbrev pub pick : {A : Type 0} → ℕ → List (Char × Rule A) → Rule A
pick b [] = λ p. bad (columnOf p)
pick b (x ∷ xs) = elim (eqb b (code x.0)) [ true ↦ x.1 | false ↦ pick b xs ]

abbrev pub chosen : {A : Type 0} → A → List (Char × Rule A) → Rule A
chosen a xs (here c []) = bad c
chosen a xs (here c (b ∷ bs)) = pick b xs (here c (b ∷ bs))
chosen a xs beyond = read a beyond

abbrev pub choose : {A : Type 0} → A → List (Char × Rule A) → Rule A
choose a xs = λ p. chosen a xs (skip p)

-- how many bytes are left: a bound on how many more of anything can follow
abbrev pub leftIn : Place → ℕ
leftIn (here c bs) = length bs
leftIn beyond = 0

abbrev pub left : Rule ℕ
left = λ p. read (leftIn p) p

-- 'the end of the line counts as a byte'
abbrev pub end_at : Place → Parsed (Unit {0})
end_at (here c []) = read tt (here c [])
end_at (here c (b ∷ bs)) = bad c
end_at beyond = read tt beyond

abbrev pub ended : Rule (Unit {0})
ended = λ p. end_at (skip p)

-- ══ Names and powers ══

abbrev pub between : Char → ℕ → Char → Bool
between m b n = leb (code m) b && leb b (code n)

unfoldable pub isDigit : ℕ → Bool
isDigit b = between "0" b "9"

-- 'letter | digit | "_" | byte 128 to 255': what stands for itself in a name
unfoldable pub is_plain : ℕ → Bool
is_plain b = between "A" b "Z" || between "a" b "z" || isDigit b || eqb b (code "_") || (leb 128 b && leb b 255)

-- 'hex digits, in either case'
abbrev pub hexIn : Bool → Bool → Bool → ℕ → Option ℕ
hexIn true u v b = some (b - 48)
hexIn false true v b = some (b - 55)
hexIn false false true b = some (b - 87)
hexIn false false false b = none

unfoldable pub hexOf : ℕ → Option ℕ
hexOf b = hexIn (isDigit b) (between "A" b "F") (between "a" b "f") b

-- where a name is between its bytes: nowhere, behind "\", behind "\" and a hex digit
pub data Half : Type 0 where
  whole slashed : Half
  half : ℕ → Half

abbrev pub more : ℕ → Parsed Bytes → Parsed Bytes
more b (read bs p) = read (b ∷ bs) p
more b (bad c) = bad c

-- 'a name goes as far as it can'
unfoldable pub nameFrom : Half → ℕ → Bytes → Parsed Bytes
nameFrom whole c [] = read [] (here c [])
nameFrom slashed c [] = bad c
nameFrom (half h) c [] = bad c
nameFrom whole c (b ∷ bs) = elim (is_plain b) [
  | true ↦ more b (nameFrom whole (suc c) bs)
  | false ↦ elim (eqb b (code "\\")) [ true ↦ nameFrom slashed (suc c) bs | false ↦ read [] (here c (b ∷ bs)) ]
]
nameFrom slashed c (b ∷ bs) = elim (hexOf b) [ none ↦ bad c | some h ↦ nameFrom (half h) (suc c) bs ]
nameFrom (half h) c (b ∷ bs) = elim (hexOf b) [ none ↦ bad c | some k ↦ more (h * 16 + k) (nameFrom whole (suc c) bs) ]

-- a name with the column of its first byte
pub record NameAt : Type 0 where
  pub column : ℕ
  pub bytes : Bytes

-- the name that begins here: 'nothing may stand between a mark and its name'
unfoldable pub name : Rule NameAt
name (here c bs) = pass (nameFrom whole c bs) (λ n. give (record { column = c; bytes = n }))
name beyond = read (record { column = 0; bytes = [] }) beyond

-- 'digits = digit { digit }': their number
unfoldable pub digitsFrom : ℕ → ℕ → Bytes → Parsed ℕ
digitsFrom n c [] = read n (here c [])
digitsFrom n c (b ∷ bs) = elim (isDigit b) [ true ↦ digitsFrom (n * 10 + (b - 48)) (suc c) bs | false ↦ read n (here c (b ∷ bs)) ]

unfoldable pub digitsAt : Place → Parsed ℕ
digitsAt (here c []) = bad c
digitsAt (here c (b ∷ bs)) = elim (isDigit b) [ true ↦ digitsFrom 0 c (b ∷ bs) | false ↦ bad c ]
digitsAt beyond = read 0 beyond

abbrev pub digits : Rule ℕ
digits = λ p. digitsAt (skip p)

-- a power as it was typed, with the column of its "^"
pub record PowerAt : Type 0 where
  pub column : ℕ
  pub numerator : ℤ
  pub denominator : ℕ

abbrev pub signedBy : Bool → ℕ → ℤ
signedBy true n = neg_ℤ (pos n)
signedBy false n = pos n

-- 'power = "^" "(" [ "-" ] digits [ "/" digits ] ")"'
unfoldable pub power : Rule PowerAt
power = do
  c ← column
  sign "^"
  sign "("
  minus ← ifSign "-" (sign "-" >> give true) (give false)
  n ← digits
  d ← ifSign "/" (sign "/" >> digits) (give 1)
  sign ")"
  give (record { column = c; numerator = signedBy minus n; denominator = d })

-- 'no power: 1'
abbrev pub noPower : PowerAt
noPower = record { column = 0; numerator = pos 1; denominator = 1 }

-- ══ Types ══

-- a factor with the column of its mark
pub record FactorAt : Type 0 where
  pub column : ℕ
  pub atom : Atom NameAt
  pub power : PowerAt

-- types with the columns of their first bytes; a dimension has that of its closing bracket too
mutual
  pub data TyAt : Type 0 where
    open_at : ℕ → Open NameAt → TyAt
    basicAt : ℕ → Basic → TyAt
    dimAt : ℕ → List FactorAt → ℕ → TyAt
    fn_at : ℕ → TysAt → TyAt → TyAt
    listAt : ℕ → TyAt → TyAt
    struct_at : ℕ → NameAt → TysAt → FieldsAt → TyAt
    deepAt : ℕ → TyAt

  pub data TysAt : Type 0 where
    nilAt : TysAt
    consAt : TyAt → TysAt → TysAt

  pub data FieldsAt : Type 0 where
    noneAt : FieldsAt
    field_at : NameAt → TyAt → FieldsAt → FieldsAt

abbrev pub markedWith : Char → (NameAt → Atom NameAt) → Char × Rule (Atom NameAt)
markedWith x f = (x, (mark x >> name >>= λ n. give (f n)))

-- '( "?" | "!" | "#" ) name'
abbrev pub marks : List (Char × Rule (Atom NameAt))
marks = markedWith "?" (λ n. free (var n)) ∷ markedWith "!" (λ n. free (par n)) ∷ markedWith "#" base ∷ []

-- 'factor = ( "?" | "!" | "#" ) name [ power ]'
unfoldable pub factor : Rule FactorAt
factor = do
  c ← column
  a ← choose (base (record { column = 0; bytes = [] })) marks
  e ← ifSign "^" power (give noPower)
  give (record { column = c; atom = a; power = e })

-- '{ "*" factor }'; the number bounds how many
unfoldable pub moreFactors : ℕ → Rule (List FactorAt)
moreFactors zero = give []
moreFactors (suc n) = ifSign "*" (do
  sign "*"
  f ← factor
  fs ← moreFactors n
  give (f ∷ fs)) (give [])

abbrev pub factors : Rule (List FactorAt)
factors = do
  f ← factor
  n ← left
  fs ← moreFactors n
  give (f ∷ fs)

-- 'dimension = "[" [ factor { "*" factor } ] "]"'
unfoldable pub dimension : Rule TyAt
dimension = do
  c ← column
  sign "["
  fs ← ifSign "]" (give []) factors
  e ← column
  sign "]"
  give (dimAt c fs e)

abbrev pub opened : Char → (NameAt → Open NameAt) → Rule TyAt
opened x f = do
  c ← column
  mark x
  n ← name
  give (open_at c (f n))

abbrev pub keyword : String → Basic → Rule TyAt
keyword ws b = do
  c ← column
  sign ws
  give (basicAt c b)

-- '{ "," type }'; the number bounds how many
unfoldable pub moreTys : Rule TyAt → ℕ → Rule TysAt
moreTys ty zero = give nilAt
moreTys ty (suc n) = ifSign "," (do
  sign ","
  t ← ty
  ts ← moreTys ty n
  give (consAt t ts)) (give nilAt)

-- 'type { "," type }'
abbrev pub tys : Rule TyAt → Rule TysAt
tys ty = do
  t ← ty
  n ← left
  ts ← moreTys ty n
  give (consAt t ts)

-- '"Fn" "[" "(" [ type { "," type } ] ")" "->" type "]"'
unfoldable pub function : Rule TyAt → Rule TyAt
function ty = do
  c ← column
  sign "Fn"
  sign "["
  sign "("
  ps ← ifSign ")" (give nilAt) (tys ty)
  sign ")"
  sign "->"
  r ← ty
  sign "]"
  give (fn_at c ps r)

-- '"List" "<" type ">"'
unfoldable pub listed : Rule TyAt → Rule TyAt
listed ty = do
  c ← column
  sign "List"
  sign "<"
  t ← ty
  sign ">"
  give (listAt c t)

-- 'name ":" type': a field's name stands behind blanks
abbrev pub fieldName : Rule NameAt
fieldName = λ p. name (skip p)

-- '{ "," name ":" type }'; the number bounds how many
unfoldable pub moreFields : Rule TyAt → ℕ → Rule FieldsAt
moreFields ty zero = give noneAt
moreFields ty (suc n) = ifSign "," (do
  sign ","
  x ← fieldName
  sign ":"
  t ← ty
  fs ← moreFields ty n
  give (field_at x t fs)) (give noneAt)

abbrev pub fields : Rule TyAt → Rule FieldsAt
fields ty = do
  x ← fieldName
  sign ":"
  t ← ty
  n ← left
  fs ← moreFields ty n
  give (field_at x t fs)

-- '"@" name [ "<" type { "," type } ">" ] [ "{" name ":" type { "," name ":" type } "}" ]'
unfoldable pub structure : Rule TyAt → Rule TyAt
structure ty = do
  c ← column
  sign "@"
  n ← name
  as' ← ifSign "<" (sign "<" >> tys ty >>= λ ts. sign ">" >> give ts) (give nilAt)
  fs ← ifSign "{" (sign "{" >> fields ty >>= λ fs. sign "}" >> give fs) (give noneAt)
  give (struct_at c n as' fs)

abbrev pub types : Rule TyAt → List (Char × Rule TyAt)
types ty =
    ("?", opened "?" var)
    ∷ ("!", opened "!" par)
    ∷ ("[", dimension)
    ∷ ("B", keyword "Bool" boolean)
    ∷ ("S", keyword "String" string)
    ∷ ("D", keyword "DateTime" datetime)
    ∷ ("F", function ty)
    ∷ ("L", listed ty)
    ∷ ("@", structure ty)
    ∷ []

-- 'nothing of the line behind the place where that type begins is looked at'
abbrev pub tooDeep : Rule TyAt
tooDeep = λ p. read (deepAt (columnOf p)) beyond

abbrev pub deepTypes : List (Char × Rule TyAt)
deepTypes = map (λ x. (x, tooDeep)) ("?" ∷ "!" ∷ "[" ∷ "B" ∷ "S" ∷ "D" ∷ "F" ∷ "L" ∷ "@" ∷ [])

-- types nested at most d deep, and the first one that is nested deeper
unfoldable pub type : ℕ → Rule TyAt
type zero = choose (deepAt 0) deepTypes
type (suc d) = choose (deepAt 0) (types (type d))

-- ══ Lines ══

-- a constraint with the column of its line's first sign
pub data ConAt : Type 0 where
  equalAt : ℕ → TyAt → TyAt → ConAt
  isDimAt : ℕ → TyAt → ConAt
  isScalarAt : ℕ → ℕ → List FactorAt → ℕ → ConAt
  hasFieldAt : ℕ → TyAt → NameAt → TyAt → ConAt

-- 'type "~" type', 'type ":" "DType"'
abbrev pub afterType : ℕ → TyAt → List (Char × Rule ConAt) → List (Char × Rule ConAt)
afterType c l xs =
    ("~", (sign "~" >> type 64 >>= λ r. give (equalAt c l r)))
    ∷ (":", (sign ":" >> sign "DType" >> give (isDimAt c l)))
    ∷ xs

-- 'dimension "=" "Scalar"'
abbrev pub afterDimension : ℕ → TyAt → List (Char × Rule ConAt)
afterDimension c (dimAt d fs e) = ("=", (sign "=" >> sign "Scalar" >> give (isScalarAt c d fs e))) ∷ []
afterDimension c (open_at d o) = []
afterDimension c (basicAt d b) = []
afterDimension c (fn_at d ps r) = []
afterDimension c (listAt d t) = []
afterDimension c (struct_at d n as' fs) = []
afterDimension c (deepAt d) = []

unfoldable pub typed : Rule ConAt
typed = do
  c ← column
  l ← type 64
  choose (isDimAt c l) (afterType c l (afterDimension c l))

-- '"HasField" "(" type "," '"' name '"' "," type ")"': between a quote and the name in it nothing may stand
unfoldable pub hasField : Rule ConAt
hasField = do
  c ← column
  sign "HasField"
  sign "("
  s ← type 64
  sign ","
  sign "\""
  n ← name
  spell (ascii "\"")
  sign ","
  t ← type 64
  sign ")"
  give (hasFieldAt c s n t)

unfoldable pub constraint : Rule (Option ConAt)
constraint = do
  c ← ifSign "H" hasField typed
  ended
  give (some c)

-- 'a line with nothing but blanks, or whose first sign is "--", holds no constraint'
unfoldable pub signsAt : Rule (Option ConAt)
signsAt (here c []) = read none (here c [])
signsAt (here c (b ∷ bs)) = ifSign "-" (sign "--" >> give none) constraint (here c (b ∷ bs))
signsAt beyond = read none beyond

unfoldable pub line : Bytes → Parsed (Option ConAt)
line bs = signsAt (skipFrom 1 bs)
