-- What a line means, and the call that reads a sheet. docs/GRAMMAR.md, 'What a line means' and 'Refusals'.
use Rattle.std.specs.Prelude.{true, false, ◌&&◌, List, [], ◌∷◌, ◌++◌, ℕ, suc, ◌+◌, leb, length}
use Rattle.std.proofs.Math.Option.{Option, none, some}
use Rattle.rules.specs.Base.{Got, got, refused, need, allow, bounded, collect, sum_of}
use Rattle.rules.specs.Base as Base
use Rattle.rules.specs.Exponents.{Exp, frac, lowest, in_range}
use Rattle.rules.specs.Trees.{
  Open,
  var,
  quant,
  par,
  Atom,
  free,
  base,
  Product,
  Names,
  Ty,
  opened,
  basic,
  dim,
  fn,
  struct,
  list,
  Tys,
  nil,
  cons,
  Fields,
  noFields,
  field,
  Con,
  equal,
  isDim,
  is_scalar,
  hasField,
  sizeCon,
}
use Rattle.rules.specs.Products.{put, multiply}
use Rattle.rules.specs.Names.{Bytes, Entered, table_of, numbersOf, enterChecked}
use Rattle.rules.specs.WellFormed.{is_lt}
use Rattle.rules.specs.Writing.{words, writeCon}
use Rattle.rules.specs.Calls.{lent, tableKept, over, workAfter}
use Rattle.rules.specs.declared.Was.{Was}
use Rattle.rules.specs.declared.Was.TheVariants.{New, Known}
use Rattle.rules.specs.Grammar.{
  lines_of,
  Parsed,
  read,
  bad,
  NameAt,
  PowerAt,
  FactorAt,
  TyAt,
  open_at,
  basicAt,
  dimAt,
  fn_at,
  listAt,
  struct_at,
  deepAt,
  TysAt,
  nilAt,
  consAt,
  FieldsAt,
  noneAt,
  field_at,
  ConAt,
  equalAt,
  isDimAt,
  isScalarAt,
  hasFieldAt,
  line,
}

-- ══ What a line means ══

-- how far a sheet is read: pool and table with the names entered so far, how many of these were new, and how many records there are
pub record Sofar : Type 0 where
  pub pool : List ℕ
  pub table : List ℕ
  pub fresh : ℕ
  pub records : ℕ

-- a value, and how far the sheet is read then; or a refusal and its column
pub data Told (A : Type 0) : Type 0 where
  told : A → Sofar → Told A
  refusedAt : ℕ → ℕ → Told A

abbrev pub Step : Type 0 → Type 0
Step A = Sofar → Told A

abbrev pub onward : {A B : Type 0} → Told A → (A → Step B) → Told B
onward (told a s) f = f a s
onward (refusedAt n c) f = refusedAt n c

infixl 1 ◌>>=◌
abbrev pub ◌>>=◌ : {A B : Type 0} → Step A → (A → Step B) → Step B
◌>>=◌ m f = λ s. onward (m s) f

infixl 1 ◌>>◌
abbrev pub ◌>>◌ : {A B : Type 0} → Step A → Step B → Step B
◌>>◌ m f = λ s. onward (m s) (λ a. f)

abbrev pub give : {A : Type 0} → A → Step A
give a = λ s. told a s

-- a refusal gets its column
abbrev pub placed : {A : Type 0} → ℕ → Got A → Step A
placed c (got a) = λ s. told a s
placed c (refused n) = λ s. refusedAt n c

-- k records more: '8 at the first record past 2,048'
unfoldable pub counted : ℕ → ℕ → Step (Unit {0})
counted k c s = elim (leb (s.records + k) 2048) [
  | true ↦ told tt (record { pool = s.pool; table = s.table; fresh = s.fresh; records = s.records + k })
  | false ↦ refusedAt 8 c
]

-- 01's entering of a name, 2 and 3; the table was looked at before the first line
unfoldable pub enterName : List ℕ → List ℕ → Bytes → Entered
enterName pool table bytes = enterChecked (need (leb 1 (length bytes) && leb (length bytes) 48) 2) pool table bytes

abbrev pub newIn : Was → ℕ
newIn New = 1
newIn Known = 0

abbrev pub entered : ℕ → Sofar → Entered → Got (ℕ × Was) → Told ℕ
entered c s e (refused n) = refusedAt n c
entered c s e (got r) = told r.0 (record { pool = e.pool; table = e.table; fresh = s.fresh + newIn r.1; records = s.records })

-- 'a name is entered where it stands .. and counted as new'
unfoldable pub named : NameAt → Step ℕ
named n s = entered n.column s (enterName s.pool s.table n.bytes) (enterName s.pool s.table n.bytes).answer

abbrev pub openNamed : Open NameAt → Step (Open ℕ)
openNamed (var n) = named n >>= λ x. give (var x)
openNamed (quant i) = give (quant i)
openNamed (par n) = named n >>= λ x. give (par x)

abbrev pub atomNamed : Atom NameAt → Step (Atom ℕ)
atomNamed (free o) = openNamed o >>= λ x. give (free x)
atomNamed (base n) = named n >>= λ x. give (base x)

-- 'a number of a power over 2,147,483,647, or a denominator 0, is 7'; then it is reduced
unfoldable pub powerOf : PowerAt → Got Exp
powerOf p = allow (in_range (frac p.numerator p.denominator)) 7 (lowest p.numerator p.denominator)

-- the names held so far, in the order of their bytes
abbrev pub namesSofar : Sofar → Names ℕ
namesSofar s = numbersOf (table_of s.pool s.table)

-- 'in a factor the name comes first, then the power, then the multiplication'
unfoldable pub multiplied : Product ℕ → FactorAt → Step (Product ℕ)
multiplied p f = do
  a ← atomNamed f.atom
  e ← placed f.power.column (powerOf f.power)
  λ s. placed f.column (multiply (namesSofar s) bounded p (put a e [])) s

-- 'the factors of a dimension are multiplied from left to right by 01's own steps'
unfoldable pub factorsOf : List FactorAt → Product ℕ → Step (Product ℕ)
factorsOf [] p = give p
factorsOf (f ∷ fs) p = multiplied p f >>= λ q. factorsOf fs q

-- 'factors that are left are counted at the closing bracket'
unfoldable pub productOf : ℕ → List FactorAt → ℕ → Step (Product ℕ)
productOf c fs e = do
  counted 1 c
  p ← factorsOf fs []
  counted (length p) e
  give p

-- 'fields rise strictly by their names' bytes'; 1 at the field's name
abbrev pub rises : Option ℕ → ℕ → ℕ → Step (Unit {0})
rises none x c = give tt
rises (some y) x c = λ s. placed c (need (is_lt ((namesSofar s).order y x)) 1) s

-- a type: its record is counted at its first byte, then comes what it holds, from left to right
unfoldable mutual
  pub ty_of : TyAt → Step (Ty ℕ)
  ty_of (open_at c o) = counted 1 c >> openNamed o >>= λ x. give (opened x)
  ty_of (basicAt c b) = counted 1 c >> give (basic b)
  ty_of (dimAt c fs e) = productOf c fs e >>= λ p. give (dim p)
  ty_of (fn_at c ps r) = counted 1 c >> tys_of ps >>= λ ts. ty_of r >>= λ t. give (fn ts t)
  ty_of (listAt c t) = counted 1 c >> ty_of t >>= λ u. give (list u)
  ty_of (struct_at c n as' fs) = counted 1 c >> named n >>= λ x. tys_of as' >>= λ ts. fields_of fs none >>= λ gs. give (struct x ts gs)
  ty_of (deepAt c) = λ s. refusedAt 1 c

  pub tys_of : TysAt → Step (Tys ℕ)
  tys_of nilAt = give nil
  tys_of (consAt t ts) = ty_of t >>= λ u. tys_of ts >>= λ us. give (cons u us)

  -- with the name of the field before
  pub fields_of : FieldsAt → Option ℕ → Step (Fields ℕ)
  fields_of noneAt y = give noFields
  fields_of (field_at n t fs) y =
      named n >>= λ x. rises y x n.column >> counted 1 n.column >> ty_of t >>= λ u. fields_of fs (some x) >>= λ gs. give (field x u gs)

-- a constraint: its record is counted at the line's first sign
unfoldable pub conOf : ConAt → Step (Con ℕ)
conOf (equalAt c l r) = counted 1 c >> ty_of l >>= λ t. ty_of r >>= λ u. give (equal t u)
conOf (isDimAt c t) = counted 1 c >> ty_of t >>= λ u. give (isDim u)
conOf (isScalarAt c d fs e) = counted 1 c >> productOf d fs e >>= λ p. give (is_scalar p)
conOf (hasFieldAt c s n t) = counted 1 c >> ty_of s >>= λ u. named n >>= λ x. ty_of t >>= λ v. give (hasField x u v)

-- a line: 12 outside the grammar; 'only then are names entered'
unfoldable pub meant : Parsed (Option ConAt) → Step (List (Con ℕ))
meant (bad c) = λ s. refusedAt 12 c
meant (read none p) = give []
meant (read (some c) p) = conOf c >>= λ d. give (d ∷ [])

unfoldable pub lineRead : Bytes → Step (List (Con ℕ))
lineRead bs = meant (line bs)

-- ══ A sheet ══

-- its constraints, and how far it is read; or the first refused line: refusal, line, column
pub data Sheet : Type 0 where
  sheet : List (Con ℕ) → Sofar → Sheet
  refusedIn : ℕ → ℕ → ℕ → Sheet

abbrev pub with : List (Con ℕ) → Sheet → Sheet
with cs (sheet ds s) = sheet (cs ++ ds) s
with cs (refusedIn n k c) = refusedIn n k c

abbrev pub nextLine : ℕ → Told (List (Con ℕ)) → (Sofar → Sheet) → Sheet
nextLine k (told cs s) f = with cs (f s)
nextLine k (refusedAt n c) f = refusedIn n k c

-- lines from the number k on: 'the first line that is refused decides'
unfoldable pub lines_read : ℕ → List Bytes → Sofar → Sheet
lines_read k [] s = sheet [] s
lines_read k (l ∷ ls) s = nextLine k (lineRead l s) (λ s'. lines_read (suc k) ls s')

abbrev pub unread : List ℕ → List ℕ → Sofar
unread pool table = record { pool = pool; table = table; fresh = 0; records = 0 }

unfoldable pub sheetRead : List ℕ → List ℕ → Bytes → Sheet
sheetRead pool table text = lines_read 1 (lines_of text) (unread pool table)

-- ══ The call ══

-- records, constraints, new names; or refusal, line, column
pub data ReadAnswer : Type 0 where
  wasRead : ℕ → ℕ → ℕ → ReadAnswer
  notRead : ℕ → ℕ → ℕ → ReadAnswer

pub record TextRead : Type 0 where
  pub answer : ReadAnswer
  pub pool : List ℕ
  pub table : List ℕ
  pub result : List ℕ
  pub work : List ℕ

-- 'all or nothing: on any refusal pool, table and result are as before'
abbrev pub handed : List ℕ → List ℕ → List ℕ → List ℕ → Sheet → TextRead
handed pool table result work (sheet cs s) = record {
  answer = wasRead (sum_of sizeCon cs) (length cs) s.fresh;
  pool = s.pool;
  table = s.table;
  result = over (words (collect writeCon cs)) result;
  work = work;
}
handed pool table result work (refusedIn n k c) = record { answer = notRead n k c; pool = pool; table = table; result = result; work = work }

-- 10, and a table's 1, come with line 0 and column 0
abbrev pub fromEntry : Got (Unit {0}) → Sheet → Sheet
fromEntry (got u) s = s
fromEntry (refused n) s = refusedIn n 0 0

unfoldable pub sheetGiven : List ℕ → List ℕ → Bytes → List ℕ → List ℕ → Sheet
sheetGiven pool table text result work = fromEntry (Base.◌>>◌ (lent pool table result work) (tableKept (table_of pool table))) (sheetRead pool table text)

unfoldable pub readTextCall : List ℕ → List ℕ → Bytes → List ℕ → List ℕ → TextRead
readTextCall pool table text result work = handed pool table result (workAfter (lent pool table result work) work) (sheetGiven pool table text result work)
