-- How a set is written as text, and the call that does so. docs/GRAMMAR.md, 'The writer'.
use Rattle.std.specs.Prelude.{Bool, true, false, List, [], ◌∷◌, ◌++◌, ℕ, zero, suc, ◌+◌, ◌/◌, ◌%◌, eqb, leb, ltb, ℤ, pos, negsuc, length, get_or}
use Prim.Native.Char.{code}
use Rattle.rules.specs.Base.{Got, got, ◌>>=◌, ◌>>◌, need, is_yes, collect}
use Rattle.rules.specs.Exponents.{Exp, frac, one, Exp-dec}
use Rattle.rules.specs.Trees.{
  Open,
  var,
  quant,
  par,
  free,
  base,
  Factor,
  ◌↑◌,
  Product,
  Basic,
  boolean,
  string,
  datetime,
  Ty,
  opened,
  basic,
  dim,
  fn,
  struct,
  list,
  Tys,
  nil,
  cons,
  Fields,
  noFields,
  field,
  Con,
  equal,
  isDim,
  is_scalar,
  hasField,
}
use Rattle.rules.specs.Names.{Bytes, Table, table_of, names_of, lentTable}
use Rattle.rules.specs.Calls.{shortLists, tableKept, setGiven, Listed, listing}
use Rattle.rules.specs.Grammar.{ascii, is_plain}

-- ══ Names and powers ══

-- 'hex digits in small letters'
abbrev pub hexBy : Bool → ℕ → ℕ
hexBy true n = n + 48
hexBy false n = n + 87

unfoldable pub hexDigit : ℕ → ℕ
hexDigit n = hexBy (ltb n 10) n

-- 'a byte that can't stand for itself in a name, and no other, is written as "\" and two hex digits'
abbrev pub escapedBy : Bool → ℕ → Bytes
escapedBy true b = b ∷ []
escapedBy false b = code "\\" ∷ hexDigit (b / 16) ∷ hexDigit (b % 16) ∷ []

unfoldable pub escaped : ℕ → Bytes
escaped b = escapedBy (is_plain b) b

unfoldable pub nameText : Bytes → Bytes
nameText n = collect escaped n

-- a number in decimal digits, at most k of them: numbers of a power have at most ten
unfoldable pub decimal : ℕ → ℕ → Bytes
decimal zero n = []
decimal (suc k) n = elim (ltb n 10) [ true ↦ (n + 48) ∷ [] | false ↦ decimal k (n / 10) ++ ((n % 10 + 48) ∷ []) ]

unfoldable pub numeratorText : ℤ → Bytes
numeratorText (pos n) = decimal 10 n
numeratorText (negsuc n) = code "-" ∷ decimal 10 (suc n)

unfoldable pub denominatorText : ℕ → Bytes
denominatorText d = elim (eqb d 1) [ true ↦ [] | false ↦ code "/" ∷ decimal 10 d ]

-- 'power 1 is left out; whole powers are ^(-2), others ^(3/2)'
unfoldable pub powerText : Exp → Bytes
powerText (frac n d) = elim (is_yes (Exp-dec (frac n d) one)) [ true ↦ [] | false ↦ ascii "^(" ++ (numeratorText n ++ (denominatorText d ++ ascii ")")) ]

-- ══ Types and lines ══

abbrev pub basicText : Basic → Bytes
basicText boolean = ascii "Bool"
basicText string = ascii "String"
basicText datetime = ascii "DateTime"

-- with the names of the numbers
module _ (name_of : ℕ → Bytes) where
  -- quantified variables stand in schemes only: no set has one
  unfoldable pub openText : Open ℕ → Bytes
  openText (var x) = code "?" ∷ nameText (name_of x)
  openText (quant i) = []
  openText (par x) = code "!" ∷ nameText (name_of x)

  unfoldable pub factorText : Factor ℕ → Bytes
  factorText (free o ↑ e) = openText o ++ powerText e
  factorText (base x ↑ e) = code "#" ∷ nameText (name_of x) ++ powerText e

  -- ' * ' and a factor, and so on
  unfoldable pub moreFactorsText : Product ℕ → Bytes
  moreFactorsText [] = []
  moreFactorsText (f ∷ p) = ascii " * " ++ (factorText f ++ moreFactorsText p)

  unfoldable pub factorsText : Product ℕ → Bytes
  factorsText [] = []
  factorsText (f ∷ p) = factorText f ++ moreFactorsText p

  unfoldable pub dimensionText : Product ℕ → Bytes
  dimensionText p = ascii "[" ++ (factorsText p ++ ascii "]")

  unfoldable mutual
    pub tyText : Ty ℕ → Bytes
    tyText (opened o) = openText o
    tyText (basic b) = basicText b
    tyText (dim p) = dimensionText p
    tyText (fn ps r) = ascii "Fn[(" ++ (tysText ps ++ (ascii ") -> " ++ (tyText r ++ ascii "]")))
    tyText (struct n as' fs) = ascii "@" ++ (nameText (name_of n) ++ (argumentsText as' ++ fieldsText fs))
    tyText (list t) = ascii "List<" ++ (tyText t ++ ascii ">")

    pub tysText : Tys ℕ → Bytes
    tysText nil = []
    tysText (cons t ts) = tyText t ++ moreTysText ts

    -- ', ' and a type, and so on
    pub moreTysText : Tys ℕ → Bytes
    moreTysText nil = []
    moreTysText (cons t ts) = ascii ", " ++ (tyText t ++ moreTysText ts)

    pub argumentsText : Tys ℕ → Bytes
    argumentsText nil = []
    argumentsText (cons t ts) = ascii "<" ++ (tyText t ++ (moreTysText ts ++ ascii ">"))

    pub fieldsText : Fields ℕ → Bytes
    fieldsText noFields = []
    fieldsText (field n t fs) = ascii "{" ++ (nameText (name_of n) ++ (ascii ": " ++ (tyText t ++ (moreFieldsText fs ++ ascii "}"))))

    pub moreFieldsText : Fields ℕ → Bytes
    moreFieldsText noFields = []
    moreFieldsText (field n t fs) = ascii ", " ++ (nameText (name_of n) ++ (ascii ": " ++ (tyText t ++ moreFieldsText fs)))

  -- a line without its line feed
  unfoldable pub conText : Con ℕ → Bytes
  conText (equal l r) = tyText l ++ (ascii " ~ " ++ tyText r)
  conText (isDim t) = tyText t ++ ascii ": DType"
  conText (is_scalar p) = dimensionText p ++ ascii " = Scalar"
  conText (hasField n s t) =
      ascii "HasField(" ++ (tyText s ++ (ascii ", \"" ++ (nameText (name_of n) ++ (ascii "\", " ++ (tyText t ++ ascii ")")))))

  -- 'each line ends with a line feed'
  unfoldable pub setText : List (Con ℕ) → Bytes
  setText cs = collect (λ c. conText c ++ ascii "\n") cs

-- ══ The call ══

abbrev pub namesIn : Table → ℕ → Bytes
namesIn t i = get_or (names_of t) i []

-- the order of refusals is 10, 8, 1; 10 below 173 bytes for each of 2,048 records
unfoldable pub text_of : List ℕ → List ℕ → List ℕ → Bytes → Got Bytes
text_of pool table set text = do
  lentTable pool table
  need (leb 354304 (length text)) 10
  shortLists (set ∷ [])
  tableKept (table_of pool table)
  cs ← setGiven (table_of pool table) set
  got (setText (namesIn (table_of pool table)) cs)

-- how many bytes were written, or the refusal; and the text buffer, unchanged past the answer and on a refusal
unfoldable pub writeTextCall : List ℕ → List ℕ → List ℕ → Bytes → Listed
writeTextCall pool table set text = listing (text_of pool table set text) text
