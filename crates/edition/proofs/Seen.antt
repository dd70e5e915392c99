-- No byte below the blank stands in what is written of a tree, whatever the names are.
use Rattle.std.specs.Prelude.{◌≡◌, refl, Bool, true, false, [], ◌∷◌, ◌++◌, ℕ, zero, suc, ◌+◌, ◌/◌, ◌%◌, ◌≤◌, ◌<◌, eqb, ltb, ℤ, pos, negsuc}
use Rattle.std.proofs.Common.{◌∙◌, arith, ltb-true, le-ltb, ne_eqb, sym}
use Rattle.std.proofs.lemmas.Bool.{lt-leb}
use Prim.Native.String.{String}
use Rattle.rules.specs.Base.{any, collect, is_yes}
use Rattle.rules.specs.Exponents.{Exp, frac, one, Exp-dec}
use Rattle.rules.specs.Grammar.{ascii, is_plain, isDigit}
use Rattle.rules.specs.Names.{Bytes}
use Rattle.laws.proofs.Contents.{any_append}
use Rattle.laws.proofs.Lists.{true≢false}
use Rattle.edition.specs.Theorems.{belowBlank, Flat}
use Rattle.rules.specs.Trees.{
  Open,
  var,
  quant,
  par,
  free,
  base,
  Factor,
  ◌↑◌,
  Product,
  boolean,
  string,
  datetime,
  Ty,
  opened,
  basic,
  dim,
  fn,
  struct,
  list,
  Tys,
  nil,
  cons,
  Fields,
  noFields,
  field,
  Con,
  equal,
  isDim,
  is_scalar,
  hasField,
}
use Rattle.rules.specs.TextWriting.{
  hexDigit,
  escaped,
  nameText,
  decimal,
  numeratorText,
  denominatorText,
  powerText,
  openText,
  factorText,
  moreFactorsText,
  factorsText,
  dimensionText,
  tyText,
  tysText,
  moreTysText,
  argumentsText,
  fieldsText,
  moreFieldsText,
  conText,
}

pub record Seen (bs : Bytes) : Type 0 where
  pub flat : Flat bs

-- nothing; one part after another; bytes that are known
pub none : Seen []
unfolding any
none = record { flat = refl }

infixr 5 ◌&◌
pub ◌&◌ : {a b : Bytes} → Seen a → Seen b → Seen (a ++ b)
◌&◌ {a} {b} g h = record { flat = any_append belowBlank a b ∙ rw (g.flat, h.flat) refl }

pub lit : (w : String) → Flat (ascii w) → Seen (ascii w)
lit w h = record { flat = h }

byte : (b : ℕ) → belowBlank b ≡ false → Seen (b ∷ [])
unfolding any
byte b h = record { flat = rw h refl }

above : (b : ℕ) → 32 ≤ b → belowBlank b ≡ false
above b l = le-ltb b 32 l

-- ══ Names, numbers and powers ══

plain-low : (b : ℕ) → b < 32 → is_plain b ≡ false
unfolding is_plain isDigit
plain-low b l = rw (
  lt-leb 65 b (omega (arith, l)),
  lt-leb 97 b (omega (arith, l)),
  lt-leb 48 b (omega (arith, l)),
  ne_eqb b 95 (λ e. omega (arith, l, e)),
  lt-leb 128 b (omega (arith, l)),
) refl

plain-seen : (b : ℕ) → is_plain b ≡ true → belowBlank b ≡ false
plain-seen b e = go (ltb b 32) refl
  where
    go : (t : Bool) → ltb b 32 ≡ t → ltb b 32 ≡ false
    go true l = absurd (true≢false (sym e ∙ plain-low b (ltb-true b 32 l)))
    go false l = l

hex-seen : (d : ℕ) → belowBlank (hexDigit d) ≡ false
unfolding hexDigit
hex-seen d = go (ltb d 10) refl
  where
    go : (t : Bool) → ltb d 10 ≡ t → belowBlank (hexDigit d) ≡ false
    go true e = rw e (above (d + 48) (omega arith))
    go false e = rw e (above (d + 87) (omega arith))

byte-seen : (b : ℕ) → Seen (escaped b)
unfolding escaped any
byte-seen b = go (is_plain b) refl
  where
    go : (t : Bool) → is_plain b ≡ t → Seen (escaped b)
    go true e = rw e (byte b (plain-seen b e))
    go false e = rw e (lit "\\" refl & byte (hexDigit (b / 16)) (hex-seen (b / 16)) & byte (hexDigit (b % 16)) (hex-seen (b % 16)))

pub name-seen : (n : Bytes) → Seen (nameText n)
unfolding nameText collect
name-seen [] = none
name-seen (b ∷ n) = byte-seen b & name-seen n

pub digits-seen : (k n : ℕ) → Seen (decimal k n)
unfolding decimal
digits-seen zero n = none
digits-seen (suc k) n = go (ltb n 10) refl (digits-seen k (n / 10))
  where
    go : (t : Bool) → ltb n 10 ≡ t → Seen (decimal k (n / 10)) → Seen (decimal (suc k) n)
    go true e h = rw (e, decimal) (byte (n + 48) (above (n + 48) (omega arith)))
    go false e h = rw (e, decimal) (h & byte (n % 10 + 48) (above (n % 10 + 48) (omega arith)))

numerator-seen : (n : ℤ) → Seen (numeratorText n)
unfolding numeratorText any
numerator-seen (pos n) = digits-seen 10 n
numerator-seen (negsuc n) = lit "-" refl & digits-seen 10 (suc n)

denominator-seen : (d : ℕ) → Seen (denominatorText d)
unfolding denominatorText any
denominator-seen d = go (eqb d 1) refl
  where
    go : (t : Bool) → eqb d 1 ≡ t → Seen (denominatorText d)
    go true e = rw (e, denominatorText) none
    go false e = rw (e, denominatorText) (lit "/" refl & digits-seen 10 d)

power-seen : (e : Exp) → Seen (powerText e)
unfolding powerText any
power-seen (frac n d) = go (is_yes (Exp-dec (frac n d) one)) refl
  where
    go : (t : Bool) → is_yes (Exp-dec (frac n d) one) ≡ t → Seen (powerText (frac n d))
    go true e = rw (e, powerText) none
    go false e = rw (e, powerText) (lit "^(" refl & numerator-seen n & denominator-seen d & lit ")" refl)

-- ══ Trees ══

module _ (name_of : ℕ → Bytes) where
  pub open-seen : (o : Open ℕ) → Seen (openText name_of o)
  unfolding openText any
  open-seen (var x) = lit "?" refl & name-seen (name_of x)
  open-seen (quant i) = none
  open-seen (par x) = lit "!" refl & name-seen (name_of x)

  factor-seen : (f : Factor ℕ) → Seen (factorText name_of f)
  unfolding factorText any
  factor-seen (free o ↑ e) = open-seen o & power-seen e
  factor-seen (base x ↑ e) = lit "#" refl & name-seen (name_of x) & power-seen e

  more-factors-seen : (p : Product ℕ) → Seen (moreFactorsText name_of p)
  unfolding moreFactorsText any
  more-factors-seen [] = none
  more-factors-seen (f ∷ p) = lit " * " refl & factor-seen f & more-factors-seen p

  factors-seen : (p : Product ℕ) → Seen (factorsText name_of p)
  unfolding factorsText
  factors-seen [] = none
  factors-seen (f ∷ p) = factor-seen f & more-factors-seen p

  dimension-seen : (p : Product ℕ) → Seen (dimensionText name_of p)
  unfolding dimensionText any
  dimension-seen p = lit "[" refl & factors-seen p & lit "]" refl

  mutual
    unfolding tyText any

    pub ty-seen : (t : Ty ℕ) → Seen (tyText name_of t)
    ty-seen (opened o) = open-seen o
    ty-seen (basic boolean) = lit "Bool" refl
    ty-seen (basic string) = lit "String" refl
    ty-seen (basic datetime) = lit "DateTime" refl
    ty-seen (dim p) = dimension-seen p
    ty-seen (fn ps r) = lit "Fn[(" refl & parameters-seen ps & lit ") -> " refl & ty-seen r & lit "]" refl
    ty-seen (struct n as' fs) = lit "@" refl & name-seen (name_of n) & arguments-seen as' & fields-seen fs
    ty-seen (list t) = lit "List<" refl & ty-seen t & lit ">" refl

    more-types-seen : (ts : Tys ℕ) → Seen (moreTysText name_of ts)
    more-types-seen nil = none
    more-types-seen (cons t ts) = lit ", " refl & ty-seen t & more-types-seen ts

    parameters-seen : (ts : Tys ℕ) → Seen (tysText name_of ts)
    parameters-seen nil = none
    parameters-seen (cons t ts) = ty-seen t & more-types-seen ts

    arguments-seen : (ts : Tys ℕ) → Seen (argumentsText name_of ts)
    arguments-seen nil = none
    arguments-seen (cons t ts) = lit "<" refl & ty-seen t & more-types-seen ts & lit ">" refl

    more-fields-seen : (fs : Fields ℕ) → Seen (moreFieldsText name_of fs)
    more-fields-seen noFields = none
    more-fields-seen (field n t fs) = lit ", " refl & name-seen (name_of n) & lit ": " refl & ty-seen t & more-fields-seen fs

    fields-seen : (fs : Fields ℕ) → Seen (fieldsText name_of fs)
    fields-seen noFields = none
    fields-seen (field n t fs) = lit "{" refl & name-seen (name_of n) & lit ": " refl & ty-seen t & more-fields-seen fs & lit "}" refl

  pub con-seen : (c : Con ℕ) → Seen (conText name_of c)
  unfolding conText any
  con-seen (equal l r) = ty-seen l & lit " ~ " refl & ty-seen r
  con-seen (isDim t) = ty-seen t & lit ": DType" refl
  con-seen (is_scalar p) = dimension-seen p & lit " = Scalar" refl
  con-seen (hasField n s t) = lit "HasField(" refl & ty-seen s & lit ", \"" refl & name-seen (name_of n) & lit "\", " refl & ty-seen t & lit ")" refl
