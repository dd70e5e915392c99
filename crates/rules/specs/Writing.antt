-- How trees over name numbers are written, in prefix order, as records of four words.
use Rattle.std.specs.Prelude.{Bool, true, false, List, [], ◌∷◌, ◌++◌, map, ℕ, suc, ◌+◌, ◌-◌, ◌*◌, ◌/◌, ◌%◌, ltb, ℤ, pos, negsuc, length}
use Rattle.rules.specs.Exponents.{frac}
use Rattle.rules.specs.Trees.{
  Open,
  var,
  quant,
  par,
  free,
  base,
  Factor,
  ◌↑◌,
  Product,
  Ty,
  opened,
  basic,
  dim,
  fn,
  struct,
  list,
  Tys,
  nil,
  cons,
  Fields,
  noFields,
  field,
  Con,
  equal,
  isDim,
  is_scalar,
  hasField,
  Binding,
  ◌≔◌,
  size,
  sizeCon,
  sizeBinding,
  count,
  countFields,
}
use Rattle.rules.specs.Schemes.{Scheme, concrete, scheme}
use Rattle.rules.specs.Views.{kindOpen, kindBasic}

-- word 0, a, b, c
pub data Rec : Type 0 where
  rec : ℕ → ℕ → ℕ → ℕ → Rec

-- 'word 0 of a record is its kind plus 65,536 times the number of records of the part that it begins', and both back
unfoldable pub head : ℕ → ℕ → ℕ
head kind long = kind + 65_536 * long

unfoldable pub kindIn : ℕ → ℕ
kindIn w = w % 65_536

unfoldable pub lengthIn : ℕ → ℕ
lengthIn w = w / 65_536

-- a numerator as a word of 32 bits, in two's complement, and back
unfoldable pub twos : ℤ → ℕ
twos (pos n) = n
twos (negsuc n) = 4_294_967_295 - n

unfoldable pub by_sign : Bool → ℕ → ℤ
by_sign true w = pos w
by_sign false w = negsuc (4_294_967_295 - w)

unfoldable pub signed : ℕ → ℤ
signed w = by_sign (ltb w 2_147_483_648) w

abbrev pub word_of : Open ℕ → ℕ
word_of (var x) = x
word_of (quant i) = i
word_of (par x) = x

unfoldable pub writeFactor : Factor ℕ → Rec
writeFactor (free (var x) ↑ frac n d) = rec (head 11 1) x (twos n) d
writeFactor (free (par x) ↑ frac n d) = rec (head 12 1) x (twos n) d
writeFactor (base x ↑ frac n d) = rec (head 13 1) x (twos n) d
writeFactor (free (quant i) ↑ frac n d) = rec (head 15 1) i (twos n) d

unfoldable pub writeProduct : Product ℕ → List Rec
writeProduct p = rec (head 3 (suc (length p))) (length p) 0 0 ∷ map writeFactor p

unfoldable mutual
  pub writeTy : Ty ℕ → List Rec
  writeTy (opened o) = rec (head (kindOpen o) 1) (word_of o) 0 0 ∷ []
  writeTy (basic b) = rec (head (kindBasic b) 1) 0 0 0 ∷ []
  writeTy (dim p) = writeProduct p
  writeTy (fn ps r) = rec (head 7 (size (fn ps r))) (count ps) 0 0 ∷ (writeTys ps ++ writeTy r)
  writeTy (struct n as' fs) = rec (head 8 (size (struct n as' fs))) n (count as') (countFields fs) ∷ (writeTys as' ++ writeFields fs)
  writeTy (list t) = rec (head 10 (size (list t))) 0 0 0 ∷ writeTy t

  pub writeTys : Tys ℕ → List Rec
  writeTys nil = []
  writeTys (cons t ts) = writeTy t ++ writeTys ts

  pub writeFields : Fields ℕ → List Rec
  writeFields noFields = []
  writeFields (field n t fs) = rec (head 9 (suc (size t))) n 0 0 ∷ (writeTy t ++ writeFields fs)

unfoldable pub writeCon : Con ℕ → List Rec
writeCon (equal l r) = rec (head 20 (sizeCon (equal l r))) 0 0 0 ∷ (writeTy l ++ writeTy r)
writeCon (isDim t) = rec (head 21 (sizeCon (isDim t))) 0 0 0 ∷ writeTy t
writeCon (is_scalar p) = rec (head 22 (sizeCon (is_scalar p))) 0 0 0 ∷ writeProduct p
writeCon (hasField n s t) = rec (head 23 (sizeCon (hasField n s t))) n 0 0 ∷ (writeTy s ++ writeTy t)

unfoldable pub writeBinding : Binding ℕ → List Rec
writeBinding (x ≔ t) = rec (head 24 (sizeBinding (x ≔ t))) x 0 0 ∷ writeTy t

-- a bound: a name, or the index of a quantified variable
unfoldable pub writeBound : Open ℕ → Rec
writeBound (var x) = rec (head 25 1) x 0 0
writeBound (quant i) = rec (head 25 1) i 1 0
writeBound (par x) = rec (head 25 1) x 0 0

unfoldable pub writeScheme : Scheme ℕ → List Rec
writeScheme (concrete t) = rec (head 26 (suc (size t))) 0 1 0 ∷ writeTy t
writeScheme (scheme n t bs) = rec (head 26 (suc (size t + length bs))) n 0 0 ∷ (writeTy t ++ map writeBound bs)

unfoldable pub words : List Rec → List ℕ
words [] = []
words (rec w a b c ∷ rs) = w ∷ a ∷ b ∷ c ∷ words rs
