-- What follows from the definitions of specs/Lengths: what is written of a set has at most 173 bytes a record, and no line feed but those that end its lines.
use Rattle.std.specs.Prelude.{◌≡◌, Bool, true, false, not, ◌&&◌, ℕ, zero, suc, ◌+◌, ◌-◌, ◌*◌, ◌/◌, ◌%◌, ◌≤◌, ltb, eqb, ℤ, pos, negsuc, length}
use Rattle.std.proofs.Math.Path.{refl}
use mathlib.Core.List.{List, [], ◌∷◌, ◌++◌}
use native.Mathlib.Omega.{arith}
use borrow.Author.Tests.{ltb-true, ne_eqb}
use Rattle.std.proofs.Math.ListN.{length-append}
use Rattle.rules.specs.Base.{all, collect, is_yes, sum_of}
use Rattle.rules.specs.Exponents.{Exp, frac, one, Exp-dec}
use Rattle.rules.specs.Trees.{
  var,
  quant,
  par,
  free,
  base,
  Factor,
  ◌↑◌,
  Product,
  boolean,
  string,
  datetime,
  Ty,
  opened,
  basic,
  dim,
  fn,
  struct,
  list,
  Tys,
  nil,
  cons,
  Fields,
  noFields,
  field,
  Con,
  equal,
  isDim,
  is_scalar,
  hasField,
  size,
  sizeTys,
  sizeFields,
  sizeCon,
}
use Rattle.rules.specs.Names.{Bytes, table_of, numbersOf, is_held}
use Rattle.rules.specs.WellFormed.{goodOpen, goodFactor, goodProduct, goodTy, goodTys, goodFields, goodCon}
use Rattle.std.proofs.lemmas.Bool.{not-true}
use Rattle.laws.specs.Lists.{Every, and_left, and_right}
use Rattle.laws.proofs.Lists.{every_append}
use Rattle.laws.specs.NameTable.{Good}
use Rattle.rules.specs.Grammar.{ascii, is_plain, isDigit}
use Rattle.rules.specs.TextWriting.{
  hexDigit,
  escaped,
  nameText,
  decimal,
  numeratorText,
  denominatorText,
  powerText,
  openText,
  factorText,
  moreFactorsText,
  factorsText,
  dimensionText,
  tyText,
  tysText,
  moreTysText,
  argumentsText,
  fieldsText,
  moreFieldsText,
  conText,
  setText,
}
use Rattle.text_laws.proofs.Meanings as Meanings
use Rattle.text_laws.proofs.TypesBack.{plain-no}
use Rattle.text_laws.specs.Lengths.{NotFeed}

pub record Flat (bs : Bytes) : Type 0 where
  pub every : Every NotFeed bs

plus : {a b : Bytes} → Flat a → Flat b → Flat (a ++ b)
plus {a} {b} g h = record { every = every_append NotFeed a b g.every h.every }

-- bytes that are known
lit : (bs : Bytes) → all (λ b. not (eqb b 10)) bs ≡ true → Flat bs
unfolding all
lit [] h = record { every = tt }
lit (b ∷ bs) h = record { every = (not-true (eqb b 10) (and_left (not (eqb b 10)) _ h), (lit bs (and_right (not (eqb b 10)) _ h)).every) }

-- ══ Names and powers ══

hex-flat : (d : ℕ) → NotFeed (hexDigit d)
unfolding hexDigit
hex-flat d = go (ltb d 10) refl
  where
    go : (t : Bool) → ltb d 10 ≡ t → NotFeed (hexDigit d)
    go true e = rw e (ne_eqb (d + 48) 10 (omega arith))
    go false e = rw e (ne_eqb (d + 87) 10 (omega arith))

pub record NameFits (n : Bytes) : Type 0 where
  pub short : length (nameText n) ≤ length n * 3
  pub flat : Flat (nameText n)

record ByteFits (b : ℕ) : Type 0 where
  short : length (escaped b) ≤ 3
  flat : Flat (escaped b)

byte_fits : (b : ℕ) → ByteFits b
unfolding escaped is_plain isDigit
byte_fits b = go (is_plain b) refl
  where
    go : (t : Bool) → is_plain b ≡ t → ByteFits b
    go true e = record { short = rw e (omega arith); flat = rw e (record { every = (plain-no b 10 refl e, tt) }) }
    go false e = record { short = rw e (omega arith); flat = rw e (record { every = (refl, (hex-flat (b / 16), (hex-flat (b % 16), tt))) }) }

name-fits : (n : Bytes) → NameFits n
unfolding nameText collect
name-fits [] = record { short = omega arith; flat = record { every = tt } }
name-fits (b ∷ n) =
    let g = byte_fits b in
    let h = name-fits n in
    record { short = simp length-append (omega (arith, g.short, h.short)); flat = plus g.flat h.flat }

pub name-short : (n : Bytes) → length (nameText n) ≤ length n * 3
name-short n = (name-fits n).short

record DigitsFit (k n : ℕ) : Type 0 where
  short : length (decimal k n) ≤ k
  flat : Flat (decimal k n)

decimal-fits : (k n : ℕ) → DigitsFit k n
unfolding decimal
decimal-fits zero n = record { short = omega arith; flat = record { every = tt } }
decimal-fits (suc k) n = go (ltb n 10) refl (decimal-fits k (n / 10))
  where
    go : (t : Bool) → ltb n 10 ≡ t → DigitsFit k (n / 10) → DigitsFit (suc k) n
    go true e h = record { short = rw (e, decimal) (omega arith); flat = rw (e, decimal) (record { every = (ne_eqb (n + 48) 10 (omega arith), tt) }) }
    go false e h = record {
      short = rw (e, decimal) (simp length-append (omega (arith, h.short)));
      flat = rw (e, decimal) (plus h.flat (record { every = (ne_eqb (n % 10 + 48) 10 (omega arith), tt) }));
    }

-- at most so many bytes, none of them a line feed
record Fits (bs : Bytes) (n : ℕ) : Type 0 where
  short : length bs ≤ n
  flat : Flat bs

numerator-fits : (n : ℤ) → Fits (numeratorText n) 11
unfolding numeratorText all
numerator-fits (pos n) = let h = decimal-fits 10 n in record { short = omega (arith, h.short); flat = h.flat }
numerator-fits (negsuc n) = let h = decimal-fits 10 (suc n) in record { short = omega (arith, h.short); flat = plus (lit (ascii "-") refl) h.flat }

denominator-fits : (d : ℕ) → Fits (denominatorText d) 11
unfolding denominatorText all
denominator-fits d = go (eqb d 1) refl
  where
    go : (t : Bool) → eqb d 1 ≡ t → Fits (denominatorText d) 11
    go true e = record { short = rw (e, denominatorText) (omega arith); flat = rw (e, denominatorText) (record { every = tt }) }
    go false e = let h = decimal-fits 10 d
        in record { short = rw (e, denominatorText) (omega (arith, h.short)); flat = rw (e, denominatorText) (plus (lit (ascii "/") refl) h.flat) }

-- '25 for a power'
power-fits : (e : Exp) → Fits (powerText e) 25
unfolding powerText all
power-fits (frac n d) = go (is_yes (Exp-dec (frac n d) one)) refl
  where
    go : (t : Bool) → is_yes (Exp-dec (frac n d) one) ≡ t → Fits (powerText (frac n d)) 25
    go true e = record { short = rw (e, powerText) (omega arith); flat = rw (e, powerText) (record { every = tt }) }
    go false e =
        let g = numerator-fits n in
        let h = denominator-fits d in
        record {
          short = rw (e, powerText) (simp length-append (omega (arith, g.short, h.short)));
          flat = rw (e, powerText) (plus (lit (ascii "^(") refl) (plus g.flat (plus h.flat (lit (ascii ")") refl))));
        }

-- ══ Types ══

module _ {pool table : List ℕ} (good : Good pool table) where
  abbrev pub name_of : ℕ → Bytes
  name_of x = Meanings.name_of good x

  -- '144 for a name of 48 escaped bytes'
  held_fits : (x : ℕ) → is_held (table_of pool table) x ≡ true → Fits (nameText (name_of x)) 144
  held_fits x h =
      let l = Meanings.name-length good x (Meanings.held good x h) in
      let g = name-fits (name_of x) in
      record { short = omega (arith, l.1, g.short); flat = g.flat }

  abbrev pub IsGood : Factor ℕ → Type 0
  IsGood f = goodFactor (numbersOf (table_of pool table)) (is_held (table_of pool table)) 0 f ≡ true

  marked : (m x : ℕ) (e : Exp) → NotFeed m → is_held (table_of pool table) x ≡ true → Fits (m ∷ nameText (name_of x) ++ powerText e) 170
  marked m x e n h =
      let g = held_fits x h in
      let k = power-fits e in
      let front : Flat (m ∷ nameText (name_of x)) = record { every = (n, g.flat.every) } in
      record { short = simp length-append (omega (arith, g.short, k.short)); flat = plus front k.flat }

  factor-fits : (f : Factor ℕ) → IsGood f → Fits (factorText name_of f) 170
  unfolding goodFactor goodOpen factorText openText
  factor-fits (free (var x) ↑ e) g = marked 63 x e refl (and_left (is_held (table_of pool table) x) _ g)
  factor-fits (free (quant i) ↑ e) g = absurd (omega (arith, ltb-true i 0 (and_left (ltb i 0) _ g)))
  factor-fits (free (par x) ↑ e) g = marked 33 x e refl (and_left (is_held (table_of pool table) x) _ g)
  factor-fits (base x ↑ e) g = marked 35 x e refl (and_left (is_held (table_of pool table) x) _ g)

  more-factors-fit : (p : Product ℕ) → Every IsGood p → Fits (moreFactorsText name_of p) (length p * 173)
  unfolding moreFactorsText all
  more-factors-fit [] g = record { short = omega arith; flat = record { every = tt } }
  more-factors-fit (f ∷ p) g =
      let h = factor-fits f g.0 in
      let k = more-factors-fit p g.1 in
      record { short = simp length-append (omega (arith, h.short, k.short)); flat = plus (lit (ascii " * ") refl) (plus h.flat k.flat) }

  factors-fit : (p : Product ℕ) → Every IsGood p → Fits (factorsText name_of p) (length p * 173)
  unfolding factorsText
  factors-fit [] g = record { short = omega arith; flat = record { every = tt } }
  factors-fit (f ∷ p) g =
      let h = factor-fits f g.0 in
      let k = more-factors-fit p g.1 in
      record { short = simp length-append (omega (arith, h.short, k.short)); flat = plus h.flat k.flat }

  pub all_short : (p : Product ℕ) → Every IsGood p → length (factorsText name_of p) ≤ length p * 173
  all_short p g = (factors-fit p g).short

  dimension-fits : (p : Product ℕ) → goodProduct (numbersOf (table_of pool table)) (is_held (table_of pool table)) 0 p ≡ true
      → Fits (dimensionText name_of p) (length p * 173 + 2)
  unfolding dimensionText all
  dimension-fits p g =
      let h = factors-fit p (Meanings.good-dim good p g).each in
      record { short = simp length-append (omega (arith, h.short)); flat = plus (lit (ascii "[") refl) (plus h.flat (lit (ascii "]") refl)) }

  -- ══ A whole type ══

  -- two bytes are left for what separates it from the next
  record TyFits (bs : Bytes) (n : ℕ) : Type 0 where
    short : length bs + 2 ≤ n * 173
    flat : Flat bs

  abbrev pub isGood : Ty ℕ → Bool
  isGood t = goodTy (numbersOf (table_of pool table)) (is_held (table_of pool table)) 0 t

  abbrev pub areGood : Tys ℕ → Bool
  areGood ts = goodTys (numbersOf (table_of pool table)) (is_held (table_of pool table)) 0 ts

  abbrev pub fieldsGood : Fields ℕ → Bool
  fieldsGood fs = goodFields (numbersOf (table_of pool table)) (is_held (table_of pool table)) 0 fs

  mutual
    unfolding goodTy goodOpen tyText openText size all

    ty-fits : (t : Ty ℕ) → isGood t ≡ true → TyFits (tyText name_of t) (size t)
    ty-fits (opened (var x)) g = let h = held_fits x g in record { short = omega (arith, h.short); flat = plus (lit (ascii "?") refl) h.flat }
    ty-fits (opened (quant i)) g = absurd (omega (arith, ltb-true i 0 g))
    ty-fits (opened (par x)) g = let h = held_fits x g in record { short = omega (arith, h.short); flat = plus (lit (ascii "!") refl) h.flat }
    ty-fits (basic boolean) g = record { short = omega arith; flat = lit (ascii "Bool") refl }
    ty-fits (basic string) g = record { short = omega arith; flat = lit (ascii "String") refl }
    ty-fits (basic datetime) g = record { short = omega arith; flat = lit (ascii "DateTime") refl }
    ty-fits (dim p) g = let h = dimension-fits p g in record { short = omega (arith, h.short); flat = h.flat }
    ty-fits (fn ps r) g =
        let h = parameters-fit ps (and_left (areGood ps) _ g) in
        let k = ty-fits r (and_right (areGood ps) _ g) in
        record {
          short = simp length-append (omega (arith, h.short, k.short));
          flat = plus (lit (ascii "Fn[(") refl) (plus h.flat (plus (lit (ascii ") -> ") refl) (plus k.flat (lit (ascii "]") refl))));
        }
    ty-fits (struct n as' fs) g =
        let k = and_left (is_held (table_of pool table) n && areGood as' && fieldsGood fs) _ g in
        let i = and_left (is_held (table_of pool table) n && areGood as') _ k in
        let h = held_fits n (and_left (is_held (table_of pool table) n) _ i) in
        let l = arguments-fit as' (and_right (is_held (table_of pool table) n) _ i) in
        let m = fields_fit fs (and_right (is_held (table_of pool table) n && areGood as') _ k) in
        record { short = simp length-append (omega (arith, h.short, l.short, m.short)); flat = plus (lit (ascii "@") refl) (plus h.flat (plus l.flat m.flat)) }
    ty-fits (list t) g =
        let h = ty-fits t g in
        record { short = simp length-append (omega (arith, h.short)); flat = plus (lit (ascii "List<") refl) (plus h.flat (lit (ascii ">") refl)) }

    more-types-fit : (ts : Tys ℕ) → areGood ts ≡ true → Fits (moreTysText name_of ts) (sizeTys ts * 173)
    more-types-fit nil g = record { short = omega arith; flat = record { every = tt } }
    more-types-fit (cons t ts) g =
        let h = ty-fits t (and_left (isGood t) _ g) in
        let k = more-types-fit ts (and_right (isGood t) _ g) in
        record { short = simp length-append (omega (arith, h.short, k.short)); flat = plus (lit (ascii ", ") refl) (plus h.flat k.flat) }

    parameters-fit : (ts : Tys ℕ) → areGood ts ≡ true → Fits (tysText name_of ts) (sizeTys ts * 173)
    parameters-fit nil g = record { short = omega arith; flat = record { every = tt } }
    parameters-fit (cons t ts) g =
        let h = ty-fits t (and_left (isGood t) _ g) in
        let k = more-types-fit ts (and_right (isGood t) _ g) in
        record { short = simp length-append (omega (arith, h.short, k.short)); flat = plus h.flat k.flat }

    arguments-fit : (ts : Tys ℕ) → areGood ts ≡ true → Fits (argumentsText name_of ts) (sizeTys ts * 173 + 2)
    arguments-fit nil g = record { short = omega arith; flat = record { every = tt } }
    arguments-fit (cons t ts) g =
        let h = ty-fits t (and_left (isGood t) _ g) in
        let k = more-types-fit ts (and_right (isGood t) _ g) in
        record {
          short = simp length-append (omega (arith, h.short, k.short));
          flat = plus (lit (ascii "<") refl) (plus h.flat (plus k.flat (lit (ascii ">") refl)));
        }

    more-fields-fit : (fs : Fields ℕ) → fieldsGood fs ≡ true → Fits (moreFieldsText name_of fs) (sizeFields fs * 173)
    more-fields-fit noFields g = record { short = omega arith; flat = record { every = tt } }
    more-fields-fit (field n t fs) g =
        let k = and_left (is_held (table_of pool table) n && isGood t) _ g in
        let h = held_fits n (and_left (is_held (table_of pool table) n) _ k) in
        let l = ty-fits t (and_right (is_held (table_of pool table) n) _ k) in
        let m = more-fields-fit fs (and_right (is_held (table_of pool table) n && isGood t) _ g) in
        record {
          short = simp length-append (omega (arith, h.short, l.short, m.short));
          flat = plus (lit (ascii ", ") refl) (plus h.flat (plus (lit (ascii ": ") refl) (plus l.flat m.flat)));
        }

    fields_fit : (fs : Fields ℕ) → fieldsGood fs ≡ true → Fits (fieldsText name_of fs) (sizeFields fs * 173 + 2)
    fields_fit noFields g = record { short = omega arith; flat = record { every = tt } }
    fields_fit (field n t fs) g =
        let k = and_left (is_held (table_of pool table) n && isGood t) _ g in
        let h = held_fits n (and_left (is_held (table_of pool table) n) _ k) in
        let l = ty-fits t (and_right (is_held (table_of pool table) n) _ k) in
        let m = more-fields-fit fs (and_right (is_held (table_of pool table) n && isGood t) _ g) in
        record {
          short = simp length-append (omega (arith, h.short, l.short, m.short));
          flat = plus (lit (ascii "{") refl) (plus h.flat (plus (lit (ascii ": ") refl) (plus l.flat (plus m.flat (lit (ascii "}") refl)))));
        }

  -- a type's bytes, with two more for what separates it from the next
  pub ty-short : (t : Ty ℕ) → isGood t ≡ true → length (tyText name_of t) + 2 ≤ size t * 173
  ty-short t g = (ty-fits t g).short

  pub types-short : (ts : Tys ℕ) → areGood ts ≡ true → length (moreTysText name_of ts) ≤ sizeTys ts * 173
  types-short ts g = (more-types-fit ts g).short

  pub fields-short : (fs : Fields ℕ) → fieldsGood fs ≡ true → length (moreFieldsText name_of fs) ≤ sizeFields fs * 173
  fields-short fs g = (more-fields-fit fs g).short

  pub dimension-short : (p : Product ℕ) → goodProduct (numbersOf (table_of pool table)) (is_held (table_of pool table)) 0 p ≡ true
      → length (dimensionText name_of p) ≤ length p * 173 + 2
  dimension-short p g = (dimension-fits p g).short

  -- ══ Lines and sets ══

  -- a line without its line feed
  con-fits : (c : Con ℕ) → goodCon (numbersOf (table_of pool table)) (is_held (table_of pool table)) 0 c ≡ true → Fits (conText name_of c) (sizeCon c * 173 - 1)
  unfolding goodCon conText sizeCon size all
  con-fits (equal l r) g =
      let h = ty-fits l (and_left (isGood l) _ g) in
      let k = ty-fits r (and_right (isGood l) _ g) in
      record { short = simp length-append (omega (arith, h.short, k.short)); flat = plus h.flat (plus (lit (ascii " ~ ") refl) k.flat) }
  con-fits (isDim t) g =
      let h = ty-fits t g in
      record { short = simp length-append (omega (arith, h.short)); flat = plus h.flat (lit (ascii ": DType") refl) }
  con-fits (is_scalar p) g =
      let h = dimension-fits p g in
      record { short = simp length-append (omega (arith, h.short)); flat = plus h.flat (lit (ascii " = Scalar") refl) }
  con-fits (hasField x s t) g =
      let k = and_left (is_held (table_of pool table) x && isGood s) _ g in
      let h = held_fits x (and_left (is_held (table_of pool table) x) _ k) in
      let l = ty-fits s (and_right (is_held (table_of pool table) x) _ k) in
      let m = ty-fits t (and_right (is_held (table_of pool table) x && isGood s) _ g) in
      record {
        short = simp length-append (omega (arith, h.short, l.short, m.short));
        flat = plus (lit (ascii "HasField(") refl)
            (plus l.flat (plus (lit (ascii ", \"") refl) (plus h.flat (plus (lit (ascii "\", ") refl) (plus m.flat (lit (ascii ")") refl))))));
      }

  -- no line feed in a written line
  pub con-flat : (c : Con ℕ) → goodCon (numbersOf (table_of pool table)) (is_held (table_of pool table)) 0 c ≡ true → Every NotFeed (conText name_of c)
  con-flat c g = (con-fits c g).flat.every

  some_size : (c : Con ℕ) → 1 ≤ sizeCon c
  unfolding sizeCon
  some_size (equal l r) = omega arith
  some_size (isDim t) = omega arith
  some_size (is_scalar p) = omega arith
  some_size (hasField x s t) = omega arith

  -- 173 bytes a record suffice for every set
  pub set-fits : (cs : List (Con ℕ)) → all (goodCon (numbersOf (table_of pool table)) (is_held (table_of pool table)) 0) cs ≡ true
      → length (setText name_of cs) ≤ sum_of sizeCon cs * 173
  unfolding setText collect all
  set-fits [] g = omega arith
  set-fits (c ∷ cs) g =
      let h = con-fits c (and_left (goodCon (numbersOf (table_of pool table)) (is_held (table_of pool table)) 0 c) _ g) in
      let k = set-fits cs (and_right (goodCon (numbersOf (table_of pool table)) (is_held (table_of pool table)) 0 c) _ g) in
      simp length-append (omega (arith, h.short, k, some_size c))
