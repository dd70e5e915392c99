-- The grammar stays in its line: every place it comes to, and every column it tells, is one of the line's or that of the line's end. And the types
-- that it reads are nested at most 64 deep.
use Rattle.std.specs.Prelude.{◌≡◌, Bool, length}
use Rattle.std.proofs.Math.Path.{refl}
use Rattle.std.proofs.Math.Bool.{true, false}
use mathlib.Core.List.{List, [], ◌∷◌}
use Rattle.std.proofs.Math.Option.{Option, none, some}
use Prim.Native.Nat.{ℕ, zero, suc, ◌+◌, ◌-◌, ◌*◌, ◌≤◌}
use Prim.Native.Char.{Char, code}
use native.Mathlib.Omega.{arith}
use Rattle.std.proofs.Math.Dec.{eqb}
use Rattle.rules.specs.Names.{Bytes}
use Rattle.rules.specs.Trees.{Open, var, quant, par, Atom, free, base, Basic, boolean, string, datetime}
use Rattle.rules.specs.Grammar.{Place, here, beyond, Parsed, read, bad, Rule, pass, give, isBlank, skipFrom, skip, spellFrom, spell, ascii, sign, mark}
use Rattle.rules.specs.Grammar.{columnOf, column, starts, either, ifSign, pick, chosen, choose, left, ended, end_at, is_plain, isDigit, hexOf, Half, whole}
use Rattle.rules.specs.Grammar.{slashed, half, more, nameFrom, NameAt, name, digitsFrom, digitsAt, digits, PowerAt, signedBy, power, noPower, FactorAt, TyAt}
use Rattle.rules.specs.Grammar.{open_at, basicAt, dimAt, fn_at, listAt, struct_at, deepAt, TysAt, nilAt, consAt, FieldsAt, noneAt, field_at, markedWith, marks}
use Rattle.rules.specs.Grammar.{factor, moreFactors, factors, dimension, opened, moreTys, tys, function, listed, fieldName, moreFields, fields}
use Rattle.rules.specs.Grammar.{structure, types, tooDeep, deepTypes, type, ConAt, equalAt, isDimAt, isScalarAt, hasFieldAt, afterType, afterDimension, typed}
use Rattle.rules.specs.Grammar.{hasField, constraint, signsAt, line, ◌>>=◌, ◌>>◌}
use Rattle.laws.specs.Lists.{Every}
use Rattle.text_columns.proofs.Deep.{depthAt, depthTysAt, depthFieldsAt, depthConAt}

-- ══ Parts of the longer rules ══

abbrev typedPower : ℕ → Bool → ℕ → ℕ → PowerAt
typedPower c m n d = record { column = c; numerator = signedBy m n; denominator = d }

abbrev closing : ℕ → Bool → ℕ → ℕ → Rule PowerAt
closing c m n d = sign ")" >> give (typedPower c m n d)

abbrev minusThere : Rule Bool
minusThere = ifSign "-" (sign "-" >> give true) (give false)

abbrev denominatorThere : Rule ℕ
denominatorThere = ifSign "/" (sign "/" >> digits) (give 1)

abbrev numbers : ℕ → Rule PowerAt
numbers c = minusThere >>= λ m. digits >>= λ n. denominatorThere >>= λ d. closing c m n d

abbrev result_of : Rule TyAt → ℕ → TysAt → Rule TyAt
result_of ty c ps = ty >>= λ r. sign "]" >> give (fn_at c ps r)

abbrev arrow : Rule TyAt → ℕ → Rule TyAt
arrow ty c = ifSign ")" (give nilAt) (tys ty) >>= λ ps. sign ")" >> (sign "->" >> result_of ty c ps)

abbrev lastType : ℕ → TyAt → NameAt → Rule ConAt
lastType c s n = type 64 >>= λ t. sign ")" >> give (hasFieldAt c s n t)

abbrev quoted : ℕ → TyAt → Rule ConAt
quoted c s = name >>= λ n. spell (ascii "\"") >> (sign "," >> lastType c s n)

module _ (e : ℕ) where
  -- ══ Rules that stay in a line whose end has the column e ══

  abbrev pub InLine : Place → Type 0
  InLine (here c bs) = c + length bs ≡ e
  InLine beyond = Unit {0}

  abbrev pub Ends : {A : Type 0} → (A → Type 0) → Parsed A → Type 0
  Ends Q (read a p) = Q a × InLine p
  Ends Q (bad c) = c ≤ e

  -- from a place of the line a rule comes to another, with a value of which Q holds; or to a column of the line
  pub record Stays {A : Type 0} (R : Rule A) (Q : A → Type 0) : Type 0 where
    pub from : (p : Place) → InLine p → Ends Q (R p)

  abbrev Any : {A : Type 0} → A → Type 0
  Any a = Unit {0}

  passes : {A B : Type 0} (x : Parsed A) (K : A → Rule B) (Q : A → Type 0) (P : B → Type 0) → Ends Q x → ((a : A) → Q a → Stays (K a) P) → Ends P (pass x K)
  passes (read a p) K Q P h k = (k a h.0).from p h.1
  passes (bad c) K Q P h k = h

  in-turn : {A B : Type 0} {Q : A → Type 0} {P : B → Type 0} (R : Rule A) (K : A → Rule B) → Stays R Q → ((a : A) → Q a → Stays (K a) P)
      → Stays (λ p. pass (R p) K) P
  in-turn {A} {B} {Q} {P} R K x k = record { from = λ p h. passes (R p) K Q P (x.from p h) k }

  given : {A : Type 0} {Q : A → Type 0} (a : A) → Q a → Stays (give a) Q
  given a q = record { from = λ p h. (q, h) }

  -- ══ Signs ══

  skip-from : (c : ℕ) (bs : Bytes) → c + length bs ≡ e → InLine (skipFrom c bs)
  unfolding skipFrom
  skip-from c [] h = h
  skip-from c (b ∷ bs) h = go (isBlank b) refl (skip-from (suc c) bs (omega arith))
    where
      go : (u : Bool) → isBlank b ≡ u → InLine (skipFrom (suc c) bs) → InLine (skipFrom c (b ∷ bs))
      go true q k = rw (q, skipFrom) k
      go false q k = rw (q, skipFrom) h

  skip-in : (p : Place) → InLine p → InLine (skip p)
  unfolding skip
  skip-in (here c bs) h = skip-from c bs h
  skip-in beyond h = tt

  column-of : (p : Place) → InLine p → columnOf p ≤ e
  column-of (here c bs) h = omega arith
  column-of beyond h = omega arith

  spell-from : (ws : Bytes) (c : ℕ) (bs : Bytes) → c + length bs ≡ e → Ends Any (spellFrom ws c bs)
  unfolding spellFrom
  spell-from [] c bs h = (tt, h)
  spell-from (w ∷ ws) c [] h = omega arith
  spell-from (w ∷ ws) c (b ∷ bs) h = go (eqb b w) refl (spell-from ws (suc c) bs (omega arith))
    where
      go : (u : Bool) → eqb b w ≡ u → Ends Any (spellFrom ws (suc c) bs) → Ends Any (spellFrom (w ∷ ws) c (b ∷ bs))
      go true q k = rw (q, spellFrom) k
      go false q k = rw (q, spellFrom) (omega arith)

  spell-at : (ws : Bytes) (p : Place) → InLine p → Ends Any (spell ws p)
  unfolding spell
  spell-at ws (here c bs) h = spell-from ws c bs h
  spell-at ws beyond h = (tt, tt)

  spell-in : (ws : Bytes) → Stays (spell ws) Any
  spell-in ws = record { from = spell-at ws }

  sign-in : (ws : Bytes) → Stays (λ p. spell ws (skip p)) Any
  sign-in ws = record { from = λ p h. spell-at ws (skip p) (skip-in p h) }

  column-in : Stays column (λ c. c ≤ e)
  column-in = record { from = λ p h. (column-of (skip p) (skip-in p h), skip-in p h) }

  left_in : Stays left Any
  left_in = record { from = λ p h. (tt, h) }

  end-at : (p : Place) → InLine p → Ends Any (end_at p)
  end-at (here c []) h = (tt, h)
  end-at (here c (b ∷ bs)) h = omega arith
  end-at beyond h = (tt, tt)

  ended-in : Stays ended Any
  ended-in = record { from = λ p h. end-at (skip p) (skip-in p h) }

  module _ {A : Type 0} {Q : A → Type 0} where
    either-in : (u : Bool) (r s : Rule A) → Stays r Q → Stays s Q → (p : Place) → InLine p → Ends Q (either u r s p)
    either-in true r s x y p h = x.from p h
    either-in false r s x y p h = y.from p h

    if-sign : (x : Char) (r s : Rule A) → Stays r Q → Stays s Q → Stays (ifSign x r s) Q
    if-sign x r s y z = record { from = λ p h. either-in (starts x (skip p)) r s y z p h }

    pick-in : (b : ℕ) (xs : List (Char × Rule A)) → Every (λ (x : Char × Rule A). Stays x.1 Q) xs → Stays (pick b xs) Q
    pick-in b [] t = record { from = column-of }
    pick-in b (x ∷ xs) t = go (eqb b (code x.0)) refl (pick-in b xs t.1)
      where
        go : (u : Bool) → eqb b (code x.0) ≡ u → Stays (pick b xs) Q → Stays (pick b (x ∷ xs)) Q
        go true q k = rw (q, pick) t.0
        go false q k = rw (q, pick) k

  chosen-in : {A : Type 0} (Q : A → Type 0) (a : A) (xs : List (Char × Rule A)) → Q a → Every (λ (x : Char × Rule A). Stays x.1 Q) xs → (p : Place) → InLine p
      → Ends Q (chosen a xs p)
  chosen-in Q a xs q t (here c []) h = omega arith
  chosen-in Q a xs q t (here c (b ∷ bs)) h = (pick-in b xs t).from (here c (b ∷ bs)) h
  chosen-in Q a xs q t beyond h = (q, tt)

  choose-in : {A : Type 0} (Q : A → Type 0) (a : A) (xs : List (Char × Rule A)) → Q a → Every (λ (x : Char × Rule A). Stays x.1 Q) xs → Stays (choose a xs) Q
  choose-in Q a xs q t = record { from = λ p h. chosen-in Q a xs q t (skip p) (skip-in p h) }

  -- ══ Names and powers ══

  more-in : (b : ℕ) (x : Parsed Bytes) → Ends Any x → Ends Any (more b x)
  more-in b (read bs p) h = h
  more-in b (bad c) h = h

  name-from : (k : Half) (c : ℕ) (bs : Bytes) → c + length bs ≡ e → Ends Any (nameFrom k c bs)
  unfolding nameFrom
  name-from whole c [] h = (tt, h)
  name-from slashed c [] h = omega arith
  name-from (half k) c [] h = omega arith
  name-from whole c (b ∷ bs) h = go (is_plain b) (eqb b (code "\\")) refl refl (name-from whole (suc c) bs (omega arith))
      (name-from slashed (suc c) bs (omega arith))
    where
      go : (u v : Bool) → is_plain b ≡ u → eqb b (code "\\") ≡ v → Ends Any (nameFrom whole (suc c) bs) → Ends Any (nameFrom slashed (suc c) bs)
          → Ends Any (nameFrom whole c (b ∷ bs))
      go true v q r x y = rw (q, nameFrom) (more-in b (nameFrom whole (suc c) bs) x)
      go false true q r x y = rw (q, r, nameFrom) y
      go false false q r x y = rw (q, r, nameFrom) (tt, h)
  name-from slashed c (b ∷ bs) h = go (hexOf b) refl (λ k. name-from (half k) (suc c) bs (omega arith))
    where
      go : (u : Option ℕ) → hexOf b ≡ u → ((k : ℕ) → Ends Any (nameFrom (half k) (suc c) bs)) → Ends Any (nameFrom slashed c (b ∷ bs))
      go none q x = rw (q, nameFrom) (omega arith)
      go (some k) q x = rw (q, nameFrom) (x k)
  name-from (half j) c (b ∷ bs) h = go (hexOf b) refl (name-from whole (suc c) bs (omega arith))
    where
      go : (u : Option ℕ) → hexOf b ≡ u → Ends Any (nameFrom whole (suc c) bs) → Ends Any (nameFrom (half j) c (b ∷ bs))
      go none q x = rw (q, nameFrom) (omega arith)
      go (some k) q x = rw (q, nameFrom) (more-in (j * 16 + k) (nameFrom whole (suc c) bs) x)

  abbrev pub NameIn : NameAt → Type 0
  NameIn n = n.column ≤ e

  name-at : (p : Place) → InLine p → Ends NameIn (name p)
  unfolding name
  name-at (here c bs) h = passes (nameFrom whole c bs) (λ n. give (record { column = c; bytes = n })) Any NameIn (name-from whole c bs h)
      (λ n k. given (record { column = c; bytes = n }) (omega arith))
  name-at beyond h = (omega arith, tt)

  name_in : Stays name NameIn
  name_in = record { from = name-at }

  field-name : Stays fieldName NameIn
  field-name = record { from = λ p h. name-at (skip p) (skip-in p h) }

  digits_from : (n c : ℕ) (bs : Bytes) → c + length bs ≡ e → Ends Any (digitsFrom n c bs)
  unfolding digitsFrom
  digits_from n c [] h = (tt, h)
  digits_from n c (b ∷ bs) h = go (isDigit b) refl (digits_from (n * 10 + (b - 48)) (suc c) bs (omega arith))
    where
      go : (u : Bool) → isDigit b ≡ u → Ends Any (digitsFrom (n * 10 + (b - 48)) (suc c) bs) → Ends Any (digitsFrom n c (b ∷ bs))
      go true q k = rw (q, digitsFrom) k
      go false q k = rw (q, digitsFrom) (tt, h)

  digits-at : (p : Place) → InLine p → Ends Any (digitsAt p)
  unfolding digitsAt
  digits-at (here c []) h = omega arith
  digits-at (here c (b ∷ bs)) h = go (isDigit b) refl (digits_from 0 c (b ∷ bs) h)
    where
      go : (u : Bool) → isDigit b ≡ u → Ends Any (digitsFrom 0 c (b ∷ bs)) → Ends Any (digitsAt (here c (b ∷ bs)))
      go true q k = rw (q, digitsAt) k
      go false q k = rw (q, digitsAt) (omega arith)
  digits-at beyond h = (tt, tt)

  digits_in : Stays digits Any
  digits_in = record { from = λ p h. digits-at (skip p) (skip-in p h) }

  abbrev pub PowerIn : PowerAt → Type 0
  PowerIn p = p.column ≤ e

  minus-in : Stays minusThere Any
  minus-in = if-sign {Q = Any} "-" (sign "-" >> give true) (give false) (in-turn (sign "-") (λ u. give true) (sign-in (ascii "-")) (λ u hu. given true tt))
      (given false tt)

  denominator-in : Stays denominatorThere Any
  denominator-in = if-sign {Q = Any} "/" (sign "/" >> digits) (give 1) (in-turn (sign "/") (λ u. digits) (sign-in (ascii "/")) (λ u hu. digits_in)) (given 1 tt)

  numbers-in : (c : ℕ) → c ≤ e → Stays (numbers c) PowerIn
  numbers-in c hc =
      in-turn minusThere (λ m. digits >>= λ n. denominatorThere >>= λ d. closing c m n d) minus-in
      (λ m hm. in-turn digits (λ n. denominatorThere >>= λ d. closing c m n d) digits_in
      (λ n hn. in-turn denominatorThere (λ d. closing c m n d) denominator-in
      (λ d hd. in-turn (sign ")") (λ u. give (typedPower c m n d)) (sign-in (ascii ")")) (λ u hu. given (typedPower c m n d) hc))))

  power_in : Stays power PowerIn
  unfolding power
  power_in =
      in-turn column (λ c. sign "^" >> (sign "(" >> numbers c)) column-in
      (λ c hc. in-turn (sign "^") (λ u. sign "(" >> numbers c) (sign-in (ascii "^"))
      (λ u hu. in-turn (sign "(") (λ v. numbers c) (sign-in (ascii "(")) (λ v hv. numbers-in c hc)))

  -- ══ Factors and dimensions ══

  abbrev pub OpenIn : Open NameAt → Type 0
  OpenIn (var n) = NameIn n
  OpenIn (quant i) = ⊥
  OpenIn (par n) = NameIn n

  abbrev pub AtomIn : Atom NameAt → Type 0
  AtomIn (free o) = OpenIn o
  AtomIn (base n) = NameIn n

  pub record FactorIn (f : FactorAt) : Type 0 where
    pub mark : f.column ≤ e
    pub atom : AtomIn f.atom
    pub power : PowerIn f.power

  marked-in : (x : Char) (f : NameAt → Atom NameAt) → ((n : NameAt) → NameIn n → AtomIn (f n)) → Stays (markedWith x f).1 AtomIn
  marked-in x f k = in-turn (mark x >> name) (λ n. give (f n)) (in-turn (mark x) (λ u. name) (sign-in (code x ∷ [])) (λ u hu. name_in))
      (λ n hn. given (f n) (k n hn))

  abbrev noAtom : Atom NameAt
  noAtom = base (record { column = 0; bytes = [] })

  atom-in : Stays (choose noAtom marks) AtomIn
  atom-in = choose-in AtomIn noAtom marks (omega arith) (
    marked-in "?" (λ n. free (var n)) (λ n h. h),
    (marked-in "!" (λ n. free (par n)) (λ n h. h), (marked-in "#" base (λ n h. h), tt)),
  )

  abbrev powerThere : Rule PowerAt
  powerThere = ifSign "^" power (give noPower)

  factor-in : Stays factor FactorIn
  unfolding factor
  factor-in =
      in-turn column (λ c. choose noAtom marks >>= λ a. powerThere >>= λ k. give (record { column = c; atom = a; power = k })) column-in
      (λ c hc. in-turn (choose noAtom marks) (λ a. powerThere >>= λ k. give (record { column = c; atom = a; power = k })) atom-in
      (λ a ha. in-turn powerThere (λ k. give (record { column = c; atom = a; power = k }))
      (if-sign {Q = PowerIn} "^" power (give noPower) power_in (given noPower (omega arith)))
      (λ k hk. given (record { column = c; atom = a; power = k }) (record { mark = hc; atom = ha; power = hk }))))

  more-factors : (n : ℕ) → Stays (moreFactors n) (Every FactorIn)
  unfolding moreFactors
  more-factors zero = given [] tt
  more-factors (suc n) =
      if-sign {Q = Every FactorIn} "*" (sign "*" >> (factor >>= λ f. moreFactors n >>= λ fs. give (f ∷ fs))) (give [])
      (in-turn (sign "*") (λ u. factor >>= λ f. moreFactors n >>= λ fs. give (f ∷ fs)) (sign-in (ascii "*"))
      (λ u hu. in-turn factor (λ f. moreFactors n >>= λ fs. give (f ∷ fs)) factor-in
      (λ f hf. in-turn (moreFactors n) (λ fs. give (f ∷ fs)) (more-factors n) (λ fs hs. given (f ∷ fs) (hf, hs)))))
      (given [] tt)

  factors-in : Stays factors (Every FactorIn)
  factors-in =
      in-turn factor (λ f. left >>= λ n. moreFactors n >>= λ fs. give (f ∷ fs)) factor-in
      (λ f hf. in-turn left (λ n. moreFactors n >>= λ fs. give (f ∷ fs)) left_in
      (λ n hn. in-turn (moreFactors n) (λ fs. give (f ∷ fs)) (more-factors n) (λ fs hs. given (f ∷ fs) (hf, hs))))

  -- ══ Types ══

  pub record DimIn (c : ℕ) (fs : List FactorAt) (d : ℕ) : Type 0 where
    pub first : c ≤ e
    pub inside : Every FactorIn fs
    pub last : d ≤ e

  unfoldable mutual
    pub TyIn : TyAt → Type 0
    TyIn (open_at c o) = (c ≤ e) × OpenIn o
    TyIn (basicAt c b) = c ≤ e
    TyIn (dimAt c fs d) = DimIn c fs d
    TyIn (fn_at c ps r) = (c ≤ e) × TysIn ps × TyIn r
    TyIn (listAt c t) = (c ≤ e) × TyIn t
    TyIn (struct_at c n ts fs) = (c ≤ e) × NameIn n × TysIn ts × FieldsIn fs
    TyIn (deepAt c) = c ≤ e

    pub TysIn : TysAt → Type 0
    TysIn nilAt = Unit {0}
    TysIn (consAt t ts) = TyIn t × TysIn ts

    pub FieldsIn : FieldsAt → Type 0
    FieldsIn noneAt = Unit {0}
    FieldsIn (field_at n t fs) = NameIn n × TyIn t × FieldsIn fs

  -- in the line, and nested at most d deep
  abbrev Types : ℕ → TyAt → Type 0
  Types d t = TyIn t × (depthAt t ≤ d)

  abbrev Lists : ℕ → TysAt → Type 0
  Lists d ts = TysIn ts × (depthTysAt ts ≤ d)

  abbrev Members : ℕ → FieldsAt → Type 0
  Members d fs = FieldsIn fs × (depthFieldsAt fs ≤ d)

  abbrev factorsThere : Rule (List FactorAt)
  factorsThere = ifSign "]" (give []) factors

  dimension-in : (d : ℕ) → Stays dimension (Types (suc d))
  unfolding dimension TyIn depthAt
  dimension-in b =
      in-turn column (λ c. sign "[" >> (factorsThere >>= λ fs. column >>= λ d. sign "]" >> give (dimAt c fs d))) column-in
      (λ c hc. in-turn (sign "[") (λ u. factorsThere >>= λ fs. column >>= λ d. sign "]" >> give (dimAt c fs d)) (sign-in (ascii "["))
      (λ u hu. in-turn factorsThere (λ fs. column >>= λ d. sign "]" >> give (dimAt c fs d)) (if-sign {Q = Every FactorIn} "]" (give []) factors
      (given [] tt) factors-in)
      (λ fs hf. in-turn column (λ d. sign "]" >> give (dimAt c fs d)) column-in
      (λ d hd. in-turn (sign "]") (λ w. give (dimAt c fs d)) (sign-in (ascii "]"))
      (λ w hw. given (dimAt c fs d) (record { first = hc; inside = hf; last = hd }, omega arith))))))

  opened_in : (d : ℕ) (x : Char) (f : NameAt → Open NameAt) → ((n : NameAt) → NameIn n → OpenIn (f n)) → Stays (opened x f) (Types (suc d))
  unfolding TyIn depthAt
  opened_in d x f k =
      in-turn column (λ c. mark x >> (name >>= λ n. give (open_at c (f n)))) column-in
      (λ c hc. in-turn (mark x) (λ u. name >>= λ n. give (open_at c (f n))) (sign-in (code x ∷ []))
      (λ u hu. in-turn name (λ n. give (open_at c (f n))) name_in (λ n hn. given (open_at c (f n)) ((hc, k n hn), omega arith))))

  keyword-in : (d : ℕ) (ws : Bytes) (b : Basic) → Stays (column >>= λ c. (λ p. spell ws (skip p)) >> give (basicAt c b)) (Types (suc d))
  unfolding TyIn depthAt
  keyword-in d ws b =
      in-turn column (λ c. (λ p. spell ws (skip p)) >> give (basicAt c b)) column-in
      (λ c hc. in-turn (λ p. spell ws (skip p)) (λ u. give (basicAt c b)) (sign-in ws) (λ u hu. given (basicAt c b) (hc, omega arith)))

  -- ══ Functions and lists ══

  -- types whose inside stays in the line, nested at most d deep
  module _ (ty : Rule TyAt) (d : ℕ) (inner : Stays ty (Types d)) where
    more-tys : (n : ℕ) → Stays (moreTys ty n) (Lists d)
    unfolding moreTys TyIn depthAt
    more-tys zero = given nilAt (tt, omega arith)
    more-tys (suc n) =
        if-sign {Q = Lists d} "," (sign "," >> (ty >>= λ t. moreTys ty n >>= λ ts. give (consAt t ts))) (give nilAt)
        (in-turn (sign ",") (λ u. ty >>= λ t. moreTys ty n >>= λ ts. give (consAt t ts)) (sign-in (ascii ","))
        (λ u hu. in-turn ty (λ t. moreTys ty n >>= λ ts. give (consAt t ts)) inner
        (λ t ht. in-turn (moreTys ty n) (λ ts. give (consAt t ts)) (more-tys n) (λ ts hs. given (consAt t ts) ((ht.0, hs.0), omega (arith, ht.1, hs.1))))))
        (given nilAt (tt, omega arith))

    tys-in : Stays (tys ty) (Lists d)
    unfolding TyIn depthAt
    tys-in =
        in-turn ty (λ t. left >>= λ n. moreTys ty n >>= λ ts. give (consAt t ts)) inner
        (λ t ht. in-turn left (λ n. moreTys ty n >>= λ ts. give (consAt t ts)) left_in
        (λ n hn. in-turn (moreTys ty n) (λ ts. give (consAt t ts)) (more-tys n) (λ ts hs. given (consAt t ts) ((ht.0, hs.0), omega (arith, ht.1, hs.1)))))

    result-in : (c : ℕ) (ps : TysAt) → c ≤ e → Lists d ps → Stays (result_of ty c ps) (Types (suc d))
    unfolding TyIn depthAt
    result-in c ps hc hp =
        in-turn ty (λ r. sign "]" >> give (fn_at c ps r)) inner
        (λ r hr. in-turn (sign "]") (λ u. give (fn_at c ps r)) (sign-in (ascii "]"))
        (λ u hu. given (fn_at c ps r) ((hc, hp.0, hr.0), omega (arith, hp.1, hr.1))))

    params_in : Stays (ifSign ")" (give nilAt) (tys ty)) (Lists d)
    unfolding TyIn depthAt
    params_in = if-sign {Q = Lists d} ")" (give nilAt) (tys ty) (given nilAt (tt, omega arith)) tys-in

    arrow-in : (c : ℕ) → c ≤ e → Stays (arrow ty c) (Types (suc d))
    arrow-in c hc =
        in-turn (ifSign ")" (give nilAt) (tys ty)) (λ ps. sign ")" >> (sign "->" >> result_of ty c ps)) params_in
        (λ ps hp. in-turn (sign ")") (λ u. sign "->" >> result_of ty c ps) (sign-in (ascii ")"))
        (λ u hu. in-turn (sign "->") (λ v. result_of ty c ps) (sign-in (ascii "->")) (λ v hv. result-in c ps hc hp)))

    function-in : Stays (function ty) (Types (suc d))
    unfolding function
    function-in =
        in-turn column (λ c. sign "Fn" >> (sign "[" >> (sign "(" >> arrow ty c))) column-in
        (λ c hc. in-turn (sign "Fn") (λ u. sign "[" >> (sign "(" >> arrow ty c)) (sign-in (ascii "Fn"))
        (λ u hu. in-turn (sign "[") (λ v. sign "(" >> arrow ty c) (sign-in (ascii "["))
        (λ v hv. in-turn (sign "(") (λ w. arrow ty c) (sign-in (ascii "(")) (λ w hw. arrow-in c hc))))

    listed_in : Stays (listed ty) (Types (suc d))
    unfolding listed TyIn depthAt
    listed_in =
        in-turn column (λ c. sign "List" >> (sign "<" >> (ty >>= λ t. sign ">" >> give (listAt c t)))) column-in
        (λ c hc. in-turn (sign "List") (λ u. sign "<" >> (ty >>= λ t. sign ">" >> give (listAt c t))) (sign-in (ascii "List"))
        (λ u hu. in-turn (sign "<") (λ v. ty >>= λ t. sign ">" >> give (listAt c t)) (sign-in (ascii "<"))
        (λ v hv. in-turn ty (λ t. sign ">" >> give (listAt c t)) inner
        (λ t ht. in-turn (sign ">") (λ w. give (listAt c t)) (sign-in (ascii ">")) (λ w hw. given (listAt c t) ((hc, ht.0), omega (arith, ht.1)))))))

    -- ══ Structures ══

    more-fields : (n : ℕ) → Stays (moreFields ty n) (Members d)
    unfolding moreFields TyIn depthAt
    more-fields zero = given noneAt (tt, omega arith)
    more-fields (suc n) =
        if-sign {Q = Members d} "," (sign "," >> (fieldName >>= λ x. sign ":" >> (ty >>= λ t. moreFields ty n >>= λ fs. give (field_at x t fs)))) (give noneAt)
        (in-turn (sign ",") (λ u. fieldName >>= λ x. sign ":" >> (ty >>= λ t. moreFields ty n >>= λ fs. give (field_at x t fs))) (sign-in (ascii ","))
        (λ u hu. in-turn fieldName (λ x. sign ":" >> (ty >>= λ t. moreFields ty n >>= λ fs. give (field_at x t fs))) field-name
        (λ x hx. in-turn (sign ":") (λ v. ty >>= λ t. moreFields ty n >>= λ fs. give (field_at x t fs)) (sign-in (ascii ":"))
        (λ v hv. in-turn ty (λ t. moreFields ty n >>= λ fs. give (field_at x t fs)) inner
        (λ t ht. in-turn (moreFields ty n) (λ fs. give (field_at x t fs)) (more-fields n)
        (λ fs hs. given (field_at x t fs) ((hx, ht.0, hs.0), omega (arith, ht.1, hs.1))))))))
        (given noneAt (tt, omega arith))

    fields_in : Stays (fields ty) (Members d)
    unfolding TyIn depthAt
    fields_in =
        in-turn fieldName (λ x. sign ":" >> (ty >>= λ t. left >>= λ n. moreFields ty n >>= λ fs. give (field_at x t fs))) field-name
        (λ x hx. in-turn (sign ":") (λ v. ty >>= λ t. left >>= λ n. moreFields ty n >>= λ fs. give (field_at x t fs)) (sign-in (ascii ":"))
        (λ v hv. in-turn ty (λ t. left >>= λ n. moreFields ty n >>= λ fs. give (field_at x t fs)) inner
        (λ t ht. in-turn left (λ n. moreFields ty n >>= λ fs. give (field_at x t fs)) left_in
        (λ n hn. in-turn (moreFields ty n) (λ fs. give (field_at x t fs)) (more-fields n)
        (λ fs hs. given (field_at x t fs) ((hx, ht.0, hs.0), omega (arith, ht.1, hs.1)))))))

    abbrev types_in : Rule TysAt
    types_in = (sign "<" >> tys ty) >>= λ ts. sign ">" >> give ts

    abbrev typesThere : Rule TysAt
    typesThere = ifSign "<" types_in (give nilAt)

    types-there : Stays typesThere (Lists d)
    unfolding TyIn depthAt
    types-there =
        if-sign {Q = Lists d} "<" types_in (give nilAt)
        (in-turn (sign "<" >> tys ty) (λ ts. sign ">" >> give ts) (in-turn (sign "<") (λ u. tys ty) (sign-in (ascii "<")) (λ u hu. tys-in))
        (λ ts hs. in-turn (sign ">") (λ w. give ts) (sign-in (ascii ">")) (λ w hw. given ts hs)))
        (given nilAt (tt, omega arith))

    abbrev fieldsInside : Rule FieldsAt
    fieldsInside = (sign "{" >> fields ty) >>= λ fs. sign "}" >> give fs

    abbrev fieldsThere : Rule FieldsAt
    fieldsThere = ifSign "{" fieldsInside (give noneAt)

    fields-there : Stays fieldsThere (Members d)
    unfolding TyIn depthAt
    fields-there =
        if-sign {Q = Members d} "{" fieldsInside (give noneAt)
        (in-turn (sign "{" >> fields ty) (λ fs. sign "}" >> give fs) (in-turn (sign "{") (λ u. fields ty) (sign-in (ascii "{")) (λ u hu. fields_in))
        (λ fs hs. in-turn (sign "}") (λ w. give fs) (sign-in (ascii "}")) (λ w hw. given fs hs)))
        (given noneAt (tt, omega arith))

    structure-in : Stays (structure ty) (Types (suc d))
    unfolding structure TyIn depthAt
    structure-in =
        in-turn column (λ c. sign "@" >> (name >>= λ n. typesThere >>= λ ts. fieldsThere >>= λ fs. give (struct_at c n ts fs))) column-in
        (λ c hc. in-turn (sign "@") (λ u. name >>= λ n. typesThere >>= λ ts. fieldsThere >>= λ fs. give (struct_at c n ts fs)) (sign-in (ascii "@"))
        (λ u hu. in-turn name (λ n. typesThere >>= λ ts. fieldsThere >>= λ fs. give (struct_at c n ts fs)) name_in
        (λ n hn. in-turn typesThere (λ ts. fieldsThere >>= λ fs. give (struct_at c n ts fs)) types-there
        (λ ts ht. in-turn fieldsThere (λ fs. give (struct_at c n ts fs)) fields-there
        (λ fs hf. given (struct_at c n ts fs) ((hc, hn, ht.0, hf.0), omega (arith, ht.1, hf.1)))))))

    types-in : Every (λ (x : Char × Rule TyAt). Stays x.1 (Types (suc d))) (types ty)
    types-in = (
      opened_in d "?" var (λ n h. h),
      (
        opened_in d "!" par (λ n h. h),
        (
          dimension-in d,
          (
            keyword-in d (ascii "Bool") boolean,
            (
              keyword-in d (ascii "String") string,
              (keyword-in d (ascii "DateTime") datetime, (function-in, (listed_in, (structure-in, tt)))),
            ),
          ),
        ),
      ),
    )

  -- ══ All types, to the depth that is read ══

  deep_in : Stays tooDeep (Types 0)
  unfolding TyIn depthAt
  deep_in = record { from = λ p h. ((column-of p h, omega arith), tt) }

  nothing-deep : (d : ℕ) → Types d (deepAt 0)
  unfolding TyIn depthAt
  nothing-deep d = (omega arith, omega arith)

  type-in : (d : ℕ) → Stays (type d) (Types d)
  unfolding type
  type-in zero = choose-in (Types 0) (deepAt 0) deepTypes (nothing-deep 0) (
    deep_in,
    (deep_in, (deep_in, (deep_in, (deep_in, (deep_in, (deep_in, (deep_in, (deep_in, tt)))))))),
  )
  type-in (suc d) = choose-in (Types (suc d)) (deepAt 0) (types (type d)) (nothing-deep (suc d)) (types-in (type d) d (type-in d))

  -- ══ Lines ══

  abbrev pub ConIn : ConAt → Type 0
  ConIn (equalAt c l r) = (c ≤ e) × TyIn l × TyIn r
  ConIn (isDimAt c t) = (c ≤ e) × TyIn t
  ConIn (isScalarAt c d fs k) = (c ≤ e) × DimIn d fs k
  ConIn (hasFieldAt c s n t) = (c ≤ e) × TyIn s × NameIn n × TyIn t

  -- and its types are nested at most 64 deep
  abbrev pub Shallow : ConAt → Type 0
  Shallow c = ConIn c × (depthConAt c ≤ 64)

  abbrev RulesIn : List (Char × Rule ConAt) → Type 0
  RulesIn xs = Every (λ (x : Char × Rule ConAt). Stays x.1 Shallow) xs

  after-type : (c : ℕ) (l : TyAt) (xs : List (Char × Rule ConAt)) → c ≤ e → Types 64 l → RulesIn xs → RulesIn (afterType c l xs)
  unfolding depthConAt
  after-type c l xs hc hl hx = (
    in-turn (sign "~" >> type 64) (λ r. give (equalAt c l r)) (in-turn (sign "~") (λ u. type 64) (sign-in (ascii "~")) (λ u hu. type-in 64))
        (λ r hr. given (equalAt c l r) ((hc, hl.0, hr.0), omega (arith, hl.1, hr.1))),
    (
      in-turn (sign ":" >> sign "DType") (λ u. give (isDimAt c l)) (in-turn (sign ":") (λ u. sign "DType") (sign-in (ascii ":"))
          (λ u hu. sign-in (ascii "DType"))) (λ u hu. given (isDimAt c l) ((hc, hl.0), hl.1)),
      hx,
    ),
  )

  after-dimension : (c : ℕ) (l : TyAt) → c ≤ e → TyIn l → RulesIn (afterDimension c l)
  unfolding TyIn depthConAt
  after-dimension c (dimAt d fs k) hc hl = (
    in-turn (sign "=" >> sign "Scalar") (λ u. give (isScalarAt c d fs k))
        (in-turn (sign "=") (λ u. sign "Scalar") (sign-in (ascii "=")) (λ u hu. sign-in (ascii "Scalar")))
        (λ u hu. given (isScalarAt c d fs k) ((hc, hl), omega arith)),
    tt,
  )
  after-dimension c (open_at d o) hc hl = tt
  after-dimension c (basicAt d b) hc hl = tt
  after-dimension c (fn_at d ps r) hc hl = tt
  after-dimension c (listAt d t) hc hl = tt
  after-dimension c (struct_at d n ts fs) hc hl = tt
  after-dimension c (deepAt d) hc hl = tt

  typed-in : Stays typed Shallow
  unfolding typed depthConAt
  typed-in =
      in-turn column (λ c. type 64 >>= λ l. choose (isDimAt c l) (afterType c l (afterDimension c l))) column-in
      (λ c hc. in-turn (type 64) (λ l. choose (isDimAt c l) (afterType c l (afterDimension c l))) (type-in 64)
      (λ l hl. choose-in Shallow (isDimAt c l) (afterType c l (afterDimension c l)) ((hc, hl.0), hl.1)
      (after-type c l (afterDimension c l) hc hl (after-dimension c l hc hl.0))))

  last-type : (c : ℕ) (s : TyAt) (n : NameAt) → c ≤ e → Types 64 s → NameIn n → Stays (lastType c s n) Shallow
  unfolding depthConAt
  last-type c s n hc hs hn =
      in-turn (type 64) (λ t. sign ")" >> give (hasFieldAt c s n t)) (type-in 64)
      (λ t ht. in-turn (sign ")") (λ u. give (hasFieldAt c s n t)) (sign-in (ascii ")"))
      (λ u hu. given (hasFieldAt c s n t) ((hc, hs.0, hn, ht.0), omega (arith, hs.1, ht.1))))

  quoted-in : (c : ℕ) (s : TyAt) → c ≤ e → Types 64 s → Stays (quoted c s) Shallow
  quoted-in c s hc hs =
      in-turn name (λ n. spell (ascii "\"") >> (sign "," >> lastType c s n)) name_in
      (λ n hn. in-turn (spell (ascii "\"")) (λ u. sign "," >> lastType c s n) (spell-in (ascii "\""))
      (λ u hu. in-turn (sign ",") (λ v. lastType c s n) (sign-in (ascii ",")) (λ v hv. last-type c s n hc hs hn)))

  has-field : Stays hasField Shallow
  unfolding hasField
  has-field =
      in-turn column (λ c. sign "HasField" >> (sign "(" >> (type 64 >>= λ s. sign "," >> (sign "\"" >> quoted c s)))) column-in
      (λ c hc. in-turn (sign "HasField") (λ u. sign "(" >> (type 64 >>= λ s. sign "," >> (sign "\"" >> quoted c s))) (sign-in (ascii "HasField"))
      (λ u hu. in-turn (sign "(") (λ v. type 64 >>= λ s. sign "," >> (sign "\"" >> quoted c s)) (sign-in (ascii "("))
      (λ v hv. in-turn (type 64) (λ s. sign "," >> (sign "\"" >> quoted c s)) (type-in 64)
      (λ s hs. in-turn (sign ",") (λ w. sign "\"" >> quoted c s) (sign-in (ascii ","))
      (λ w hw. in-turn (sign "\"") (λ x. quoted c s) (sign-in (ascii "\"")) (λ x hx. quoted-in c s hc hs))))))

  abbrev pub LineIn : Option ConAt → Type 0
  LineIn none = Unit {0}
  LineIn (some c) = Shallow c

  constraint-in : Stays constraint LineIn
  unfolding constraint
  constraint-in =
      in-turn (ifSign "H" hasField typed) (λ c. ended >> give (some c)) (if-sign {Q = Shallow} "H" hasField typed has-field typed-in)
      (λ c hc. in-turn ended (λ u. give (some c)) ended-in (λ u hu. given {Q = LineIn} (some c) hc))

  signs-at : (p : Place) → InLine p → Ends LineIn (signsAt p)
  unfolding signsAt
  signs-at (here c []) h = (tt, h)
  signs-at (here c (b ∷ bs)) h =
      (if-sign {Q = LineIn} "-" (sign "--" >> give none) constraint (in-turn (sign "--") (λ u. give none) (sign-in (ascii "--"))
      (λ u hu. given {Q = LineIn} none tt)) constraint-in).from (here c (b ∷ bs)) h
  signs-at beyond h = (tt, tt)

-- a line, read from its first column: every column told is at most that of its end
pub line-in : (l : Bytes) → Ends (suc (length l)) (LineIn (suc (length l))) (line l)
unfolding line
line-in l = signs-at (suc (length l)) (skipFrom 1 l) (skip-from (suc (length l)) 1 l (omega arith))
