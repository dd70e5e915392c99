-- Every written line is read back: the grammar finds a tree in it that means what was written.
use Rattle.std.specs.Prelude.{◌≡◌, Bool, not, ◌&&◌, leb, ltb, ℤ, nat_abs, length}
use Rattle.std.proofs.Math.Path.{refl, ap}
use Rattle.std.proofs.Math.Bool.{true, false}
use mathlib.Core.List.{List, [], ◌∷◌, ◌++◌, append_assoc}
use Prim.Native.Nat.{ℕ, zero, suc, ◌≤◌}
use native.Mathlib.Omega.{arith}
use borrow.Author.Tests.{leb-true, ltb-true}
use Rattle.std.proofs.Math.ListN.{length-append}
use Rattle.rules.specs.Base.{is_yes}
use Rattle.rules.specs.Exponents.{Exp, frac, one, top, Exp-dec, in_range, goodExp, goodStored, isZero}
use Rattle.rules.specs.Trees.{var, quant, par, Atom, free, base, Factor, ◌↑◌, Product}
use Rattle.rules.specs.Names.{Bytes, table_of, numbersOf, is_held}
use Rattle.rules.specs.WellFormed.{goodOpen, goodFactor}
use Rattle.laws.specs.Lists.{Every, and_left, and_right}
use Rattle.laws.proofs.Lists.{yes-is}
use Rattle.laws.specs.NameTable.{Good}
use Rattle.rules.specs.Grammar.{
  here,
  Parsed,
  read,
  Rule,
  pass,
  give,
  ◌>>=◌,
  ◌>>◌,
  isBlank,
  is_plain,
  isDigit,
  skipFrom,
  skip,
  spellFrom,
  spell,
  sign,
  mark,
  starts,
  ifSign,
  whole,
  nameFrom,
  name,
  NameAt,
  power,
  noPower,
  PowerAt,
  dimAt,
  factor,
  FactorAt,
  moreFactors,
  dimension,
  moreTys,
  tys,
  function,
  listed,
  moreFields,
  fields,
  structure,
  type,
  TyAt,
  nilAt,
  noneAt,
  typed,
  constraint,
  signsAt,
  line,
  ConAt,
}
use Rattle.rules.specs.Grammar as G
use Rattle.rules.specs.TextWriting.{nameText, numeratorText, denominatorText, powerText, openText, factorText, moreFactorsText, factorsText, dimensionText}
use Rattle.text_laws.specs.Spelling.{IsByte}
use Rattle.text_laws.proofs.Spelling.{Finds, found, then, NameEnds, name_back, power-back}
use Rattle.text_laws.proofs.Meanings as Meanings

-- what follows a factor: no name and no power goes on
pub record FactorStops (rest : Bytes) : Type 0 where
  pub ends : NameEnds rest
  pub no_power : (c : ℕ) → starts "^" (skip (here c rest)) ≡ false

-- what follows a type: no name, no arguments and no fields go on
pub record Stops (rest : Bytes) : Type 0 where
  pub ends : NameEnds rest
  pub no_arguments : (c : ℕ) → starts "<" (skip (here c rest)) ≡ false
  pub no_fields : (c : ℕ) → starts "{" (skip (here c rest)) ≡ false

-- what follows the last of several
pub record ListStops (rest : Bytes) : Type 0 where
  pub stops : Stops rest
  pub no-comma : (c : ℕ) → starts "," (skip (here c rest)) ≡ false

-- numbers of a stored power
stored-small : (n : ℤ) (d : ℕ) → goodStored (frac n d) ≡ true → (nat_abs n ≤ top) × (d ≤ top)
unfolding goodStored goodExp in_range
stored-small n d g =
    let r = and_left (in_range (frac n d)) _ (and_right (not (isZero (frac n d))) _ g) in (
      leb-true (nat_abs n) top (and_left (leb (nat_abs n) top) _ (and_left (leb (nat_abs n) top && leb 1 d) _ r)),
      leb-true d top (and_right (leb (nat_abs n) top && leb 1 d) _ r),
    )

pub as' : {A : Type 0} {m : Parsed A} {P Q : A → Type 0} {rest : Bytes} → Finds m P rest → ((a : A) → P a → Q a) → Finds m Q rest
as' h k = record { value = h.value; column = h.column; is = h.is; fits = k h.value h.fits }

-- blanks in front are skipped
blank-factor : (c : ℕ) (t : Bytes) → factor (here c (32 ∷ t)) ≡ factor (here (suc c) t)
unfolding factor skip skipFrom isBlank
blank-factor c t = refl

pub blank-type : (d c : ℕ) (t : Bytes) → type d (here c (32 ∷ t)) ≡ type d (here (suc c) t)
unfolding type skip skipFrom isBlank
blank-type zero c t = refl
blank-type (suc d) c t = refl

module _ {pool table : List ℕ} (good : Good pool table) (bytes : Every IsByte pool) where
  abbrev pub Held : ℕ → Type 0
  Held x = Meanings.Held good x

  abbrev pub name_of : ℕ → Bytes
  name_of x = Meanings.name_of good x

  pub name-found : (x c : ℕ) (rest : Bytes) → Held x → NameEnds rest → Finds (name (here c (nameText (name_of x) ++ rest))) (λ m. m.bytes ≡ name_of x) rest
  unfolding name
  name-found x c rest h stop = then _ (name_back (name_of x) (Meanings.held_bytes good bytes x h) c rest stop) (λ n d e. found e)

  -- ══ Factors ══

  power-ends : (e : Exp) (rest : Bytes) → FactorStops rest → NameEnds (powerText e ++ rest)
  unfolding powerText nameFrom is_plain isDigit
  power-ends (frac n d) rest stop c = go (is_yes (Exp-dec (frac n d) one)) refl
    where
      go : (t : Bool) → is_yes (Exp-dec (frac n d) one) ≡ t → nameFrom whole c (powerText (frac n d) ++ rest) ≡ read [] (here c (powerText (frac n d) ++ rest))
      go true e = rw (e, powerText) (stop.ends c)
      go false e = rw (e, powerText)

  -- what the rule does behind a factor's name
  abbrev withPower : ℕ → Atom NameAt → Rule FactorAt
  withPower k a = (ifSign "^" power (give noPower) >>= λ e. give (record { column = k; atom = a; power = e }))

  power-found : (k : ℕ) (w : Atom NameAt) (a : Atom ℕ) (n : ℤ) (d : ℕ) → goodStored (frac n d) ≡ true → Meanings.AtomMeans good a w
      → (c : ℕ) (rest : Bytes) → FactorStops rest
      → Finds (withPower k w (here c (powerText (frac n d) ++ rest))) (Meanings.FactorMeans good (a ↑ frac n d)) rest
  unfolding powerText skip skipFrom isBlank
  power-found k w a n d g h c rest stop = go (is_yes (Exp-dec (frac n d) one)) refl
    where
      go : (t : Bool) → is_yes (Exp-dec (frac n d) one) ≡ t
          → Finds (withPower k w (here c (powerText (frac n d) ++ rest))) (Meanings.FactorMeans good (a ↑ frac n d)) rest
      go true e = rw (e, powerText) (rw (stop.no_power c) (found (
          let z : frac n d ≡ one = yes-is (Exp-dec (frac n d) one) e in
          Meanings.factor-means good a n d (record { column = k; atom = w; power = noPower }) h (record { num = cc; den = cc }) g)))
      go false e =
          let l = stored-small n d g in
          rw (e, powerText) (rw (append_assoc (numeratorText n) (denominatorText d ++ (41 ∷ [])) rest, append_assoc (denominatorText d) (41 ∷ []) rest)
          (then _ (power-back n d l.0 l.1 c rest) (λ p b i. found (Meanings.factor-means good a n d (record { column = k; atom = w; power = p }) h i g))))

  abbrev FactorFound : Factor ℕ → Type 0
  FactorFound f = (c : ℕ) (rest : Bytes) → FactorStops rest → Finds (factor (here c (factorText name_of f ++ rest))) (Meanings.FactorMeans good f) rest

  -- a factor's text: mark, name, power
  factor-text : (m : ℕ) (x : ℕ) (e : Exp) (rest : Bytes)
      → (m ∷ nameText (name_of x) ++ powerText e) ++ rest ≡ m ∷ (nameText (name_of x) ++ (powerText e ++ rest))
  factor-text m x e rest = ap (λ (l : Bytes). m ∷ l) (append_assoc (nameText (name_of x)) (powerText e) rest)

  abbrev pub IsGood : Factor ℕ → Type 0
  IsGood f = goodFactor (numbersOf (table_of pool table)) (is_held (table_of pool table)) 0 f ≡ true

  var-found : (x : ℕ) (n : ℤ) (d : ℕ) → IsGood (free (var x) ↑ frac n d) → (c : ℕ) (rest : Bytes) → FactorStops rest
      → Finds (factor (here c (63 ∷ (nameText (name_of x) ++ (powerText (frac n d) ++ rest))))) (Meanings.FactorMeans good (free (var x) ↑ frac n d)) rest
  unfolding goodFactor goodOpen factor skip skipFrom isBlank spell spellFrom
  var-found x n d g c rest stop =
      let h = Meanings.held good x (and_left (is_held (table_of pool table) x) _ g) in
      then _ (then _ (name-found x (suc c) (powerText (frac n d) ++ rest) h (power-ends (frac n d) rest stop))
      (λ m b i. found (λ j r. rw (Meanings.known good x h m i j r)))) (λ w b means.
      power-found c w (free (var x)) n d (and_right (is_held (table_of pool table) x) _ g) means b rest stop)

  par-found : (x : ℕ) (n : ℤ) (d : ℕ) → IsGood (free (par x) ↑ frac n d) → (c : ℕ) (rest : Bytes) → FactorStops rest
      → Finds (factor (here c (33 ∷ (nameText (name_of x) ++ (powerText (frac n d) ++ rest))))) (Meanings.FactorMeans good (free (par x) ↑ frac n d)) rest
  unfolding goodFactor goodOpen factor skip skipFrom isBlank spell spellFrom
  par-found x n d g c rest stop =
      let h = Meanings.held good x (and_left (is_held (table_of pool table) x) _ g) in
      then _ (then _ (name-found x (suc c) (powerText (frac n d) ++ rest) h (power-ends (frac n d) rest stop))
      (λ m b i. found (λ j r. rw (Meanings.known good x h m i j r)))) (λ w b means.
      power-found c w (free (par x)) n d (and_right (is_held (table_of pool table) x) _ g) means b rest stop)

  base-found : (x : ℕ) (n : ℤ) (d : ℕ) → IsGood (base x ↑ frac n d) → (c : ℕ) (rest : Bytes) → FactorStops rest
      → Finds (factor (here c (35 ∷ (nameText (name_of x) ++ (powerText (frac n d) ++ rest))))) (Meanings.FactorMeans good (base x ↑ frac n d)) rest
  unfolding goodFactor factor skip skipFrom isBlank spell spellFrom
  base-found x n d g c rest stop =
      let h = Meanings.held good x (and_left (is_held (table_of pool table) x) _ g) in
      then _ (then _ (name-found x (suc c) (powerText (frac n d) ++ rest) h (power-ends (frac n d) rest stop))
      (λ m b i. found (λ j r. rw (Meanings.known good x h m i j r)))) (λ w b means.
      power-found c w (base x) n d (and_right (is_held (table_of pool table) x) _ g) means b rest stop)

  factor-found : (f : Factor ℕ) → IsGood f → FactorFound f
  unfolding goodFactor goodOpen factorText openText
  factor-found (free (var x) ↑ frac n d) g c rest stop = rw (factor-text 63 x (frac n d) rest) (var-found x n d g c rest stop)
  factor-found (free (quant i) ↑ frac n d) g c rest stop = absurd (omega (arith, ltb-true i 0 (and_left (ltb i 0) _ g)))
  factor-found (free (par x) ↑ frac n d) g c rest stop = rw (factor-text 33 x (frac n d) rest) (par-found x n d g c rest stop)
  factor-found (base x ↑ frac n d) g c rest stop = rw (factor-text 35 x (frac n d) rest) (base-found x n d g c rest stop)

  -- a factor's text begins with its mark, no bracket
  no-bracket : (f : Factor ℕ) → IsGood f → (c : ℕ) (rest : Bytes) → starts "]" (skip (here c (factorText name_of f ++ rest))) ≡ false
  unfolding goodFactor goodOpen factorText openText skip skipFrom isBlank
  no-bracket (free (var x) ↑ e) g c rest = refl
  no-bracket (free (quant i) ↑ e) g c rest = absurd (omega (arith, ltb-true i 0 (and_left (ltb i 0) _ g)))
  no-bracket (free (par x) ↑ e) g c rest = refl
  no-bracket (base x ↑ e) g c rest = refl

  -- behind a factor of a dimension
  factor-stops : (p : Product ℕ) (rest : Bytes) → FactorStops (moreFactorsText name_of p ++ (93 ∷ rest))
  unfolding moreFactorsText nameFrom is_plain isDigit skip skipFrom isBlank
  factor-stops [] rest = record { ends = λ c. refl; no_power = λ c. refl }
  factor-stops (f ∷ p) rest = record { ends = λ c. refl; no_power = λ c. refl }

  many-factors : (p : Product ℕ) (t : Bytes) → length p ≤ length (moreFactorsText name_of p ++ t)
  unfolding moreFactorsText
  many-factors [] t = omega arith
  many-factors (f ∷ p) t = let h = many-factors p t in simp (append_assoc, length-append) (omega (arith, simp length-append at h))

  more-factors-found : (p : Product ℕ) (n : ℕ) → length p ≤ n → Every IsGood p → (c : ℕ) (rest : Bytes)
      → Finds (moreFactors n (here c (moreFactorsText name_of p ++ (93 ∷ rest)))) (Meanings.FactorsMean good p) (93 ∷ rest)
  unfolding moreFactors moreFactorsText skip skipFrom isBlank spell spellFrom
  more-factors-found [] zero h g c rest = found (Meanings.no-factors good)
  more-factors-found [] (suc n) h g c rest = found (Meanings.no-factors good)
  more-factors-found (f ∷ p) zero h g c rest = absurd (omega arith)
  more-factors-found (f ∷ p) (suc n) h g c rest =
      rw (
        append_assoc (factorText name_of f) (moreFactorsText name_of p) (93 ∷ rest),
        blank-factor (suc (suc c)) (factorText name_of f ++ (moreFactorsText name_of p ++ (93 ∷ rest))),
      )
      (then _ (factor-found f g.0 (suc (suc (suc c))) (moreFactorsText name_of p ++ (93 ∷ rest)) (factor-stops p rest)) (λ w b m.
      then _ (more-factors-found p n (omega arith) g.1 b rest) (λ ws e k. found (Meanings.more-factors good f p w ws m k))))

  -- ══ Dimensions ══

  -- a dimension, and what its factors mean
  pub record Dimension (p : Product ℕ) (w : TyAt) : Type 0 where
    pub start : ℕ
    pub end : ℕ
    pub factors : List FactorAt
    pub is : w ≡ dimAt start factors end
    pub means : Meanings.FactorsMean good p factors

  dimension-text : (p : Product ℕ) (rest : Bytes) → dimensionText name_of p ++ rest ≡ 91 ∷ (factorsText name_of p ++ (93 ∷ rest))
  unfolding dimensionText
  dimension-text p rest = ap (λ (l : Bytes). 91 ∷ l) (append_assoc (factorsText name_of p) (93 ∷ []) rest)

  factors-found : (f : Factor ℕ) (p : Product ℕ) → IsGood f → Every IsGood p → (c : ℕ) (rest : Bytes)
      → Finds (G.factors (here c (factorText name_of f ++ (moreFactorsText name_of p ++ (93 ∷ rest))))) (Meanings.FactorsMean good (f ∷ p)) (93 ∷ rest)
  factors-found f p g k c rest =
      then _ (factor-found f g c (moreFactorsText name_of p ++ (93 ∷ rest)) (factor-stops p rest)) (λ w b m.
      then _ (more-factors-found p (length (moreFactorsText name_of p ++ (93 ∷ rest))) (many-factors p (93 ∷ rest)) k b rest)
      (λ ws e k. found (Meanings.more-factors good f p w ws m k)))

  bracket-found : (p : Product ℕ) → Every IsGood p → (c : ℕ) (rest : Bytes)
      → Finds (dimension (here c (91 ∷ (factorsText name_of p ++ (93 ∷ rest))))) (Dimension p) rest
  unfolding dimension factorsText skip skipFrom isBlank spell spellFrom
  bracket-found [] g c rest = found (record { start = _; end = _; factors = _; is = refl; means = Meanings.no-factors good })
  bracket-found (f ∷ p) g c rest =
      rw (append_assoc (factorText name_of f) (moreFactorsText name_of p) (93 ∷ rest), no-bracket f g.0 (suc c) (moreFactorsText name_of p ++ (93 ∷ rest)))
      (then _ (factors-found f p g.0 g.1 (suc c) rest) (λ ws b m. found (record { start = _; end = _; factors = ws; is = refl; means = m })))

  pub dimension-found : (p : Product ℕ) → Every IsGood p → (c : ℕ) (rest : Bytes)
      → Finds (dimension (here c (dimensionText name_of p ++ rest))) (Dimension p) rest
  dimension-found p g c rest = rw (dimension-text p rest) (bracket-found p g c rest)
