-- What follows from the definitions of specs/Spelling: names and powers that were written are read back.
use Rattle.std.specs.Prelude.{
  ◌≡◌,
  refl,
  Bool,
  true,
  false,
  [],
  ◌∷◌,
  ◌++◌,
  ℕ,
  zero,
  suc,
  ◌+◌,
  ◌-◌,
  ◌*◌,
  ◌/◌,
  ◌%◌,
  ◌^◌,
  ◌≤◌,
  ◌<◌,
  ltb,
  eqb,
  ℤ,
  pos,
  negsuc,
  nat_abs,
}
use Rattle.std.proofs.Common.{sym, ap, ◌∙◌, append_assoc, arith, le-leb, ltb-true, ltb-false, ne_eqb, eqb-true}
use Rattle.std.proofs.Math.Option.{some}
use Rattle.std.proofs.lemmas.Bool.{lt-leb}
use Rattle.rules.specs.Base.{collect}
use Rattle.rules.specs.Names.{Bytes}
use Rattle.rules.specs.Exponents.{top}
use Rattle.laws.specs.Lists.{Every}
use Rattle.rules.specs.Grammar.{
  here,
  Parsed,
  read,
  Rule,
  pass,
  is_plain,
  isDigit,
  isBlank,
  skipFrom,
  skip,
  starts,
  sign,
  spell,
  spellFrom,
  ifSign,
  give,
  ◌>>=◌,
  ◌>>◌,
  PowerAt,
  signedBy,
  power,
  digitsAt,
  digits,
  hexOf,
  whole,
  more,
  nameFrom,
  digitsFrom,
}
use Rattle.rules.specs.TextWriting.{hexDigit, escaped, nameText, decimal, numeratorText, denominatorText}
use Rattle.text_laws.specs.Spelling.{IsByte}

-- a rule finds something of which P holds, and this is left
pub record Finds {A : Type 0} (m : Parsed A) (P : A → Type 0) (rest : Bytes) : Type 0 where
  pub value : A
  pub column : ℕ
  pub is : m ≡ read value (here column rest)
  pub fits : P value

pub found : {A : Type 0} {P : A → Type 0} {a : A} {c : ℕ} {rest : Bytes} → P a → Finds (read a (here c rest)) P rest
found {A} {P} {a} {c} p = record { value = a; column = c; is = refl; fits = p }

pub then : {A B : Type 0} {m : Parsed A} (f : A → Rule B) {P : A → Type 0} {Q : B → Type 0} {rest rest' : Bytes} → Finds m P rest
    → ((a : A) (c : ℕ) → P a → Finds (f a (here c rest)) Q rest') → Finds (pass m f) Q rest'
then {A} {B} {m} f {P} {Q} {rest} {rest'} h k = rw h.is (k h.value h.column h.fits)

-- this is read, and what is left
abbrev pub Comes : {A : Type 0} → Parsed A → A → Bytes → Type 0
Comes m a rest = Finds m (λ b. b ≡ a) rest

-- a name ends here
abbrev pub NameEnds : Bytes → Type 0
NameEnds rest = (c : ℕ) → nameFrom whole c rest ≡ read [] (here c rest)

hex-digit : (b : ℕ) → 48 ≤ b → b ≤ 57 → hexOf b ≡ some (b - 48)
unfolding hexOf isDigit
hex-digit b h k = rw (le-leb 48 b h, le-leb b 57 k)

hex-small : (b : ℕ) → 97 ≤ b → b ≤ 102 → hexOf b ≡ some (b - 87)
unfolding hexOf isDigit
hex-small b h k = rw (le-leb 48 b (omega arith), lt-leb b 57 (omega arith), le-leb 65 b (omega arith), lt-leb b 70 (omega arith), le-leb 97 b h, le-leb b 102 k)

hex-back : (d : ℕ) → d < 16 → hexOf (hexDigit d) ≡ some d
unfolding hexDigit
hex-back d h = go (ltb d 10) refl
  where
    go : (t : Bool) → ltb d 10 ≡ t → hexOf (hexDigit d) ≡ some d
    go true e = let k = ltb-true d 10 e in rw (e, hex-digit (d + 48) (omega arith) (omega arith)) (ap some (omega arith))
    go false e = let k = ltb-false d 10 e in rw (e, hex-small (d + 87) (omega arith) (omega arith)) (ap some (omega arith))

plain_step : (b c : ℕ) (bs : Bytes) → is_plain b ≡ true → nameFrom whole c (b ∷ bs) ≡ more b (nameFrom whole (suc c) bs)
unfolding nameFrom
plain_step b c bs e = rw (e, nameFrom)

slash-step : (h k c : ℕ) (bs : Bytes) → h < 16 → k < 16
    → nameFrom whole c (92 ∷ hexDigit h ∷ hexDigit k ∷ bs) ≡ more (h * 16 + k) (nameFrom whole (suc (suc (suc c))) bs)
unfolding nameFrom is_plain isDigit
slash-step h k c bs p q = rw (hex-back h p, nameFrom) (rw (hex-back k q, nameFrom) refl)

more-finds : {m : Parsed Bytes} {n rest : Bytes} (b : ℕ) → Comes m n rest → Comes (more b m) (b ∷ n) rest
more-finds b h = rw h.is (found (ap (λ (l : Bytes). b ∷ l) h.fits))

pub name_back : (n : Bytes) → Every IsByte n → (c : ℕ) (rest : Bytes) → NameEnds rest → Comes (nameFrom whole c (nameText n ++ rest)) n rest
unfolding nameText collect escaped
name_back [] h c rest stop = rw (stop c) (found refl)
name_back (b ∷ n) h c rest stop = go (is_plain b) refl (λ d. name_back n h.1 d rest stop)
  where
    go : (t : Bool) → is_plain b ≡ t → ((d : ℕ) → Comes (nameFrom whole d (nameText n ++ rest)) n rest)
        → Comes (nameFrom whole c ((escaped b ++ nameText n) ++ rest)) (b ∷ n) rest
    go true e k = rw e (rw (plain_step b c (nameText n ++ rest) e) (more-finds b (k (suc c))))
    go false e k =
        let both : b / 16 * 16 + b % 16 ≡ b = omega arith in
        rw e (rw (slash-step (b / 16) (b % 16) c (nameText n ++ rest) (omega (arith, h.0)) (omega arith), both) (more-finds b (k (suc (suc (suc c))))))

-- ══ Numbers ══

-- a number ends here
abbrev pub NumberEnds : Bytes → Type 0
NumberEnds rest = (n c : ℕ) → digitsFrom n c rest ≡ read n (here c rest)

digit-step : (n c d : ℕ) (bs : Bytes) → d < 10 → digitsFrom n c ((d + 48) ∷ bs) ≡ digitsFrom (n * 10 + d) (suc c) bs
unfolding digitsFrom isDigit
digit-step n c d bs h = rw (le-leb 48 (d + 48) (omega arith), le-leb (d + 48) 57 (omega arith), digitsFrom)
    (ap (λ (k : ℕ). digitsFrom (n * 10 + k) (suc c) bs) (omega arith))

-- digits of n, and then what follows
decimal-back : (k n : ℕ) → n < 10 ^ k → (c : ℕ) (rest : Bytes) → (d : ℕ) × (digitsFrom 0 c (decimal k n ++ rest) ≡ digitsFrom n d rest)
unfolding decimal
decimal-back zero n h c rest = (c, ap (λ (m : ℕ). digitsFrom m c rest) (omega arith))
decimal-back (suc k) n h c rest = go (ltb n 10) refl (decimal-back k (n / 10) (omega arith) c ((n % 10 + 48) ∷ rest))
  where
    go : (t : Bool) → ltb n 10 ≡ t → (d : ℕ) × (digitsFrom 0 c (decimal k (n / 10) ++ ((n % 10 + 48) ∷ rest)) ≡ digitsFrom (n / 10) d ((n % 10 + 48) ∷ rest))
        → (d : ℕ) × (digitsFrom 0 c (decimal (suc k) n ++ rest) ≡ digitsFrom n d rest)
    go true e g = rw (e, decimal) (suc c, digit-step 0 c n rest (ltb-true n 10 e) ∙ ap (λ (m : ℕ). digitsFrom m (suc c) rest) (omega arith))
    go false e g = rw (e, decimal) (
      suc g.0,
      rw append_assoc (g.1 ∙ digit-step (n / 10) g.0 (n % 10) rest (omega arith) ∙ ap (λ (m : ℕ). digitsFrom m (suc g.0) rest) (omega arith)),
    )

-- they begin with a digit
record Leads (bs : Bytes) : Type 0 where
  digit : ℕ
  others : Bytes
  small : digit < 10
  is : bs ≡ (digit + 48) ∷ others

front : (bs cs : Bytes) → Leads bs → Leads (bs ++ cs)
front bs cs h = record { digit = h.digit; others = h.others ++ cs; small = h.small; is = ap (λ (l : Bytes). l ++ cs) h.is }

last : (k n : ℕ) (t : Bool) → ltb n 10 ≡ t → Leads (decimal k (n / 10) ++ ((n % 10 + 48) ∷ [])) → Leads (decimal (suc k) n)
unfolding decimal
last k n true e g = rw (e, decimal) (record { digit = n; others = []; small = ltb-true n 10 e; is = refl })
last k n false e g = rw (e, decimal) g

leads : (k n : ℕ) → Leads (decimal (suc k) n)
unfolding decimal
leads zero n = last zero n (ltb n 10) refl (record { digit = n % 10; others = []; small = omega arith; is = refl })
leads (suc k) n = last (suc k) n (ltb n 10) refl (front (decimal (suc k) (n / 10)) ((n % 10 + 48) ∷ []) (leads k (n / 10)))

-- a digit is no blank and no sign
skip-digit : (c d : ℕ) (bs : Bytes) → d < 10 → skip (here c ((d + 48) ∷ bs)) ≡ here c ((d + 48) ∷ bs)
unfolding skip skipFrom isBlank
skip-digit c d bs h = rw (ne_eqb (d + 48) 32 (omega arith), ne_eqb (d + 48) 9 (omega arith), ne_eqb (d + 48) 13 (omega arith), skipFrom)

no_minus : (c : ℕ) (bs : Bytes) → Leads bs → starts "-" (skip (here c bs)) ≡ false
no_minus c bs h = rw (h.is, skip-digit c h.digit h.others h.small, ne_eqb (h.digit + 48) 45 (omega (arith, h.small)))

lead-digit : (c : ℕ) (bs : Bytes) → Leads bs → digits (here c bs) ≡ digitsFrom 0 c bs
unfolding digitsAt isDigit
lead-digit c bs h = rw (
  h.is,
  skip-digit c h.digit h.others h.small,
  le-leb 48 (h.digit + 48) (omega arith),
  le-leb (h.digit + 48) 57 (omega (arith, h.small)),
  digitsAt,
)

pub number-back : (n : ℕ) → n < 10 ^ 10 → (c : ℕ) (rest : Bytes) → NumberEnds rest → Comes (digits (here c (decimal 10 n ++ rest))) n rest
number-back n h c rest stop =
    let g = decimal-back 10 n h c rest in
    rw (lead-digit c (decimal 10 n ++ rest) (front (decimal 10 n) rest (leads 9 n)), g.1, stop n g.0) (found refl)

-- ══ Powers ══

-- a power as it was written
pub record IsPower (n : ℤ) (d : ℕ) (p : PowerAt) : Type 0 where
  pub num : p.numerator ≡ n
  pub den : p.denominator ≡ d

-- behind the numerator
abbrev ending : Bytes → ℕ → Bytes
ending rest d = denominatorText d ++ (41 ∷ rest)

ends : (rest : Bytes) (d : ℕ) → NumberEnds (ending rest d)
unfolding denominatorText digitsFrom isDigit
ends rest d n c = go (eqb d 1) refl
  where
    go : (t : Bool) → eqb d 1 ≡ t → digitsFrom n c (ending rest d) ≡ read n (here c (ending rest d))
    go true e = rw (e, denominatorText)
    go false e = rw (e, denominatorText)

-- what the rule does behind the numerator
abbrev tail : ℕ → Bool → ℕ → Rule PowerAt
tail c minus n = (ifSign "/" (sign "/" >> digits) (give 1) >>= λ d. sign ")" >> give (record { column = c; numerator = signedBy minus n; denominator = d }))

tail-back : (rest : Bytes) (c : ℕ) (minus : Bool) (n d : ℕ) → d ≤ top → (a : ℕ)
    → Finds (tail c minus n (here a (ending rest d))) (IsPower (signedBy minus n) d) rest
unfolding denominatorText spell spellFrom skip skipFrom isBlank digitsFrom isDigit
tail-back rest c minus n d h a = go (eqb d 1) refl
  where
    go : (t : Bool) → eqb d 1 ≡ t → Finds (tail c minus n (here a (ending rest d))) (IsPower (signedBy minus n) d) rest
    go true e = rw (e, denominatorText) (found (record { num = refl; den = sym (eqb-true d 1 e) }))
    go false e = rw (e, denominatorText)
        (then _ (number-back d (omega arith) (suc a) (41 ∷ rest) (λ n c. refl)) (λ m b q. found (record { num = refl; den = q })))

pub power-back : (n : ℤ) (d : ℕ) → nat_abs n ≤ top → d ≤ top → (c : ℕ) (rest : Bytes)
    → Finds (power (here c (94 ∷ 40 ∷ (numeratorText n ++ (denominatorText d ++ (41 ∷ rest)))))) (IsPower n d) rest
unfolding power numeratorText spell spellFrom skip skipFrom isBlank
power-back (pos n) d h k c rest =
    rw (no_minus (suc (suc c)) (decimal 10 n ++ ending rest d) (front (decimal 10 n) (ending rest d) (leads 9 n)))
    (then _ (number-back n (omega arith) (suc (suc c)) (ending rest d) (ends rest d)) (λ m b q. rw q (tail-back rest c false n d k b)))
power-back (negsuc n) d h k c rest =
    then _ (number-back (suc n) (omega arith) (suc (suc (suc c))) (ending rest d) (ends rest d)) (λ m b q. rw q (tail-back rest c true (suc n) d k b))
