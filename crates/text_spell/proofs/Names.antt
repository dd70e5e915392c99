-- A name with one byte more.
use Rattle.std.proofs.Common.{
  ◌≡◌,
  refl,
  ◌-◌,
  ◌≤◌,
  lt-ltb,
  le-ltb,
  ◌++◌,
  ◌∷◌,
  [],
  ◌+◌,
  ◌/◌,
  ◌%◌,
  ◌<◌,
  ℕ,
  take,
  get_or,
  length,
  ap,
  ◌∙◌,
  append-nil,
  length-append,
  arith,
  zero,
  suc,
  add-one,
  take-suc,
}
use Rattle.std.specs.Prelude.{Ok, ℤ, false}
use Rattle.rules.specs.Base.{is_yes}
use Rattle.rules.specs.Exponents.{frac, one, Exp-dec}
use Rattle.rules.specs.Grammar.{ascii}
use Rattle.text_spell.specs.Sinks.{Place, Puts}
use Rattle.text_spell.proofs.Sinks.{nothing}
use Rattle.rules.specs.Base.{collect}
use Rattle.rules.specs.Names.{Bytes}
use Rattle.laws.proofs.Contents.{collect-append}
use Rattle.rules.specs.Writing.{signed, by_sign}
use Rattle.rules.specs.TextWriting.{escaped, nameText, decimal, numeratorText, denominatorText, powerText}

pub name_more : (n : Bytes) (i : ℕ) → i < length n → nameText (take (i + 1) n) ≡ nameText (take i n) ++ escaped (get_or n i 0)
unfolding nameText collect
name_more n i h = rw (add-one i, take-suc n i 0 h) (collect-append escaped (take i n) (get_or n i 0 ∷ [])
    ∙ ap (collect escaped (take i n) ++◌) (append-nil (escaped (get_or n i 0))))

pub no_name : {E : Type 0} (p : Place) → Puts {E = E} p (nameText []) (Ok tt) p
unfolding nameText collect
no_name p = nothing p

-- ══ Digits and numerators ══

pub one_digit : (k n : ℕ) → (k ≡ 0 → ⊥) → n < 10 → decimal k n ≡ (48 + n) ∷ []
unfolding decimal
one_digit zero n h l = absurd (h refl)
one_digit (suc k) n h l = let e : n + 48 ≡ 48 + n = omega arith in rw (lt-ltb n 10 l, decimal) (ap (λ (m : ℕ). m ∷ []) e)

pub more_digits : (k n : ℕ) → (k ≡ 0 → ⊥) → 10 ≤ n → decimal k n ≡ decimal (k - 1) (n / 10) ++ ((48 + n % 10) ∷ [])
unfolding decimal
more_digits zero n h l = absurd (h refl)
more_digits (suc k) n h l =
    let e : n % 10 + 48 ≡ 48 + n % 10 = omega arith in
    let f : suc k - 1 ≡ k = omega arith in
    rw (le-ltb n 10 l, decimal, f) (ap (λ (m : ℕ). decimal k (n / 10) ++ (m ∷ [])) e)

pub ruleset digits = (one_digit, more_digits)

pub positive : (b : ℕ) → b < 2147483648 → numeratorText (signed b) ≡ decimal 10 b
unfolding numeratorText signed by_sign
positive b h = rw (lt-ltb b 2147483648 h) refl

pub negative : (b : ℕ) → 2147483648 ≤ b → numeratorText (signed b) ≡ 45 ∷ decimal 10 (4294967295 - b + 1)
unfolding numeratorText signed by_sign
negative b h = rw (le-ltb b 2147483648 h, ← (add-one (4294967295 - b))) refl

pub ruleset numerators = (positive, negative)

part_short : (j : ℕ) (n : Bytes) → length (nameText (take j n)) ≤ length (nameText n)
unfolding nameText collect
part_short zero n = omega arith
part_short (suc j) [] = omega arith
part_short (suc j) (b ∷ n) = simp length-append (omega (arith, part_short j n))

-- a byte more is part of the name
pub next_short : (n : Bytes) (i : ℕ) → i < length n → length (nameText (take i n) ++ escaped (get_or n i 0)) ≤ length (nameText n)
next_short n i h =
    let e : length (nameText (take (i + 1) n)) ≡ length (nameText (take i n) ++ escaped (get_or n i 0)) = ap length (name_more n i h) in
    omega (arith, e, part_short (i + 1) n)

pub some_power : (n : ℤ) (d : ℕ) → is_yes (Exp-dec (frac n d) one) ≡ false
    → powerText (frac n d) ≡ ascii "^(" ++ (numeratorText n ++ (denominatorText d ++ ascii ")"))
unfolding powerText
some_power n d e = rw (e, powerText) refl
