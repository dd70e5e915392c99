-- What follows from the definitions of specs/Points: a rule of the grammar from a point of a line on, and what it reads.
use Rattle.std.specs.Prelude.{◌≡◌, true, false, [], ◌∷◌, ℕ, suc, ◌+◌, ◌≤◌, ◌<◌, eqb, length, get_or}
use Rattle.std.proofs.Math.Path.{refl, sym}
use Rattle.std.proofs.Common.{ap, ◌∙◌, true≢false, add-one, arith, eq-eqb, ne_eqb, drop_of_length-le, drop-cons}
use Prim.Native.Char.{Char, code}
use Rattle.rules.specs.Names.{Bytes}
use Rattle.rules.specs.Grammar.{Place, here, beyond, Parsed, read, bad, Rule, pass, give, skip, spell, spellFrom, starts, ifSign, column, digits, digitsAt}
use Rattle.text_scan.specs.Scanned.{place_in, Skipped}
use Rattle.text_scan.specs.Numbers.{NumberRead}
use Rattle.text_grammar.specs.declared.inner.Point.{Point}
use Rattle.text_grammar.specs.declared.inner.Point.TheVariants as point
use Rattle.text_grammar.specs.Points.{standing, from, PointIn, left_at, Reads, Capped, marked, columnAt, begins, beginsAt, MarkRead}

-- ══ Rules in turn ══

pass-standing : {A B : Type 0} (line : Bytes) (w : Point) (v : A) (K : A → Rule B) → pass (standing line w v) K ≡ from line w (K v)
pass-standing line (point.At i) v K = refl
pass-standing line point.Deep v K = refl
pass-standing line (point.Bad q) v K = refl

from_then : {A B : Type 0} (line : Bytes) (p : Point) (R : Rule A) (K : A → Rule B) → from line p (λ x. pass (R x) K) ≡ pass (from line p R) K
from_then line (point.At i) R K = refl
from_then line point.Deep R K = refl
from_then line (point.Bad q) R K = refl

-- a rule, and then another by what was read
pub in-turn : {A B : Type 0} {line : Bytes} {p w r : Point} {P : A → Type 0} {Q : B → Type 0} (R : Rule A) (K : A → Rule B)
    → Reads line p R P w → ((v : A) → P v → Reads line w (K v) Q r) → Reads line p (λ x. pass (R x) K) Q r
in-turn {A} {B} {line} {p} {w} {r} {P} {Q} R K x k =
    let y = k x.value x.holds in
    record {
      within = y.within;
      onward = omega (arith, y.onward, x.onward);
      value = y.value;
      is = from_then line p R K ∙ ap (λ (n : Parsed A). pass n K) x.is ∙ pass-standing line w x.value K ∙ y.is;
      holds = y.holds;
    }

from-give : {A : Type 0} (line : Bytes) (w : Point) (a : A) → from line w (give a) ≡ standing line w a
from-give line (point.At i) a = refl
from-give line point.Deep a = refl
from-give line (point.Bad q) a = refl

-- what is given without reading on
pub given : {A : Type 0} {line : Bytes} {w : Point} {P : A → Type 0} (a : A) → PointIn line w → P a → Reads line w (give a) P w
given {A} {line} {w} a i h = record { within = i; onward = omega arith; value = a; is = from-give line w a; holds = h }

begins-starts : (x : Char) (p : Place) → starts x p ≡ begins p (code x)
unfolding begins
begins-starts x (here c []) = refl
begins-starts x (here c (b ∷ bs)) = refl
begins-starts x beyond = refl

pub skip_is : {line : Bytes} {at i : ℕ} → Skipped line at i → skip (place_in line at) ≡ place_in line i
unfolding skip
skip_is s = s.is

pub begins-there : (line : Bytes) (i b : ℕ) → i < length line → begins (place_in line i) b ≡ eqb (get_or line i 0) b
unfolding begins
begins-there line i b h = rw (drop-cons line i 0 h)

pub begins-end : (line : Bytes) (i b : ℕ) → length line ≤ i → begins (place_in line i) b ≡ false
unfolding begins
begins-end line i b h = rw (drop_of_length-le line {i = i} h)

pub spell-end : (line : Bytes) (i b : ℕ) → length line ≤ i → spell (b ∷ []) (place_in line i) ≡ bad (suc i)
unfolding spell spellFrom
spell-end line i b h = rw (drop_of_length-le line {i = i} h)

pub spell-other : (line : Bytes) (i b : ℕ) → i < length line → (get_or line i 0 ≡ b → ⊥) → spell (b ∷ []) (place_in line i) ≡ bad (suc i)
unfolding spell spellFrom
spell-other line i b h e = rw (drop-cons line i 0 h) (rw (ne_eqb (get_or line i 0) b e, spellFrom))

pub spell-there : (line : Bytes) (i b : ℕ) → i < length line → get_or line i 0 ≡ b → spell (b ∷ []) (place_in line i) ≡ read tt (place_in line (i + 1))
unfolding spell spellFrom
spell-there line i b h e = rw (drop-cons line i 0 h, add-one i) (rw (eq-eqb (get_or line i 0) b e, spellFrom))

-- ══ Single steps ══

-- no place was read to
abbrev pub NotAt : Point → Type 0
NotAt p = (i : ℕ) → p ≡ point.At i → ⊥

-- behind a type nested 65 deep a rule passes, and what was refused stays refused
pub stays : {A : Type 0} {P : A → Type 0} {line : Bytes} (p : Point) (R : Rule A) (a : A) → R beyond ≡ read a beyond → P a → NotAt p → Reads line p R P p
stays (point.At i) R a e h n = absurd (n i refl)
stays point.Deep R a e h n = record { within = tt; onward = omega arith; value = a; is = e; holds = h }
stays (point.Bad q) R a e h n = record { within = tt; onward = omega arith; value = a; is = refl; holds = h }

-- there no byte is left, and no column is told
pub none_left : (line : Bytes) (p : Point) → NotAt p → left_at line p ≡ 0
none_left line (point.At i) n = absurd (n i refl)
none_left line point.Deep n = refl
none_left line (point.Bad q) n = refl

pub no_column : (p : Point) → NotAt p → 0 ≡ columnAt p
no_column (point.At i) n = absurd (n i refl)
no_column point.Deep n = refl
no_column (point.Bad q) n = refl

pub none_begins : (line : Bytes) (p : Point) (b : ℕ) → NotAt p → false ≡ beginsAt line p b
none_begins line (point.At i) b n = absurd (n i refl)
none_begins line point.Deep b n = refl
none_begins line (point.Bad q) b n = refl

pub sign-there : {line : Bytes} {at i : ℕ} → Skipped line at i → Reads line (point.At at) column (λ (c : ℕ). c ≡ suc i) (point.At i)
sign-there {line} {at} {i} s = record { within = s.within; onward = omega (arith, s.behind); value = suc i; is = rw (skip_is s); holds = refl }

module _ {line : Bytes} {at i : ℕ} (b : ℕ) (s : Skipped line at i) where
  pub mark-end : length line ≤ i → MarkRead line (point.At at) b (point.Bad i)
  mark-end h = record {
    reads = record { within = tt; onward = omega arith; value = tt; is = rw (skip_is s) (spell-end line i b h); holds = tt };
    less = omega arith;
  }

  pub mark-other : i < length line → (get_or line i 0 ≡ b → ⊥) → MarkRead line (point.At at) b (point.Bad i)
  mark-other h e = record {
    reads = record { within = tt; onward = omega arith; value = tt; is = rw (skip_is s) (spell-other line i b h e); holds = tt };
    less = omega arith;
  }

  pub mark-there : i < length line → get_or line i 0 ≡ b → MarkRead line (point.At at) b (point.At (i + 1))
  mark-there h e = record {
    reads = record {
      within = omega arith;
      onward = omega (arith, s.behind);
      value = tt;
      is = rw (skip_is s) (spell-there line i b h e);
      holds = tt;
    };
    less = omega (arith, s.behind);
  }

  pub begins-so : i < length line → eqb (get_or line i 0) b ≡ beginsAt line (point.At at) b
  begins-so h = rw (skip_is s) (sym (begins-there line i b h))

  pub begins-not : length line ≤ i → false ≡ beginsAt line (point.At at) b
  begins-not h = rw (skip_is s) (sym (begins-end line i b h))

pub digits-there : {line : Bytes} {at i next n : ℕ} → Skipped line at i → NumberRead line i next n
    → Reads line (point.At at) digits (Capped n) (point.At next)
digits-there s r = record { within = r.within; onward = omega (arith, r.behind, s.behind); value = r.value; is = rw (skip_is s) r.is; holds = r.capped }

pub no-digits : {line : Bytes} {at i q : ℕ} → Skipped line at i → digitsAt (place_in line i) ≡ bad (suc q)
    → Reads line (point.At at) digits (Capped 0) (point.Bad q)
no-digits s e = record { within = tt; onward = omega arith; value = 0; is = rw (skip_is s) e; holds = refl }

pub marks-past : (b : ℕ) → marked b beyond ≡ read tt beyond
unfolding skip spell
marks-past b = refl

pub column-past : column beyond ≡ read 0 beyond
unfolding skip
column-past = refl

pub digits-past : digits beyond ≡ read 0 beyond
unfolding skip digitsAt
digits-past = refl

-- ══ One byte of look-ahead ══

module _ {A : Type 0} (line : Bytes) (x : Char) (R S : Rule A) where
  from-if : (p : Point) → true ≡ beginsAt line p (code x) → from line p (ifSign x R S) ≡ from line p R
  from-if (point.At i) e = rw (begins-starts x (skip (place_in line i)), sym e)
  from-if point.Deep e = absurd (true≢false e)
  from-if (point.Bad q) e = absurd (true≢false e)

  from-else : (p : Point) → false ≡ beginsAt line p (code x) → from line p (ifSign x R S) ≡ from line p S
  unfolding skip
  from-else (point.At i) e = rw (begins-starts x (skip (place_in line i)), sym e)
  from-else point.Deep e = refl
  from-else (point.Bad q) e = refl

pub if-sign : {A : Type 0} {P : A → Type 0} {line : Bytes} {p r : Point} (x : Char) (R S : Rule A) → true ≡ beginsAt line p (code x) → Reads line p R P r
    → Reads line p (ifSign x R S) P r
if-sign {A} {P} {line} {p} {r} x R S e y = record { within = y.within; onward = y.onward; value = y.value; is = from-if line x R S p e ∙ y.is; holds = y.holds }

pub if-no-sign : {A : Type 0} {P : A → Type 0} {line : Bytes} {p r : Point} (x : Char) (R S : Rule A) → false ≡ beginsAt line p (code x) → Reads line p S P r
    → Reads line p (ifSign x R S) P r
if-no-sign {A} {P} {line} {p} {r} x R S e y = record {
  within = y.within;
  onward = y.onward;
  value = y.value;
  is = from-else line x R S p e
      ∙ y.is;
  holds = y.holds;
}
