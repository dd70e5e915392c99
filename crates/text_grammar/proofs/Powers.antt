-- What follows from the definitions of specs/Powers: a power, sign by sign.
use Rattle.std.specs.Prelude.{◌≡◌, refl, Bool, true, false, ℕ}
use Rattle.std.proofs.Common.{sym, ap}
use Rattle.rules.specs.Names.{Bytes}
use Rattle.rules.specs.Grammar.{Rule, give, sign, column, digits, PowerAt, signedBy, power, ◌>>=◌, ◌>>◌}
use Rattle.text_grammar.specs.declared.inner.Point.{Point}
use Rattle.text_grammar.specs.Points.{Reads, PointIn, Any, Same, Capped, marked, columnAt, beginsAt}
use Rattle.text_grammar.proofs.Points.{in-turn, given, if-sign, if-no-sign}
use Rattle.text_grammar.specs.Powers.{minusThere, denominatorThere, Typed}

module _ {line : Bytes} {p : Point} where
  pub with-minus : {a : Point} → true ≡ beginsAt line p 45 → Reads line p (marked 45) Any a → Reads line p minusThere (Same true) a
  with-minus e x = if-sign "-" (sign "-" >> give true) (give false) e (in-turn (sign "-") (λ u. give true) x (λ u h. given true x.within refl))

  pub without-minus : PointIn line p → false ≡ beginsAt line p 45 → Reads line p minusThere (Same false) p
  without-minus i e = if-no-sign "-" (sign "-" >> give true) (give false) e (given false i refl)

  pub with-denominator : {a r : Point} {n : ℕ} → true ≡ beginsAt line p 47 → Reads line p (marked 47) Any a → Reads line a digits (Capped n) r
      → Reads line p denominatorThere (Capped n) r
  with-denominator e x y = if-sign "/" (sign "/" >> digits) (give 1) e (in-turn (sign "/") (λ u. digits) x (λ u h. y))

  pub without-denominator : PointIn line p → false ≡ beginsAt line p 47 → Reads line p denominatorThere (Capped 1) p
  without-denominator i e = if-no-sign "/" (sign "/" >> digits) (give 1) e (given 1 i refl)

-- what is left of a power behind its column, its "(", its minus, its numerator and its denominator
module _ (c : ℕ) where
  abbrev closing : Bool → ℕ → ℕ → Rule PowerAt
  closing m n d = sign ")" >> give (record { column = c; numerator = signedBy m n; denominator = d })

  abbrev under : Bool → ℕ → Rule PowerAt
  under m n = denominatorThere >>= λ d. closing m n d

  abbrev over : Bool → Rule PowerAt
  over m = digits >>= λ n. under m n

  abbrev inside : Rule PowerAt
  inside = minusThere >>= λ m. over m

  abbrev behind : Rule PowerAt
  behind = sign "(" >> inside

  abbrev whole : Rule PowerAt
  whole = sign "^" >> behind

pub power-read : {line : Bytes} {p s a b c e f r : Point} {minus : Bool} {num den : ℕ}
    → Reads line p column (λ (k : ℕ). k ≡ columnAt s) s → Reads line s (marked 94) Any a → Reads line a (marked 40) Any b
    → Reads line b minusThere (Same minus) c → Reads line c digits (Capped num) e → Reads line e denominatorThere (Capped den) f
    → Reads line f (marked 41) Any r → Reads line p power (Typed s minus num den) r
unfolding power
power-read {line} {p} {s} {a} {b} {c} {e} {f} {r} {minus} {num} {den} x1 x2 x3 x4 x5 x6 x7 =
    in-turn column whole x1 (λ k hk. in-turn (sign "^") (λ u. behind k) x2 (λ u hu. in-turn (sign "(") (λ w. inside k) x3 (λ w hw.
    in-turn minusThere (over k) x4 (λ m hm. in-turn digits (under k m) x5 (λ n hn. in-turn denominatorThere (closing k m n) x6 (λ d hd.
    in-turn (sign ")") (λ z. give (record { column = k; numerator = signedBy m n; denominator = d })) x7 (λ z hz.
    given (record { column = k; numerator = signedBy m n; denominator = d }) x7.within
    (record { size = n; column = hk; numerator = ap (λ (t : Bool). signedBy t n) (sym hm); num-capped = hn; den-capped = hd }))))))))
