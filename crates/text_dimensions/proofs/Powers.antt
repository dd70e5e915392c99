-- What follows from the definitions of specs/Powers: a factor's power: its worth, or 7 at its sign.
use Rattle.std.specs.Prelude.{◌≡◌, Bool, true, false, List, [], ℕ, suc, ◌≤◌, ◌<◌, leb, pos, Result, Err, Ok}
use Rattle.std.proofs.Math.Path.{refl}
use Rattle.std.proofs.Common.{sym, ap, ◌∙◌, arith, leb-true, leb-false}
use Rattle.rules.specs.Base.{Got, got, refused}
use Rattle.rules.specs.Exponents.{Exp, one, lowest, gcd, gcdIn, top, in_range, goodExp}
use Rattle.rules.specs.Names.{Bytes}
use Rattle.rules.specs.Grammar.{Place, beyond, Parsed, read, bad, Rule, pass, give, sign, skip, column, columnOf, digits, PowerAt, power, noPower}
use Rattle.rules.specs.Grammar.{signedBy, ◌>>=◌, ◌>>◌}
use Rattle.rules.specs.Refusals.{number_of, toldBy}
use Rattle.rules.specs.declared.Refusal.{Refusal}
use Rattle.rules.specs.Writing.{words}
use Rattle.rules.specs.TextReading.{refusedAt, placed, powerOf}
use Rattle.laws.proofs.Ranges.{neg-good}
use Rattle.laws.proofs.Fractions.{lowest-neg}
use Rattle.exponents.specs.Answers.{expOf}
use Rattle.exponents.specs.declared.Exponent.{Exponent}
use Rattle.text_scan.specs.Scanned.{place_in}
use Rattle.text_grammar.specs.declared.inner.Point.TheVariants as point
use Rattle.text_grammar.specs.declared.inner.Point.{Point}
use Rattle.text_grammar.specs.Points.{Reads, from, standing, beginsAt, columnAt}
use Rattle.text_grammar.proofs.Points.{given, if-sign, if-no-sign}
use Rattle.text_grammar.specs.Powers.{Typed, minusThere, denominatorThere}
use Rattle.text_grammar.specs.Values.{value_of}
use Rattle.text_grammar.proofs.Values.{typed-value, value-large, value-zero, value-under, value_there, lowest-good}
use Rattle.text_grammar.specs.Factors.{powerThere}
use Rattle.text_names.specs.Stands.{place_of, Stand}
use Rattle.text_names.specs.Effects.{lent, sofar, Ready, Effect, NotBad}
use Rattle.text_names.proofs.Effects.{kept_same, kept-stopped, did, stops, gives, halted-on, not-bad, at_sign, Inside}
use Rattle.text_names.specs.Effects.{Done}
use Rattle.text_names.proofs.Effects.{unmoved}
use Rattle.text_names.proofs.Inside.{inside-column, inside-give, inside-then, inside-if, inside-digits, inside-spelled}
use Rattle.text_names.specs.Stands as stand
use Rattle.text_dimensions.specs.Powers.{powered, powerStand, unit, expIn, ExpTold}

-- ══ A power's worth is well formed ══

pub unit-good : goodExp (expOf unit) ≡ true
unfolding goodExp in_range gcd gcdIn
unit-good = refl

signed-good : (m : Bool) (n d : ℕ) → n ≤ top → 0 < d → d ≤ top → goodExp (lowest (signedBy m n) d) ≡ true
signed-good true n d h k l = ap goodExp (lowest-neg (pos n) d) ∙ neg-good (lowest (pos n) d) (lowest-good n d h k l)
signed-good false n d h k l = lowest-good n d h k l

no_value : {e : Exp} {w : Got Exp} → got e ≡ w → w ≡ refused 7 → ⊥
no_value e f = cc

value-good : (m : Bool) (n d : ℕ) (e : Exp) → got e ≡ value_of m n d → goodExp e ≡ true
value-good m n d e q = go (leb n top) refl (leb 1 d) refl (leb d top) refl
  where
    go : (a : Bool) → leb n top ≡ a → (b : Bool) → leb 1 d ≡ b → (c : Bool) → leb d top ≡ c → goodExp e ≡ true
    go false f b g c h = absurd (no_value q (value-large m n d (leb-false n top f)))
    go true f false g c h = absurd (no_value q (value-zero m n d (leb-false 1 d g)))
    go true f true g false h = absurd (no_value q (value-under m n d (leb-false d top h)))
    go true f true g true h =
        let a = leb-true n top f in
        let b = leb-true 1 d g in
        let c = leb-true d top h in
        let z : e ≡ lowest (signedBy m n) d = cc (value_there m n d a b c) in
        rw z (signed-good m n d a b c)

pub told-good : (v : Result Exponent Refusal) (m : Bool) (n d : ℕ) → toldBy expOf v ≡ value_of m n d → goodExp (expOf (expIn v)) ≡ true
told-good (Ok e) m n d q = value-good m n d (expOf e) q
told-good (Err why) m n d q = unit-good

-- ══ A power's column ══

-- whatever the rule reads has the column c
record Columned (c : ℕ) (R : Rule PowerAt) : Type 0 where
  same-column : (p q : Place) (v : PowerAt) → R p ≡ read v q → v.column ≡ c

columned-then : {A : Type 0} (c : ℕ) (R : Rule A) (K : A → Rule PowerAt) → ((a : A) → Columned c (K a)) → Columned c (λ p. pass (R p) K)
columned-then c R K k = record { same-column = λ p q v e. go (R p) q v e }
  where
    go : (m : Parsed _) (q : Place) (v : PowerAt) → pass m K ≡ read v q → v.column ≡ c
    go (read a p) q v e = (k a).same-column p q v e
    go (bad d) q v e = absurd (cc)

columned-give : (v : PowerAt) → Columned v.column (give v)
columned-give v = record { same-column = λ p q w e. let z : v ≡ w = cc in ap (λ (u : PowerAt). u.column) (sym z) }

abbrev powerWith : ℕ → Bool → ℕ → ℕ → PowerAt
powerWith c m n d = record { column = c; numerator = signedBy m n; denominator = d }

power-columned : (p q : Place) (v : PowerAt) → power p ≡ read v q → v.column ≡ columnOf (skip p)
unfolding power
power-columned p q v e =
    let c = columnOf (skip p) in
    (columned-then c (sign "^") (λ u. sign "(" >> (minusThere >>= λ m. digits >>= λ n. denominatorThere >>= λ d. sign ")" >> give (powerWith c m n d)))
    (λ u. columned-then c (sign "(") (λ u. minusThere >>= λ m. digits >>= λ n. denominatorThere >>= λ d. sign ")" >> give (powerWith c m n d))
    (λ u. columned-then c minusThere (λ m. digits >>= λ n. denominatorThere >>= λ d. sign ")" >> give (powerWith c m n d))
    (λ m. columned-then c digits (λ n. denominatorThere >>= λ d. sign ")" >> give (powerWith c m n d))
    (λ n. columned-then c denominatorThere (λ d. sign ")" >> give (powerWith c m n d))
    (λ d. columned-then c (sign ")") (λ u. give (powerWith c m n d)) (λ u. columned-give (powerWith c m n d)))))))).same-column (skip p) q v e

-- what is read up to a point that is not refused
record ReadTo {A : Type 0} (line : Bytes) (q : Point) (v : A) : Type 0 where
  place : Place
  is : standing line q v ≡ read v place

read-to : {A : Type 0} (line : Bytes) (q : Point) (v : A) → NotBad q → ReadTo line q v
read-to line (point.At j) v n = record { place = place_in line j; is = refl }
read-to line point.Deep v n = record { place = beyond; is = refl }
read-to line (point.Bad j) v n = absurd n

-- the next sign of a line that is not refused stands in it
sign-fine : {line : Bytes} {p c : Point} {P : ℕ → Type 0} → Reads line p column P c → NotBad p → NotBad c
sign-fine {line} {p} {c} x = go p c x.is
  where
    go : (p c : Point) → from line p column ≡ standing line c x.value → NotBad p → NotBad c
    go p (point.At i) e n = tt
    go p point.Deep e n = tt
    go (point.At i) (point.Bad j) e n = cc
    go point.Deep (point.Bad j) e n = cc
    go (point.Bad i) (point.Bad j) e n = n

power-sign : {line : Bytes} {p c q : Point} {P : PowerAt → Type 0} (x : Reads line p column (λ (k : ℕ). k ≡ columnAt c) c) (y : Reads line p power P q)
    → NotBad q → y.value.column ≡ columnAt c
power-sign {line} {p} {c} {q} x y n = go p x.is y.is (not-bad y n) ∙ x.holds
  where
    a : ReadTo line q y.value
    a = read-to line q y.value n

    b : ReadTo line c x.value
    b = read-to line c x.value (sign-fine x (not-bad y n))

    at : (r : Place) → column r ≡ standing line c x.value → power r ≡ standing line q y.value → y.value.column ≡ x.value
    at r e f = let g : ◌≡◌ {A = Parsed ℕ} (read (columnOf (skip r)) (skip r)) (read x.value b.place) = e ∙ b.is in power-columned r a.place y.value (f ∙ a.is)
        ∙ cc

    go : (p : Point) → from line p column ≡ standing line c x.value → from line p power ≡ standing line q y.value → NotBad p → y.value.column ≡ x.value
    go (point.At i) e f m = at (place_in line i) e f
    go point.Deep e f m = at beyond e f
    go (point.Bad i) e f m = absurd m

-- ══ A power, read and valued ══

pub inside-power : Inside powerThere
unfolding power
inside-power =
    inside-if "^" power (give noPower)
    (inside-then column _ inside-column (λ c. inside-then (sign "^") _ (inside-spelled _) (λ u. inside-then (sign "(") _ (inside-spelled _) (λ u.
    inside-then minusThere _ (inside-if "-" (sign "-" >> give true) (give false)
    (inside-then (sign "-") (λ u. give true) (inside-spelled _) (λ u. inside-give true)) (inside-give false)) (λ m.
    inside-then digits _ inside-digits (λ n.
    inside-then denominatorThere _ (inside-if "/" (sign "/" >> digits) (give 1) (inside-then (sign "/") (λ u. digits) (inside-spelled _) (λ u. inside-digits))
    (inside-give 1)) (λ d.
    inside-then (sign ")") _ (inside-spelled _) (λ u. inside-give (powerWith c m n d)))))))))
    (inside-give noPower)

power-effect : (w : PowerAt) (v : Result Exponent Refusal) (at : ℕ) (pool table dst : List ℕ) (s : Stand) → powerOf w ≡ toldBy expOf v → w.column ≡ suc at
    → Effect (powered w) (ExpTold (expIn v)) (lent pool table dst s) (lent pool table dst (powerStand s at v))
unfolding words
power-effect w (Ok e) at pool table dst (Ok tally) h g =
    did refl refl (record {
      value = expOf e;
      records = [];
      is = ap (λ (m : Got Exp). placed w.column m (sofar (lent pool table dst (stand.Going tally.names tally.records)) tally.names tally.records)) h;
      tells = record { is = refl; none = refl };
      written = refl;
      grown = omega arith;
    })
power-effect w (Err why) at pool table dst (Ok tally) h g =
    stops refl refl (ap (λ (m : Got Exp). placed w.column m (sofar (lent pool table dst (stand.Going tally.names tally.records)) tally.names tally.records)) h
    ∙ ap (λ (c : ℕ). refusedAt (number_of why) c) g)
power-effect w v at pool table dst (Err stop) h g = unmoved refl

power-refused : (s : Stand) (at : ℕ) (v : Result Exponent Refusal) (r : Refusal) (c : ℕ) → s ≡ stand.Refused r c → powerStand s at v ≡ stand.Refused r c
power-refused s at v r c e = rw e

power-going : (s : Stand) (at : ℕ) (v : Result Exponent Refusal) (k n : ℕ) → powerStand s at v ≡ stand.Going k n → s ≡ stand.Going k n
power-going (Ok tally) at (Ok e) k n q = q
power-going (Ok tally) at (Err why) k n q = absurd (cc)
power-going (Err stop) at v k n q = q

module _ {line : Bytes} {p : Point} {pool table : List ℕ} (dst : List ℕ) {s : Stand} (ready : Ready line p pool table s) where
  pub power-done : {q sign : Point} {m : Bool} {n d at : ℕ} {s' : Stand} {o : Exponent} (c : Point) (v : Result Exponent Refusal) → true ≡ beginsAt line p 94
      → Reads line p column (λ (k : ℕ). k ≡ columnAt c) c → Reads line p power (Typed sign m n d) q
      → toldBy expOf v ≡ value_of m n d → at ≡ place_of c → s' ≡ powerStand s at v → o ≡ expIn v
      → Done line powerThere powered (ExpTold o) p (lent pool table dst s) q (lent pool table dst s')
  power-done {q} {sign} {m} {n} {d} {at} {s'} {o} c v e x y f g h i =
      let there : Reads line p powerThere (λ w. NotBad q → Effect (powered w) (ExpTold o) (lent pool table dst s)
      (lent pool table dst s')) q = if-sign "^" power (give noPower) e (record {
        within = y.within;
        onward = y.onward;
        value = y.value;
        is = y.is;
        holds = λ nb.
            at_sign c (power-sign x y nb) (sign-fine x (not-bad y nb)) (halted-on inside-column x ready.halted) (λ j.
            rw (h, i) (power-effect y.value v at pool table dst s (typed-value m n d sign y.value y.holds ∙ sym f) (j ∙ ap suc (sym g))));
      }) in
      record {
        reads = there;
        kept = rw h (kept-stopped ready.good ready.room (power-refused s at v) (power-going s at v));
        halted = λ k l b t. halted-on inside-power there ready.halted k l b (power-going s at v k l (sym h ∙ t));
      }

  pub no_power : false ≡ beginsAt line p 94 → Done line powerThere powered (ExpTold unit) p (lent pool table dst s) p (lent pool table dst s)
  unfolding powerOf in_range lowest gcd gcdIn
  no_power e = record {
    reads = if-no-sign "^" power (give noPower) e (given noPower ready.within (λ nb. gives one (record { is = refl; none = refl })));
    kept = kept_same ready.good ready.room;
    halted = ready.halted;
  }
