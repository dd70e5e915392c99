-- What follows from the definitions of specs/Choice: which rule a type's first byte decides on.
use Rattle.std.specs.Prelude.{◌≡◌, refl, Bool, true, false, ◌||◌, List, [], ◌∷◌, map, ℕ, zero, suc, ◌<◌, eqb}
use Rattle.std.proofs.Common.{sym, ap, ◌∙◌, true≢false, arith}
use Prim.Native.Char.{Char, code}
use Rattle.std.proofs.lemmas.Bool.{eqb-false, or_parts}
use Rattle.rules.specs.Names.{Bytes}
use Rattle.rules.specs.Trees.{var, par, boolean, string, datetime}
use Rattle.rules.specs.Grammar.{here, bad, Rule, column, columnOf, pick, TyAt, deepAt, opened, dimension, keyword, function, listed}
use Rattle.rules.specs.Grammar.{structure, types, type, tooDeep, deepTypes}
use Rattle.text_grammar.specs.declared.inner.Point.{Point}
use Rattle.text_grammar.specs.Points.{Reads, columnAt}
use Rattle.text_grammar.proofs.Points.{in-turn}
use Rattle.text_grammar.specs.Factors.{byte_of, refusedFrom}
use Rattle.text_grammar.proofs.Factors.{pick_other, choose-this, choose-none}
use Rattle.text_grammar.specs.declared.inner.Point.TheVariants as point
use Rattle.text_grammar.specs.Choice.{ruled, among, heads, deepRuled}

-- ══ The rule for each first byte ══

no-head : (d c : ℕ) → pick 0 (types (type d)) (here c []) ≡ bad c
no-head d c = refl

module _ {P : TyAt → Type 0} {line : Bytes} {s r : Point} (d : ℕ) where
  by_byte : (k : ℕ) (R : Rule TyAt) → 0 < k → pick k (types (type d)) ≡ R → byte_of line s ≡ k → Reads line s R P r → Reads line s (ruled d) P r
  by_byte k R h q e y = choose-this (deepAt 0) (types (type d)) (no-head d) R k h e q y

  pub by-var : byte_of line s ≡ 63 → Reads line s (opened "?" var) P r → Reads line s (ruled d) P r
  by-var e y = by_byte 63 (opened "?" var) (omega arith) refl e y

  pub by-par : byte_of line s ≡ 33 → Reads line s (opened "!" par) P r → Reads line s (ruled d) P r
  by-par e y = by_byte 33 (opened "!" par) (omega arith) refl e y

  pub by-dimension : byte_of line s ≡ 91 → Reads line s dimension P r → Reads line s (ruled d) P r
  by-dimension e y = by_byte 91 dimension (omega arith) refl e y

  pub by_bool : byte_of line s ≡ 66 → Reads line s (keyword "Bool" boolean) P r → Reads line s (ruled d) P r
  by_bool e y = by_byte 66 (keyword "Bool" boolean) (omega arith) refl e y

  pub by-string : byte_of line s ≡ 83 → Reads line s (keyword "String" string) P r → Reads line s (ruled d) P r
  by-string e y = by_byte 83 (keyword "String" string) (omega arith) refl e y

  pub by-datetime : byte_of line s ≡ 68 → Reads line s (keyword "DateTime" datetime) P r → Reads line s (ruled d) P r
  by-datetime e y = by_byte 68 (keyword "DateTime" datetime) (omega arith) refl e y

  pub by-function : byte_of line s ≡ 70 → Reads line s (function (type d)) P r → Reads line s (ruled d) P r
  by-function e y = by_byte 70 (function (type d)) (omega arith) refl e y

  pub by-list : byte_of line s ≡ 76 → Reads line s (listed (type d)) P r → Reads line s (ruled d) P r
  by-list e y = by_byte 76 (listed (type d)) (omega arith) refl e y

  pub by-structure : byte_of line s ≡ 64 → Reads line s (structure (type d)) P r → Reads line s (ruled d) P r
  by-structure e y = by_byte 64 (structure (type d)) (omega arith) refl e y

-- ══ A byte of no type ══

-- the byte of no type: no rule fits
pub data Fits (b : ℕ) : List (Char × Rule TyAt) → List Char → Type 0 where
  none : Fits b [] []
  one : {xs : List (Char × Rule TyAt)} {cs : List Char} (c : Char) (R : Rule TyAt) → Fits b xs cs → Fits b ((c, R) ∷ xs) (c ∷ cs)

no-rule : (b : ℕ) (xs : List (Char × Rule TyAt)) (cs : List Char) → Fits b xs cs → among b cs ≡ false → pick b xs ≡ (λ p. bad (columnOf p))
no-rule b xs cs none e = refl
no-rule b xs cs (one {xs = ys} {cs = ds} c R f) e =
    let parts = or_parts (eqb b (code c)) (among b ds) e in
    pick_other b (c, R) ys (eqb-false b (code c) parts.0) ∙ no-rule b ys ds f parts.1

pub by-none : {P : TyAt → Type 0} {line : Bytes} {s : Point} (d : ℕ) → among (byte_of line s) heads ≡ false → P (deepAt 0)
    → Reads line s (ruled d) P (refusedFrom s)
by-none {P} {line} {s} d e h =
    let f = one "?" _ (one "!" _ (one "[" _ (one "B" _ (one "S" _ (one "D" _ (one "F" _ (one "L" _ (one "@" _ none)))))))) in
    choose-none (deepAt 0) (types (type d)) (no-head d) line s (λ q. ap (λ (g : Rule TyAt). g q) (no-rule (byte_of line s) (types (type d)) heads f e)) h

-- a type is what its first byte decides on
pub type-by : {P : TyAt → Type 0} {line : Bytes} {p s r : Point} (d : ℕ) → Reads line p column (λ (k : ℕ). k ≡ columnAt s) s → Reads line s (ruled d) P r
    → Reads line p (type (suc d)) P r
unfolding type
type-by d x y = in-turn column (λ c. ruled d) x (λ c hc. y)

-- ══ Types that are nested too deep ══

no-deep : (c : ℕ) → pick 0 deepTypes (here c []) ≡ bad c
no-deep c = refl

abbrev deepOf : List Char → List (Char × Rule TyAt)
deepOf cs = map (λ x. (x, tooDeep)) cs

deep-pick : (b : ℕ) (cs : List Char) → among b cs ≡ true → pick b (deepOf cs) ≡ tooDeep
deep-pick b [] e = absurd (true≢false (sym e))
deep-pick b (c ∷ cs) e = go (eqb b (code c)) e (deep-pick b cs)
  where
    go : (t : Bool) → (t || among b cs) ≡ true → (among b cs ≡ true → pick b (deepOf cs) ≡ tooDeep)
        → elim t [ true ↦ tooDeep | false ↦ pick b (deepOf cs) ] ≡ tooDeep
    go true q f = refl
    go false q f = f q

no-deep-rule : (b : ℕ) (cs : List Char) → among b cs ≡ false → pick b (deepOf cs) ≡ (λ p. bad (columnOf p))
no-deep-rule b [] e = refl
no-deep-rule b (c ∷ cs) e =
    let parts = or_parts (eqb b (code c)) (among b cs) e in
    pick_other b (c, tooDeep) (deepOf cs) (eqb-false b (code c) parts.0) ∙ no-deep-rule b cs parts.1

head-some : (b : ℕ) → among b heads ≡ true → 0 < b
head-some zero e = absurd (true≢false (sym e))
head-some (suc b) e = omega arith

-- where a type begins that is nested too deep, nothing behind it is looked at
pub deep-there : {P : TyAt → Type 0} {line : Bytes} {i : ℕ} → among (byte_of line (point.At i)) heads ≡ true → P (deepAt (suc i))
    → Reads line (point.At i) deepRuled P point.Deep
deep-there {P} {line} {i} e h =
    choose-this (deepAt 0) deepTypes no-deep tooDeep (byte_of line (point.At i)) (head-some (byte_of line (point.At i)) e) refl
    (deep-pick (byte_of line (point.At i)) heads e)
    (record { within = tt; onward = omega arith; value = deepAt (suc i); is = refl; holds = h })

pub deep_none : {P : TyAt → Type 0} {line : Bytes} {s : Point} → among (byte_of line s) heads ≡ false → P (deepAt 0) → Reads line s deepRuled P (refusedFrom s)
deep_none {P} {line} {s} e h = choose-none (deepAt 0) deepTypes no-deep line s (λ q. ap (λ (g : Rule TyAt). g q) (no-deep-rule (byte_of line s) heads e)) h

pub deep-by : {P : TyAt → Type 0} {line : Bytes} {p s r : Point} → Reads line p column (λ (k : ℕ). k ≡ columnAt s) s → Reads line s deepRuled P r
    → Reads line p (type 0) P r
unfolding type
deep-by x y = in-turn column (λ c. deepRuled) x (λ c hc. y)
