-- The checks of a line one by one: what each answer says of its definition.
use Rattle.std.specs.Prelude.{◌≡◌, Bool, List, [], ◌∷◌, eqb, leb, length, get_or, drop}
use Rattle.std.proofs.Math.Path.{refl, sym}
use Rattle.std.proofs.Common.{ap, ◌∙◌, arith}
use Rattle.std.proofs.Math.Bool.{true, false}
use Rattle.std.proofs.Math.Option.{Option, none, some}
use Prim.Native.Nat.{ℕ, zero, suc, ◌+◌, ◌*◌, ◌/◌, ◌%◌, ◌<◌, ◌≤◌}
use borrow.Author.Tests.{eqb-true, eqb-false, ne_eqb, le-leb, lt-leb}
use Rattle.rules.specs.Base.{Got, got, refused, ◌>>=◌, ◌>>◌, need, orRefuse, and_then, all}
use Rattle.rules.specs.Exponents.{Exp, frac, goodExp}
use Rattle.rules.specs.Trees.{Ty, size}
use Rattle.rules.specs.Contents.{closed}
use Rattle.rules.specs.Names.{Table, table_of, numbersOf, is_held}
use Rattle.rules.specs.WellFormed as rules
use Rattle.rules.specs.Writing.{Rec, signed}
use Rattle.rules.specs.Reading.{readTy}
use Rattle.rules.specs.Calls.{lent, type_at}
use Rattle.records.specs.Views.{recs}
use Rattle.records.specs.Found.{Words32}
use Rattle.records.specs.Good.{GoodTy}
use Rattle.records.specs.Holds.{Holds}
use Rattle.records.specs.Parsed.{only}
use Rattle.records.specs.ByView.{ends-in}
use Rattle.judge_entries.proofs.Given.{type-there, type-is}
use Rattle.rules.specs.Steps.{
  LineStep,
  constant,
  reference,
  raises,
  StepKind,
  isConstant,
  isReference,
  isRaise,
  zeros,
  number_at,
  constantAt,
  referenceTo,
  raiseBy,
  step_of,
}
use Rattle.rules.specs.Lines.{lineLent}

-- ══ 10 ══

module _ (pool table steps names result work : List ℕ) where
  pub room-no : need false 10 ≡ lent pool table result work → need false 10 ≡ lineLent pool table steps names result work
  unfolding lineLent
  room-no h = rw (← h)

  room_by : (b : Bool) → need true 10 ≡ lent pool table result work → leb (length steps) (length names * 4) ≡ b
      → need b 10 ≡ lineLent pool table steps names result work
  unfolding lineLent
  room_by b h e = rw (← h, e)

  pub room-more : need true 10 ≡ lent pool table result work → length steps / 4 < length names → need true 10 ≡ lineLent pool table steps names result work
  room-more h l = room_by true h (le-leb (length steps) (length names * 4) (omega arith))

  pub room-less : need true 10 ≡ lent pool table result work → length names < length steps / 4 → need false 10 ≡ lineLent pool table steps names result work
  room-less h l = room_by false h (lt-leb (length steps) (length names * 4) (omega arith))

  pub room-same : need true 10 ≡ lent pool table result work → length names ≤ length steps / 4 → length steps / 4 ≤ length names
      → need (eqb (length steps % 4) 0) 10 ≡ lineLent pool table steps names result work
  room-same h l k = go (eqb (length steps % 4) 0) refl
    where
      go : (b : Bool) → eqb (length steps % 4) 0 ≡ b → need b 10 ≡ lineLent pool table steps names result work
      go true q = let z = eqb-true (length steps % 4) 0 q in room_by true h (le-leb (length steps) (length names * 4) (omega arith))
      go false q = let z = eqb-false (length steps % 4) 0 q in room_by false h (lt-leb (length steps) (length names * 4) (omega arith))

-- ══ A type at a place ══

either : {A : Type 0} (o : Option A) (good : A → Bool) → ((a : A) → (orRefuse 1 o >>= λ x. need (good x) 1 >> got x) ≡ got a → ⊥)
    → (orRefuse 1 o >>= λ x. need (good x) 1 >> got x) ≡ refused 1
either none good h = refl
either (some a) good h = go (good a) refl
  where
    go : (b : Bool) → good a ≡ b → (need (good a) 1 >> got a) ≡ refused 1
    go true q = absurd (h a (rw q))
    go false q = rw q

module _ (pool table types : List ℕ) (w : Words32 types) where
  abbrev t : Table
  t = table_of pool table

  by_parts : (at : ℕ) → ((ty : Ty ℕ) → type_at t (recs types) at ≡ got ty → ⊥) → type_at t (recs types) at ≡ refused 1
  unfolding type_at
  by_parts at f = either (and_then (readTy 64 (drop at (recs types))) (λ r. some r.0)) (rules.goodTy (numbersOf t) (is_held t) 0) f

  pub type-none : (at : ℕ) → ((ty : Ty ℕ) (e : ℕ) → GoodTy pool table 0 types 64 at ty e → ⊥) → type_at t (recs types) at ≡ refused 1
  type-none at h = by_parts at (λ ty q. let (e, g) = type-is pool table types w at ty q in h ty e g)

  pub type-found : (at : ℕ) (ty : Ty ℕ) (e : ℕ) → GoodTy pool table 0 types 64 at ty e → (u : Ty ℕ) → Holds types u at → got u ≡ type_at t (recs types) at
  type-found at ty e g u h = ap got (only types u ty at h g.held) ∙ sym (type-there pool table types w at ty e g)

pub few-of : (s : List ℕ) (u : Ty ℕ) (at : ℕ) → Holds s u at → length s ≤ 8192 → size u ≤ 2048
few-of s u at h short = omega (arith, ends-in s u at h)

-- ══ Words that are 0 ══

positive : (n : ℕ) → eqb (suc n) 0 ≡ false
positive n = ne_eqb (suc n) 0 (λ e. omega (arith, e))

pub unused-two : {A : Type 0} (m : Got A) (b c : ℕ) → 0 < b + c → refused 1 ≡ (zeros (b ∷ c ∷ []) >> m)
unfolding zeros all
unused-two m zero zero h = absurd (omega arith)
unused-two m zero (suc c) h = rw (positive c)
unused-two m (suc b) c h = rw (positive b)

pub unused-three : {A : Type 0} (m : Got A) (a b c : ℕ) → 0 < a + b + c → refused 1 ≡ (zeros (a ∷ b ∷ c ∷ []) >> m)
unfolding zeros all
unused-three m zero zero zero h = absurd (omega arith)
unused-three m zero zero (suc c) h = rw (positive c)
unused-three m zero (suc b) c h = rw (positive b)
unused-three m (suc a) b c h = rw (positive a)

pub used-none : {A : Type 0} (m : Got A) (a b c : ℕ) → a ≡ 0 → b ≡ 0 → c ≡ 0 → m ≡ (zeros (a ∷ b ∷ c ∷ []) >> m)
unfolding zeros all
used-none m a b c p q r = rw (p, q, r)

-- ══ The type of an earlier line ══

number-some : (ns : List ℕ) (i : ℕ) → i < length ns → number_at ns i ≡ some (get_or ns i 0)
unfolding number_at
number-some [] i h = absurd (omega arith)
number-some (n ∷ ns) zero h = refl
number-some (n ∷ ns) (suc i) h = number-some ns i (omega arith)

number-none : (ns : List ℕ) (i : ℕ) → length ns ≤ i → number_at ns i ≡ none
unfolding number_at
number-none [] i h = refl
number-none (n ∷ ns) zero h = absurd (omega arith)
number-none (n ∷ ns) (suc i) h = number-none ns i (omega arith)

-- ══ A step ══

module _ (t : Table) (rs : List Rec) (lines : List ℕ) (a b c : ℕ) where
  abbrev as_kind : StepKind → Got (LineStep ℕ)
  as_kind k = step_of t rs lines k a b c

  pub constant-not : 0 < b + c → refused 1 ≡ as_kind isConstant
  unfolding step_of
  constant-not h = unused-two (constantAt t rs lines a) b c h

  pub reference-not : 0 < b + c → refused 1 ≡ as_kind isReference
  unfolding step_of
  reference-not h = unused-two (referenceTo t rs lines a) b c h

  module _ (p : b ≡ 0) (q : c ≡ 0) where
    pub constant-made : (ty : Ty ℕ) → type_at t rs a ≡ got ty → closed ty ≡ true → got (constant ty) ≡ as_kind isConstant
    unfolding step_of constantAt zeros all
    constant-made ty h e = rw (p, q, h, e)

    pub constant-open : (ty : Ty ℕ) → type_at t rs a ≡ got ty → closed ty ≡ false → refused 1 ≡ as_kind isConstant
    unfolding step_of constantAt zeros all
    constant-open ty h e = rw (p, q, h, e)

    pub constant_refused : (n : ℕ) → type_at t rs a ≡ refused n → refused n ≡ as_kind isConstant
    unfolding step_of constantAt zeros all
    constant_refused n h = rw (p, q, h)

    module _ (l : a < length lines) where
      pub reference-made : (ty : Ty ℕ) → type_at t rs (get_or lines a 0) ≡ got ty → got (reference ty) ≡ as_kind isReference
      unfolding step_of referenceTo zeros all
      reference-made ty h = rw (p, q, number-some lines a l, h)

      pub reference_refused : (n : ℕ) → type_at t rs (get_or lines a 0) ≡ refused n → refused n ≡ as_kind isReference
      unfolding step_of referenceTo zeros all
      reference_refused n h = rw (p, q, number-some lines a l, h)

    pub reference-none : length lines ≤ a → refused 1 ≡ as_kind isReference
    unfolding step_of referenceTo zeros all
    reference-none l = rw (p, q, number-none lines a l)

  pub raise-not : (a ≡ 0 → ⊥) → refused 1 ≡ as_kind isRaise
  unfolding step_of zeros all
  raise-not f = rw (ne_eqb a 0 f)

  module _ (p : a ≡ 0) (e : Exp) (q : e ≡ frac (signed b) c) where
    pub raise-made : goodExp e ≡ true → got (raises e) ≡ as_kind isRaise
    unfolding step_of raiseBy zeros all
    raise-made h = rw (p, ← q, h)

    pub raise-bad : goodExp e ≡ false → refused 1 ≡ as_kind isRaise
    unfolding step_of raiseBy zeros all
    raise-bad h = rw (p, ← q, h)
