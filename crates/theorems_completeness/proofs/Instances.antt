-- Examples on words, over the names of rules' Examples: each part of the statement is needed.
use Rattle.std.specs.Prelude.{◌≡◌, refl, false, List, [], ◌∷◌, ℕ, ℤ, pos, negsuc, nat_abs, ◌+ℤ◌, ◌*ℤ◌}
use Rattle.std.proofs.Common.{◌∙◌, sym, subst, arith}
use mathlib.Core.List.Memᴰ
use Rattle.std.proofs.Math.Nat.{eq-one_of_dvd-one}
use Rattle.std.proofs.Math.Bridge.{le_by_compare, IsLe}
use Rattle.rules.specs.Base.{got, bounded, all}
use Rattle.rules.specs.Exponents.{Exp, frac, nought, one, lowest, plus}
use Rattle.rules.specs.Trees.{var, par, free, base, ◌↑◌, opened, dim, basic, boolean, Con, equal, isDim, is_scalar, Binding, ◌≔◌}
use Rattle.rules.specs.Names.{table_of}
use Rattle.rules.specs.Writing.{rec}
use Rattle.rules.specs.Lengths.{sizedWords, counting}
use Rattle.rules.specs.Solving.{accepted, remaining, solve}
use Rattle.rules.specs.Calls.{setGiven, solved, unsolved, refusedAfter, solveCall}
use Rattle.rules.specs.Rules.{rules}
use Rattle.rules.specs.Examples.{x, y, z, L, pool, table, result, work}
use Rattle.rules.specs.Choices.{
  Fixed,
  baseDimension,
  ◌to◌,
  Dimension,
  Choice,
  Rational,
  power,
  scaled,
  chosenFor,
  comesTo,
  dimensional,
  MakesTrue,
  MakesAllTrue,
  Choosing,
  completed,
  isSide,
  wide,
  sideComesTo,
  MakesWideTrue,
  MakesAllWideTrue,
  ChoosingWide,
  completedWide,
}
use Rattle.laws.proofs.Gcd.{is-gcd}
use Rattle.laws.proofs.Fractions.{coprime-terms}
use Rattle.laws.specs.Lists.{in_head, Every}
use Rattle.laws.proofs.ByteOrder.{numbered-lawful}
use Rattle.laws.proofs.NameTable.{held-apart}
use Rattle.laws.specs.NameTable.{Good}
use Rattle.theorems_completeness.specs.Claims.{DimensionSet, AllChoices, Complete, WideSet, WideComplete}
use Rattle.theorems_completeness.specs.Examples.{
  same,
  names,
  held,
  k9,
  k9-words,
  k13,
  k13-words,
  two-things,
  two-things-words,
  open-two,
  open-two-words,
  open-two-bindings,
  y-is-L,
  k5,
  k5-bindings,
  Whole,
  WholePart,
  k14,
  k14-words,
}
use Rattle.theorems_completeness.specs.Theorems.{Within, MakesWideOnesTrue}
use Rattle.theorems_completeness.proofs.Completeness.{all-choices, refused-then-none, wide-decided, conflict}
use Rattle.theorems_completeness.proofs.Chosen.{at_part}

good-table : Good pool table
unfolding rules pool table IsLe
good-table = record { bytes = le_by_compare 8192 8192 tt; words = le_by_compare 257 257 tt; good = refl }

-- what an accepted set's bindings say
told : (cs : List (Con ℕ)) (bs : List (Binding ℕ)) (k : ℕ) → DimensionSet names held cs → solve names bounded cs ≡ accepted bs [] k → AllChoices names cs bs
told cs bs k given accepts = all-choices names held (numbered-lawful _) (held-apart pool table good-table) cs given bs [] k accepts

-- ══ K13, equal-scalar L: 5, and no choice makes it true ══

k13-read : setGiven (table_of pool table) k13-words ≡ got k13
unfolding rules counting pool table
k13-read = refl

pub k13-answer : (solveCall pool table k13-words result work).answer ≡ unsolved 3 0
unfolding rules counting pool table result work
k13-answer = refl

pub k13-none : Choosing same k13 → ⊥
unfolding dimensional all
k13-none = refused-then-none pool table k13-words result work k13 k13-read refl 3 0 k13-answer

-- ══ The parameter L = the base dimension L: two things of one name, so 5, and no choice ══

two-things-read : setGiven (table_of pool table) two-things-words ≡ got two-things
unfolding rules counting pool table
two-things-read = refl

pub two-things-answer : (solveCall pool table two-things-words result work).answer ≡ unsolved 4 1
unfolding rules counting pool table result work
two-things-answer = refl

pub two-things-none : Choosing same two-things → ⊥
unfolding dimensional all
two-things-none = refused-then-none pool table two-things-words result work two-things two-things-read refl 4 1 two-things-answer

-- ══ Equal-scalar x y z: y and z are open, and two choices of them give two choices that differ ══

open-two-read : setGiven (table_of pool table) open-two-words ≡ got open-two
unfolding rules counting pool table
open-two-read = refl

open-two-answer : (solveCall pool table open-two-words result work).answer ≡ solved 4 0 1
unfolding rules counting pool table result work
open-two-answer = refl

pub open-two-solved : solve names bounded open-two ≡ accepted open-two-bindings [] 1
unfolding rules pool table
open-two-solved = refl

open-two-given : DimensionSet names held open-two
unfolding rules pool table dimensional
open-two-given = record { well-formed = refl; dimensions = refl; few = omega arith }

-- whatever is chosen for y and z, it is completed to one that makes it true
pub any-completes : (c : Choice ℕ) → Rational c → MakesAllTrue same (completed same open-two-bindings c) open-two
any-completes c r = ((told open-two open-two-bindings 1 open-two-given open-two-solved).completes c r).1

-- x comes to nothing, or to L^-1
pub choices-differ : (power same (baseDimension L) (completed same open-two-bindings (λ v. []) x) ≡ nought)
    × (power same (baseDimension L) (completed same open-two-bindings y-is-L x) ≡ frac (negsuc 0) 1)
unfolding rules pool table power scaled chosenFor comesTo completed y-is-L
choices-differ = (refl, refl)

-- y is L, x nothing: that is no choice which makes it true, so bound variables aren't free to choose
pub not-any : MakesAllTrue same y-is-L open-two → ⊥
unfolding rules pool table power scaled chosenFor comesTo MakesTrue y-is-L
not-any f = let e : one ≡ nought = f (is_scalar (free (var x) ↑ one ∷ free (var y) ↑ one ∷ free (var z) ↑ one ∷ [])) in_head (baseDimension L)
    in cc

-- ══ K5, equal-scalar x^2 L^-3: x is L^(3/2), and whole powers alone wouldn't do ══

pub k5-solved : solve names bounded k5 ≡ accepted k5-bindings [] 1
unfolding rules pool table
k5-solved = refl

k5-given : DimensionSet names held k5
unfolding rules pool table dimensional
k5-given = record { well-formed = refl; dimensions = refl; few = omega arith }

whole_sum : (a b : Exp) → Whole a → Whole b → Whole (plus a b)
unfolding plus
whole_sum a b (n, i) (m, j) = (n *ℤ pos 1 +ℤ m *ℤ pos 1, rw (i, j) (own (n *ℤ pos 1 +ℤ m *ℤ pos 1)))
  where
    own : (k : ℤ) → lowest k 1 ≡ frac k 1
    own k = (coprime-terms k 1 (omega arith) (eq-one_of_dvd-one (is-gcd (nat_abs k) 1).right)).own

whole-power : (u : Fixed ℕ) (d : Dimension ℕ) → Every WholePart d → Whole (power same u d)
unfolding power
whole-power u [] h = (pos 0, refl)
whole-power u (v to e ∷ d) h = at_part same u Whole v e d (λ i. whole_sum e (power same u d) h.0 (whole-power u d h.1)) (λ i. whole-power u d h.1)

pub whole-none : (c : Choice ℕ) → Rational c → ((v : ℕ) → Every WholePart (c v)) → MakesAllTrue same c k5 → ⊥
unfolding rules pool table power scaled chosenFor comesTo
whole-none c r w f =
    let e : power same (baseDimension L) (c x) ≡ frac (pos 3) 2 =
    (told k5 k5-bindings 1 k5-given k5-solved).bound-so c r f x (base L ↑ frac (pos 3) 2 ∷ []) in_head (baseDimension L) in
    let n = whole-power (baseDimension L) (c x) (w x) in
    let i : frac n.0 1 ≡ frac (pos 3) 2 = sym n.1 ∙ e in
    cc

-- ══ K14, equal-scalar x^(1/2) y^2147483647: 7, though there is a choice ══

k14-read : setGiven (table_of pool table) k14-words ≡ got k14
unfolding rules counting pool table
k14-read = refl

pub k14-answer : (solveCall pool table k14-words result work).answer ≡ refusedAfter 7 0
unfolding rules counting pool table result work
k14-answer = refl

-- nothing for every variable
pub k14-choice : Choosing same k14
unfolding rules pool table power scaled chosenFor comesTo MakesTrue
k14-choice = record {
  choice = λ v. [];
  rational = λ v. refl;
  makes = λ k m. subst (λ (c : Con ℕ). MakesTrue same (λ v. []) c) (sym (Memᴰ.eq_of_singleton m)) (λ u. refl);
}

-- ══ Outside: not every side is a dimension ══

-- K9, dimension x = boolean: accepted, and no choice of a dimension makes it true; so the statement is about dimensions alone
pub k9-read : setGiven (table_of pool table) k9-words ≡ got k9
unfolding rules counting pool table
k9-read = refl

k9-answer : (solveCall pool table k9-words result work).answer ≡ solved 2 0 1
unfolding rules counting pool table result work
k9-answer = refl

k9-none : Choosing same k9 → ⊥
unfolding MakesTrue
k9-none d = d.makes (equal (dim (free (var x) ↑ one ∷ [])) (basic boolean)) in_head

-- 'equal-scalar or an equality of two dimensions' can't be left out
pub dimensions-needed : ¬ (Complete pool table k9-words result work k9)
dimensions-needed claim = ((rw k9-answer at claim.five) (λ n k e i. cc)).1 k9-none

-- nor can 'wide' be
k9-none-wide : ChoosingWide same k9 → ⊥
unfolding MakesWideTrue sideComesTo
k9-none-wide d = d.makes (equal (dim (free (var x) ↑ one ∷ [])) (basic boolean)) in_head

pub wide-needed : ¬ (WideComplete pool table k9-words result work k9)
wide-needed claim = ((rw k9-answer at claim.five) (λ n k e i. cc)).1 k9-none-wide

-- ══ A sheet: x is a dimension, y ~ x, x ~ [L] ══

abbrev lines : List (Con ℕ)
lines = isDim (opened (var x)) ∷ equal (opened (var y)) (opened (var x)) ∷ equal (opened (var x)) (dim (base L ↑ one ∷ [])) ∷ []

abbrev lines-words : List ℕ
lines-words = sizedWords (rec 21 0 0 0 ∷ rec 1 x 0 0 ∷ rec 20 0 0 0 ∷ rec 1 y 0 0 ∷ rec 1 x 0 0 ∷ rec 20 0 0 0 ∷ rec 1 x 0 0 ∷ rec 3 1 0 0 ∷ rec 13 L 1 1 ∷ [])

lines-read : setGiven (table_of pool table) lines-words ≡ got lines
unfolding rules counting pool table
lines-read = refl

-- both are L, after three rounds: y is bound, x is bound, and nothing is left of the is-dimension
lines-answer : (solveCall pool table lines-words result work).answer ≡ solved 6 0 3
unfolding rules counting pool table result work
lines-answer = refl

-- ══ y ~ x alone: y is bound to x, a variable, and follows it ══

abbrev follow : List (Con ℕ)
follow = equal (opened (var y)) (opened (var x)) ∷ []

follow-solved : solve names bounded follow ≡ accepted (y ≔ opened (var x) ∷ []) [] 1
unfolding rules pool table
follow-solved = refl

follow-given : WideSet names held follow
unfolding rules pool table isSide wide
follow-given = record { well-formed = refl; sides = refl }

pub follow-completes : (c : Choice ℕ) → Rational c → MakesAllWideTrue same (completedWide same (y ≔ opened (var x) ∷ []) c) follow
follow-completes c r = (((wide-decided names held (numbered-lawful _) (held-apart pool table good-table) follow follow-given).all-choices _ _ _
    follow-solved).completes c r).1

pub follow-comes : (c : Choice ℕ) → completedWide same (y ≔ opened (var x) ∷ []) c y ≡ c x
unfolding rules pool table sideComesTo completedWide
follow-comes c = refl

-- ══ x ~ [L] and x ~ []: 5; so with any other lines there is no choice either ══

abbrev clash : List (Con ℕ)
clash = equal (opened (var x)) (dim (base L ↑ one ∷ [])) ∷ equal (opened (var x)) (dim []) ∷ []

abbrev clash-words : List ℕ
clash-words = sizedWords (rec 20 0 0 0 ∷ rec 1 x 0 0 ∷ rec 3 1 0 0 ∷ rec 13 L 1 1 ∷ rec 20 0 0 0 ∷ rec 1 x 0 0 ∷ rec 3 0 0 0 ∷ [])

clash-read : setGiven (table_of pool table) clash-words ≡ got clash
unfolding rules counting pool table
clash-read = refl

clash-answer : (solveCall pool table clash-words result work).answer ≡ unsolved 3 2
unfolding rules counting pool table result work
clash-answer = refl

pub clash-none : (cs : List (Con ℕ)) → Within clash cs → (c : Choice ℕ) → Rational c → MakesWideOnesTrue same c cs → ⊥
unfolding isSide wide all
clash-none = conflict pool table clash-words result work clash clash-read refl 3 2 clash-answer

-- ══ A parameter as a side stays outside: it is no dimension with one factor, so the solver answers 5 where both are the same ══

abbrev parameter-side : List (Con ℕ)
parameter-side = equal (opened (par L)) (dim (free (par L) ↑ one ∷ [])) ∷ []

pub parameter-outside : (all wide parameter-side ≡ false) × (solve names bounded parameter-side ≡ remaining parameter-side 0)
unfolding rules pool table isSide wide
parameter-outside = (refl, refl)
