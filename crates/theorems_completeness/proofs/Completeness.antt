-- Choosing: refused only when there is none. For sets in which every constraint is equal-scalar or an equality of two dimensions:
-- 5 means that no choice of dimensions makes all true, and an accepted answer gives all choices that do. The same for wide sets, whose sides may be
-- variables and in which is-dimension may stand. The words stand in Claims and in rules' Choices, the proofs in the other files.
use Rattle.std.specs.Prelude.{◌≡◌, Bool, true, ◌⊎◌, ℕ}
use mathlib.Core.List.{List, []}
use Rattle.std.proofs.Math.Path.{refl}
use Rattle.rules.specs.Base.{got, bounded, all}
use Rattle.rules.specs.Trees.{Names, Con, Binding}
use Rattle.rules.specs.Names.{table_of, numbersOf}
use Rattle.rules.specs.Solving.{Answer, accepted, remaining, stopped, solve}
use Rattle.rules.specs.Calls.{setGiven, solved, unsolved, solveCall}
use Rattle.rules.specs.Choices.{Choice, Rational, dimensional, Choosing, wide, MakesAllWideTrue, ChoosingWide, completedWide}
use Rattle.laws.specs.Lists.{all-is}
use Rattle.laws.proofs.Lists.{is_all}
use Rattle.laws.specs.Order.{Lawful, Tells}
use Rattle.theorems_completeness.specs.Claims.{◌⇔◌, DimensionSet, AllChoices, Five, Stopped, Complete, WideSet, AllWideChoices, WideComplete}
use Rattle.theorems_completeness.specs.Theorems.{WideDecided, SameThere, Within, MakesWideOnesTrue}
use Rattle.theorems_completeness.proofs.Trees as Trees
use Rattle.theorems_completeness.proofs.Words as CallWords
use Rattle.theorems_completeness.proofs.Same as Same

-- ══ On trees: names whose order, by bytes, is lawful and tells the held ones apart ══

module _ {N : Type 0} (ν : Names N) (held : N → Bool) (lawful : Lawful ν.order) (tells : Tells (λ n. held n ≡ true) ν.order) (cs : List (Con N))
    (given : DimensionSet ν held cs) where
  -- the solver stops with 7 or 8 alone: 6 can't come, and the rounds never run out
  pub only-7-and-8 : (n k : ℕ) → solve ν bounded cs ≡ stopped n k → (n ≡ 7) ⊎ (n ≡ 8)
  only-7-and-8 = Trees.dims-only-limits ν held lawful tells cs given

  -- (a) 'it answers 5 exactly when no choice of dimensions with rational powers for the variables makes all constraints true'
  pub five-exactly : (Stopped (solve ν bounded cs) → ⊥) → Five (solve ν bounded cs) ⇔ (Choosing ν.same cs → ⊥)
  five-exactly =
      Trees.exactly ν cs (Choosing ν.same cs) (AllChoices ν cs) (Trees.dims-none-left ν held lawful tells cs given)
      (Trees.dims-all-choices ν held lawful tells cs given) (Trees.dims-some-choice ν held lawful tells cs given)

  -- (b), (c) 'when it accepts, every other such choice comes from the accepted one by choosing its open variables'
  pub all-choices : (bs : List (Binding N)) (ns : List N) (k : ℕ) → solve ν bounded cs ≡ accepted bs ns k → AllChoices ν cs bs
  all-choices = Trees.dims-all-choices ν held lawful tells cs given

-- ══ On words, whatever is lent, for a set that is read as such constraints ══

pub call-complete : (pool table set result work : List ℕ) (cs : List (Con ℕ)) → setGiven (table_of pool table) set ≡ got cs
    → all dimensional cs ≡ true → Complete pool table set result work cs
call-complete pool table set result work cs read dims = CallWords.complete pool table set cs read dims result work

module _ (pool table set result work : List ℕ) (cs : List (Con ℕ)) (read : setGiven (table_of pool table) set ≡ got cs) (dims : all dimensional cs ≡ true) where
  -- a set of dimension lines that is refused with 5 can't be saved by any assignment
  pub refused-then-none : (records rounds : ℕ) → (solveCall pool table set result work).answer ≡ unsolved records rounds
      → Choosing (numbersOf (table_of pool table)).same cs → ⊥
  refused-then-none r k e = ((call-complete pool table set result work cs read dims).five (λ n j i h. cc)).0 (rw e tt)

-- ══ Wide sets: sides may be variables, and is-dimension may stand in them ══

module _ {N : Type 0} (ν : Names N) (held : N → Bool) (lawful : Lawful ν.order) (tells : Tells (λ n. held n ≡ true) ν.order) (cs : List (Con N))
    (given : WideSet ν held cs) where
  -- 7 or 8 alone; 5 exactly when there is no choice; an accepted answer gives all choices
  pub wide-decided : WideDecided ν cs
  wide-decided =
      let sides = Trees.wide-sides ν held cs given in
      record {
        only-7-and-8 = Trees.only-limits ν held true lawful tells cs given.well-formed sides;
        five-exactly = Trees.exactly ν cs (ChoosingWide ν.same cs) (AllWideChoices ν cs) (Trees.none_left ν held true lawful tells cs given.well-formed sides)
            (Trees.all-choices ν held true lawful tells cs given.well-formed sides) (Trees.some-choice ν held true lawful tells cs given.well-formed sides);
        all-choices = Trees.all-choices ν held true lawful tells cs given.well-formed sides;
      }

pub wide-complete : (pool table set result work : List ℕ) (cs : List (Con ℕ)) → setGiven (table_of pool table) set ≡ got cs
    → all wide cs ≡ true → WideComplete pool table set result work cs
wide-complete pool table set result work cs read sides = CallWords.wide-complete pool table set cs read sides result work

-- ══ Fewer constraints are true more easily ══

pub fewer : {N : Type 0} (same : Discrete N) (c : Choice N) (cs ds : List (Con N)) → Within ds cs → MakesAllWideTrue same c cs → MakesAllWideTrue same c ds
fewer same c cs ds part makes k m = makes k (part k m)

-- of a whole, what makes its wide constraints true is a choice of a part of them
narrowed : {N : Type 0} (same : Discrete N) (cs ds : List (Con N)) → Within ds cs → all wide ds ≡ true
    → (c : Choice N) → Rational c → MakesWideOnesTrue same c cs → ChoosingWide same ds
unfolding all
narrowed same cs ds within sides c r makes = record { choice = c; rational = r; makes = λ k m. makes k (within k m) (all-is wide ds sides k m) }

pub conflict : (pool table part result work : List ℕ) (ds : List (Con ℕ)) → setGiven (table_of pool table) part ≡ got ds → all wide ds ≡ true
    → (records rounds : ℕ) → (solveCall pool table part result work).answer ≡ unsolved records rounds
    → (cs : List (Con ℕ)) → Within ds cs → (c : Choice ℕ) → Rational c → MakesWideOnesTrue (numbersOf (table_of pool table)).same c cs → ⊥
conflict pool table part result work ds read sides r k e cs within c rational makes =
    ((wide-complete pool table part result work ds read sides).five (λ n j i h. cc)).0 (rw e tt)
    (narrowed (numbersOf (table_of pool table)).same cs ds within sides c rational makes)

module _ {N : Type 0} (ν : Names N) (held : N → Bool) (lawful : Lawful ν.order) (tells : Tells (λ n. held n ≡ true) ν.order) where
  pub part-refused : (ds : List (Con N)) → WideSet ν held ds → Five (solve ν bounded ds)
      → (cs : List (Con N)) → Within ds cs → (c : Choice N) → Rational c → MakesWideOnesTrue ν.same c cs → ⊥
  part-refused ds given five cs within c r makes =
      ((wide-decided ν held lawful tells ds given).five-exactly (λ s. both (solve ν bounded ds) five s)).0 five
      (narrowed ν.same cs ds within given.sides c r makes)
    where
      both : (a : Answer N) → Five a → Stopped a → ⊥
      both (accepted bs ns k) f s = f
      both (remaining rs k) f s = s
      both (stopped n k) f s = f

module _ (pool table part whole result result' work work' : List ℕ) (ds cs : List (Con ℕ)) (read : setGiven (table_of pool table) part ≡ got ds)
    (whole-read : setGiven (table_of pool table) whole ≡ got cs) (sides : all wide cs ≡ true) (within : Within ds cs) where
  pub conflict-stays : (left rounds : ℕ) → (solveCall pool table part result work).answer ≡ unsolved left rounds
      → (records bounds rounds' : ℕ) → (solveCall pool table whole result' work').answer ≡ solved records bounds rounds' → ⊥
  unfolding all
  conflict-stays l k e r b j i =
      let told = (wide-complete pool table whole result' work' cs whole-read sides).accepts r b j i in
      let c = told.choices.completes (λ x. []) (λ x. refl) in
      conflict pool table part result work ds read (is_all wide ds (λ d m. all-is wide cs sides d (within d m))) l k e cs within
      (completedWide (numbersOf (table_of pool table)).same told.bs (λ x. [])) c.0 (λ d m h. c.1 d m)

-- ══ On sets of dimensions both say the same ══

pub wider : {N : Type 0} (same : Discrete N) (c : Choice N) (k : Con N) → dimensional k ≡ true → SameThere same c k
wider same c k h = record { also-wide = Same.also-wide k h; same-truth = Same.same-truth same c k h }
