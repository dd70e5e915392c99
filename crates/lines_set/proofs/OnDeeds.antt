-- What follows from the definitions of specs/Deeds: what a step does with its operands, as the rules have it.
use Rattle.std.specs.Prelude.{◌≡◌, refl, List, [], ◌∷◌, ℕ, ◌≤◌, ◌<◌, length, get_or, drop}
use Rattle.std.proofs.Common.{arith}
use Rattle.std.proofs.Math.Option.{none, some}
use Rattle.rules.specs.Steps.{LineStep, constant, reference, raises, joins, chooses, Deed, gives, raised, joined, chosen, operands, takes}
use Rattle.lines_entry.specs.Told.{stepOf}
use Rattle.lines_entry.specs.declared.inner.steps.Step.{Step}

pub missing : (s : LineStep ℕ) (st : List ℕ) → length st < operands s → none ≡ takes s st
unfolding takes
missing (constant t) st h = absurd (omega arith)
missing (reference t) st h = absurd (omega arith)
missing (raises e) [] h = refl
missing (raises e) (a ∷ st) h = absurd (omega arith)
missing (joins o) [] h = refl
missing (joins o) (a ∷ []) h = refl
missing (joins o) (a ∷ b ∷ st) h = absurd (omega arith)
missing chooses [] h = refl
missing chooses (a ∷ []) h = refl
missing chooses (a ∷ b ∷ []) h = refl
missing chooses (a ∷ b ∷ c ∷ st) h = absurd (omega arith)

-- what a step does with the three at the front of the stack, as far as it takes them
abbrev pub deedBy : LineStep ℕ → List ℕ → Deed ℕ ℕ
deedBy (constant t) st = gives t
deedBy (reference t) st = gives t
deedBy (raises e) st = raised e (get_or st 0 0)
deedBy (joins o) st = joined o (get_or st 1 0) (get_or st 0 0)
deedBy chooses st = chosen (get_or st 2 0) (get_or st 1 0) (get_or st 0 0)

pub taking : (s : LineStep ℕ) (st : List ℕ) → operands s ≤ length st → some (deedBy s st, drop (operands s) st) ≡ takes s st
unfolding takes
taking (constant t) st h = refl
taking (reference t) st h = refl
taking (raises e) [] h = absurd (omega arith)
taking (raises e) (a ∷ st) h = refl
taking (joins o) [] h = absurd (omega arith)
taking (joins o) (a ∷ []) h = absurd (omega arith)
taking (joins o) (a ∷ b ∷ st) h = refl
taking chooses [] h = absurd (omega arith)
taking chooses (a ∷ []) h = absurd (omega arith)
taking chooses (a ∷ b ∷ []) h = absurd (omega arith)
taking chooses (a ∷ b ∷ c ∷ st) h = refl

pub took : (s : LineStep ℕ) (st : List ℕ) (x : Deed ℕ ℕ × List ℕ) → some x ≡ takes s st → operands s ≤ length st
unfolding takes
took (constant t) st x h = omega arith
took (reference t) st x h = omega arith
took (raises e) [] x h = cc
took (raises e) (a ∷ st) x h = omega arith
took (joins o) [] x h = cc
took (joins o) (a ∷ []) x h = cc
took (joins o) (a ∷ b ∷ st) x h = omega arith
took chooses [] x h = cc
took chooses (a ∷ []) x h = cc
took chooses (a ∷ b ∷ []) x h = cc
took chooses (a ∷ b ∷ c ∷ st) x h = omega arith

-- a step that is known
module _ (step it : Step) (st : List ℕ) (e : step ≡ it) where
  pub missing-as : length st < operands (stepOf it) → none ≡ takes (stepOf step) st
  missing-as h = rw e (missing (stepOf it) st h)

  pub taken-as : operands (stepOf it) ≤ length st → some (deedBy (stepOf it) st, drop (operands (stepOf step)) st) ≡ takes (stepOf step) st
  taken-as h = rw e (taking (stepOf it) st h)
