-- A constraint that a place holds, and what trying the rules on it leaves.
use Rattle.std.specs.Prelude.{◌≡◌, true, List, ℕ, ◌+◌, ◌*◌, Result, Ok, Err}
use Rattle.std.proofs.lemmas.List.Edits.{sets}
use Rattle.rules.specs.Base.{Got, got, refused, collect, sum_of}
use Rattle.rules.specs.Refusals.{number_of}
use Rattle.rules.specs.declared.Refusal.{Refusal}
use Rattle.rules.specs.Rounds as rules
use Rattle.rules.specs.Trees.{Con, ◌≔◌, sizeCon, sizeBinding}
use Rattle.rules.specs.WellFormed.{goodCon}
use Rattle.rules.specs.Writing.{words, writeCon, writeBinding}
use Rattle.records.specs.Good.{numbers, holding}
use Rattle.solve_step.specs.declared.Step.{Step}
use Rattle.solve_step.specs.declared.Step.TheVariants.{Bind, Split, Done, Stuck}

-- a well formed constraint, without quantified variables
abbrev pub GoodCon : List ℕ → List ℕ → Con ℕ → Type 0
GoodCon pool table c = goodCon (numbers pool table) (holding pool table) 0 c ≡ true

-- a refusal with this number
abbrev pub Refuses : Result Step Refusal → ℕ → Type 0
Refuses (Ok s) k = ⊥
Refuses (Err r) k = number_of r ≡ k

-- what a step leaves. A binding or new constraints: their records stand in d from the place `out` on, as far as d goes, and the number is the place past them.
-- A refusal: its number, and nothing is said of the buffer
abbrev pub StepLeft : List ℕ → List ℕ → ℕ → Result Step Refusal → Got (rules.Step ℕ) → Type 0
StepLeft d d' out r (got (rules.bind x t)) = (r ≡ Ok (Bind (out + sizeBinding (x ≔ t)))) × (d' ≡ sets d (out * 4) (words (writeBinding (x ≔ t))))
StepLeft d d' out r (got (rules.split cs)) = (r ≡ Ok (Split (out + sum_of sizeCon cs))) × (d' ≡ sets d (out * 4) (words (collect writeCon cs)))
StepLeft d d' out r (got rules.done) = (r ≡ Ok Done) × (d' ≡ d)
StepLeft d d' out r (got rules.stuck) = (r ≡ Ok Stuck) × (d' ≡ d)
StepLeft d d' out r (refused k) = Refuses r k

-- the same under a name that doesn't compute, so that a lemma's arguments are read off it
pub record Stepped (d d' : List ℕ) (out : ℕ) (r : Result Step Refusal) (R : Got (rules.Step ℕ)) : Type 0 where
  pub says : StepLeft d d' out r R
