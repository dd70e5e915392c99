-- What a rule writes.
use Rattle.std.specs.Prelude.{◌≡◌, [], map, ℕ, Result, Ok, Err}
use Rattle.rules.specs.Base.{Got, got, refused, collect}
use Rattle.rules.specs.Refusals.{number_of}
use Rattle.rules.specs.declared.Refusal.{Refusal}
use Rattle.rules.specs.Rounds as rules
use Rattle.rules.specs.Trees.{◌≔◌, Product}
use Rattle.rules.specs.Writing.{writeCon, writeBinding, writeFactor}
use Rattle.types.specs.declared.writer.Writer.{Writer}
use Rattle.types.specs.Written.{Writes}
use Rattle.solve_step.specs.declared.Step.{Step}
use Rattle.solve_step.specs.declared.Step.TheVariants.{Bind, Split, Done, Stuck}
use Rattle.solve_step.specs.Stepped.{Refuses}

-- a binding or new constraints are written, and the number is the place past them; or nothing is. Of a refusal's buffer nothing is said
abbrev pub AppliedLeft : Writer → Writer → Result Step Refusal → Got (rules.Step ℕ) → Type 0
AppliedLeft w w' r (got (rules.bind x t)) = (r ≡ Ok (Bind w'.at)) × Writes w w' (writeBinding (x ≔ t))
AppliedLeft w w' r (got (rules.split cs)) = (r ≡ Ok (Split w'.at)) × Writes w w' (collect writeCon cs)
AppliedLeft w w' r (got rules.done) = (r ≡ Ok Done) × Writes w w' []
AppliedLeft w w' r (got rules.stuck) = (r ≡ Ok Stuck) × Writes w w' []
AppliedLeft w w' r (refused k) = Refuses r k

pub record Applied (w w' : Writer) (r : Result Step Refusal) (R : Got (rules.Step ℕ)) : Type 0 where
  pub same : w'.words.ghost_name ≡ w.words.ghost_name
  pub says : AppliedLeft w w' r R

-- factors that were written, or a refusal
abbrev pub FactorsLeft : Writer → Writer → Result (Unit {0}) Refusal → Got (Product ℕ) → Type 0
FactorsLeft w w' (Ok u) (got q) = Writes w w' (map writeFactor q)
FactorsLeft w w' (Err r) (got q) = ⊥
FactorsLeft w w' (Ok u) (refused k) = ⊥
FactorsLeft w w' (Err r) (refused k) = number_of r ≡ k

pub record FactorsPut (w w' : Writer) (r : Result (Unit {0}) Refusal) (m : Got (Product ℕ)) : Type 0 where
  pub same : w'.words.ghost_name ≡ w.words.ghost_name
  pub says : FactorsLeft w w' r m
