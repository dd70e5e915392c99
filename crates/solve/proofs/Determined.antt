-- The contract leaves no choice, and the answer has the number of its outcome.
use Rattle.std.specs.Prelude.{◌≡◌, refl, Result, Ok, Err, List, ℕ}
use Rattle.std.proofs.Math.Path.{ap}
use Rattle.std.proofs.Common.{ap₂, sym, ◌∙◌}
use Rattle.rules.specs.Calls as calls
use Rattle.rules.specs.Calls.{solveCall}
use Rattle.rules.specs.Numbers as numbers
use Rattle.rules.specs.Numbers.{number}
use Rattle.rules.specs.declared.Refusal.{Refusal}
use Rattle.laws.proofs.Numbers.{number-injective}
use Rattle.solve_finish.specs.Told.{toldFinish}
use Rattle.solve_finish.specs.declared.Finish.{Finish}
use Rattle.solve_finish.specs.declared.Finish.TheVariants.{Solved, Unsolved}
use Rattle.solve.specs.declared.Solution.{Solution}
use Rattle.solve.specs.Told.{toldOutcome, numberOutcome, solutionAs}
use Rattle.solve.specs.Theorems.{OneResult, SolveDetermined, SolveNumbered}

finish-injective : (a b : Finish) (j k : ℕ) → toldFinish a j ≡ toldFinish b k → (a ≡ b) × (j ≡ k)
finish-injective (Solved x y) (Solved x' y') j k e = let p : x ≡ x' = cc in let q : y ≡ y' = cc in let r : j ≡ k = cc in (ap₂ Solved p q, r)
finish-injective (Solved x y) (Unsolved z) j k e = absurd (cc)
finish-injective (Unsolved x) (Solved y z) j k e = absurd (cc)
finish-injective (Unsolved x) (Unsolved y) j k e = let p : x ≡ y = cc in let r : j ≡ k = cc in (ap Unsolved p, r)

outcome-injective : (a b : Result Finish Refusal) (j k : ℕ) → toldOutcome a j ≡ toldOutcome b k → (a ≡ b) × (j ≡ k)
outcome-injective (Ok f) (Ok g) j k e = let h = finish-injective f g j k e in (ap Ok h.0, h.1)
outcome-injective (Ok (Solved x y)) (Err r) j k e = absurd (cc)
outcome-injective (Ok (Unsolved x)) (Err r) j k e = absurd (cc)
outcome-injective (Err r) (Ok (Solved y z)) j k e = absurd (cc)
outcome-injective (Err r) (Ok (Unsolved y)) j k e = absurd (cc)
outcome-injective (Err r) (Err s) j k e = let q : j ≡ k = cc in (ap Err (number-injective r s (cc)), q)

pub one-result : (a b : Solution) (result result' work work' : List ℕ) → solutionAs a result work ≡ solutionAs b result' work'
    → OneResult a b result result' work work'
one-result a b result result' work work' e =
    let o = outcome-injective a.outcome b.outcome a.rounds b.rounds (ap (λ (s : calls.Solution). s.answer) e) in
    record {
      outcomes = o.0;
      rounds = o.1;
      results = ap (λ (s : calls.Solution). s.result) e;
      works = ap (λ (s : calls.Solution). s.work) e;
    }

pub outcome-in : (a : Result Finish Refusal) (k : ℕ) → numberOutcome a ≡ numbers.refusalOf (toldOutcome a k)
unfolding numbers.refusalOf
outcome-in (Ok (Solved b n)) k = refl
outcome-in (Ok (Unsolved n)) k = refl
outcome-in (Err r) k = refl

pub solve-determined : SolveDetermined
solve-determined pool table set result work p q a b c d h k = one-result p q a b c d (h ∙ sym k)

pub solve-numbered : SolveNumbered
unfolding number
solve-numbered pool table set result work p a c h = outcome-in p.outcome p.rounds ∙ ap (λ (s : calls.Solution). numbers.refusalOf s.answer) h
