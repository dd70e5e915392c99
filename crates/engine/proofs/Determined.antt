-- The contract leaves no choice, and the answer has the number of its outcome.
use Rattle.std.specs.Prelude.{◌≡◌, refl, ℕ, Ok, Err}
use Rattle.std.proofs.Math.Path.{ap}
use Rattle.std.proofs.Common.{sym, ◌∙◌}
use Rattle.laws.proofs.Numbers.{number-injective}
use Rattle.rules.specs.Numbers.{number, refusalEliminated}
use Rattle.rules.specs.Elimination.{Elimination}
use Rattle.engine.specs.declared.Eliminated.TheVariants.{Bound, Left}
use Rattle.engine.specs.Told.{Answer, toldEliminated, numberEliminated}
use Rattle.engine.specs.Theorems.{EliminateDetermined, EliminateNumbered}

told-injective : (a b : Answer) → toldEliminated a ≡ toldEliminated b → a ≡ b
told-injective (Ok (Bound x)) (Ok (Bound y)) e = let p : x ≡ y = cc in ap (λ (n : ℕ). Ok (Bound n)) p
told-injective (Ok (Bound x)) (Ok (Left y)) e = cc
told-injective (Ok (Bound x)) (Err r) e = cc
told-injective (Ok (Left x)) (Ok (Bound y)) e = cc
told-injective (Ok (Left x)) (Ok (Left y)) e = let p : x ≡ y = cc in ap (λ (n : ℕ). Ok (Left n)) p
told-injective (Ok (Left x)) (Err r) e = cc
told-injective (Err r) (Ok (Bound y)) e = cc
told-injective (Err r) (Ok (Left y)) e = cc
told-injective (Err r) (Err s) e = ap Err (number-injective r s cc)

outcome-in : (a : Answer) → numberEliminated a ≡ refusalEliminated (toldEliminated a)
unfolding refusalEliminated
outcome-in (Ok (Bound n)) = refl
outcome-in (Ok (Left n)) = refl
outcome-in (Err r) = refl

pub eliminate-determined : EliminateDetermined
eliminate-determined pool table set result work p q a b c d h k =
    let e = h ∙ sym k in
    record {
      outcomes = told-injective p q (ap (λ (s : Elimination). s.answer) e);
      results = ap (λ (s : Elimination). s.result) e;
      works = ap (λ (s : Elimination). s.work) e;
    }

pub eliminate-numbered : EliminateNumbered
unfolding number
eliminate-numbered pool table set result work p a c h = outcome-in p ∙ ap (λ (s : Elimination). refusalEliminated s.answer) h
