-- The answer with its two buffers as the rules tell them.
use Rattle.std.specs.Prelude as std
use Rattle.std.specs.Prelude.{Result, ◌≡◌, List, ℕ}
use Rattle.std.proofs.Math.Option.{Option}
use Rattle.rules.specs.Base.{Got, got, ◌>>=◌}
use Rattle.rules.specs.Calls.{resultAfter}
use Rattle.rules.specs.Conflicts.{Line, placesOf, manyOf, Conflicts}
use Rattle.rules.specs.Refusals.{toldBy, toldOption}
use Rattle.rules.specs.declared.Refusal.{Refusal}

abbrev pub conflictsAs : Result (std.Option ℕ) Refusal → List ℕ → List ℕ → Conflicts
conflictsAs r result work = record { answer = toldBy toldOption r; result = result; work = work }

-- this is what was found, and the result buffer holds the places
pub record FoundAs (m : Got (Option (List (Line ℕ)))) (result result' : List ℕ) (r : Result (std.Option ℕ) Refusal) : Type 0 where
  pub answer : toldBy toldOption r ≡ (m >>= λ f. got (manyOf f))
  pub buffer : result' ≡ resultAfter (m >>= λ f. got (placesOf f)) result
