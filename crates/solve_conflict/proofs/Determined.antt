-- The contract leaves no choice: two results that it allows coincide.
use Rattle.std.specs.Prelude.{◌≡◌}
use Rattle.std.proofs.Common.{ap, sym, ◌∙◌}
use Rattle.rules.specs.Conflicts.{Conflicts}
use Rattle.rules.specs.Refusals.{toldOption}
use Rattle.laws.proofs.Numbers.{toldBy-injective, toldOption-injective}
use Rattle.solve_conflict.specs.Told.{conflictsAs}
use Rattle.solve_conflict.specs.Theorems.{ConflictDetermined}

pub conflict-determined : ConflictDetermined
conflict-determined pool table set result work p q a b c d h k =
    let e : conflictsAs p a c ≡ conflictsAs q b d = h ∙ sym k in
    record {
      answers = toldBy-injective toldOption toldOption-injective p q (ap (λ (x : Conflicts). x.answer) e);
      results = ap (λ (x : Conflicts). x.result) e;
      works = ap (λ (x : Conflicts). x.work) e;
    }
