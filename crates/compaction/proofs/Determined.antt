-- The contract leaves no choice: two results that it allows coincide; and the answer has the number of its outcome.
use Rattle.std.specs.Prelude.{◌≡◌}
use Rattle.std.proofs.Common.{sym, ◌∙◌}
use Rattle.std.proofs.Math.Path.{ap}
use Rattle.rules.specs.Numbers.{refusalIn, number}
use Rattle.laws.proofs.Numbers.{told-injective, answer-in}
use Rattle.rules.specs.Compaction.{Compacted}
use Rattle.compaction.specs.Theorems.{CompactDetermined, CompactNumbered}
use Rattle.compaction.specs.Told.{compactedAs}

pub compact-determined : CompactDetermined
compact-determined pool table sets lengths p q a b c d e f h k =
    let same : compactedAs p a c e ≡ compactedAs q b d f = h ∙ sym k in
    record {
      answer = told-injective p q (ap (λ (x : Compacted). x.answer) same);
      pools = ap (λ (x : Compacted). x.pool) same;
      tables = ap (λ (x : Compacted). x.table) same;
      lists = ap (λ (x : Compacted). x.sets) same;
    }

pub compact-numbered : CompactNumbered
unfolding number
compact-numbered pool table sets lengths p a c e h = answer-in p ∙ ap (λ (x : Compacted). refusalIn x.answer) h
