use Rattle.std.proofs.Common.{◌≡◌, drop}
use Rattle.std.specs.Prelude.{◌==◌}
use Rattle.rules.specs.Base.{all}
use Rattle.calls_defined.proofs.words.all_from.Given as goal

abbrev pub invariant-loop-i : goal.invariant-loop-i
invariant-loop-i l = all (λ x. x == l.word) (drop l.i l.a) ≡ all (λ x. x == l.word) (drop l.from l.a)
