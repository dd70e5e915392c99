use Rattle.std.proofs.Common.{◌≡◌, ◌*◌, drop, map}
use Rattle.std.proofs.lemmas.List.Edits.{sets}
use Rattle.rules.specs.Base.{collect}
use Rattle.products.specs.Told.{valueIn}
use Rattle.calls_defined.specs.Factors.{factorWords}
use Rattle.calls_defined.proofs.inner.put_factors.Given as goal

-- what is left to store
abbrev pub invariant-loop-i : goal.invariant-loop-i
invariant-loop-i l =
    let fs = map valueIn l.factor-items in
    sets l.dst (l.i * 4) (collect factorWords (drop l.i fs)) ≡ sets l.initial.dst 0 (collect factorWords fs)
