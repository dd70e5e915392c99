-- What follows from the definitions of specs/Told: steps that were read, as the rules have them.
use Rattle.std.specs.Prelude.{◌≡◌, length, take}
use Rattle.std.proofs.Common.{arith, length-take}
use Rattle.std.proofs.lemmas.List.{length-map}
use Rattle.lines_entry.specs.declared.inner.steps.Steps.{Steps}
use Rattle.lines_entry.specs.Told.{stepOf, stepsOf}

pub steps-long : (s : Steps) → length (stepsOf s) ≡ s.len
steps-long s = omega (arith, length-map (take s.len s.list) stepOf, length-take s.len s.list, s.few, s.full)
