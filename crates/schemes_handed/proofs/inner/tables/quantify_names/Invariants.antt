use Rattle.std.proofs.Common.{◌≡◌, drop}
use Rattle.schemes_handed.specs.Tables.{quantPlaces, quantTypes}
use Rattle.schemes_handed.proofs.inner.tables.quantify_names.Given as goal

abbrev pub invariant-loop-i : goal.invariant-loop-i
invariant-loop-i l = (l.places ≡ quantPlaces (drop l.i l.numbers) l.initial.places) × (l.v ≡ quantTypes l.i (drop l.i l.numbers) l.initial.v)
