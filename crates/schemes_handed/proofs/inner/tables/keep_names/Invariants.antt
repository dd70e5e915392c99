use Rattle.std.proofs.Common.{◌≡◌}
use Rattle.schemes_handed.specs.Tables.{ownPlaces, ownTypes}
use Rattle.schemes_handed.proofs.inner.tables.keep_names.Given as goal

abbrev pub invariant-loop-x : goal.invariant-loop-x
invariant-loop-x l = (l.places ≡ ownPlaces l.x l.initial.places) × (l.v ≡ ownTypes l.x l.initial.v)
