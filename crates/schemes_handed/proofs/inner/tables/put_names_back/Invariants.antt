use Rattle.std.proofs.Common.{◌≡◌, drop}
use Rattle.schemes_handed.specs.Tables.{backPlaces}
use Rattle.schemes_handed.proofs.inner.tables.put_names_back.Given as goal

abbrev pub invariant-loop-i : goal.invariant-loop-i
invariant-loop-i l = l.places ≡ backPlaces l.i (drop l.i l.numbers) l.initial.places
