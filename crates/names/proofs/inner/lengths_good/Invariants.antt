use mathlib.Core.Path.{◌≡◌}
use lib.ListN.{drop}
use Rattle.rules.specs.Names.{lengthsGood}
use Rattle.laws.specs.NameTable.{endsOf}
use Rattle.names.proofs.inner.lengths_good.Given as goal

abbrev pub invariant-loop-k : goal.invariant-loop-k
invariant-loop-k l = lengthsGood l.at (drop l.k (endsOf l.table)) ≡ lengthsGood 0 (endsOf l.table)
