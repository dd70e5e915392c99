use mathlib.Core.Path.{◌≡◌}
use lib.ListN.{drop}
use Rattle.rules.specs.Names.{table_of, names_of, distinct}
use Rattle.names.proofs.inner.none_again.Given as goal

abbrev pub invariant-loop-k : goal.invariant-loop-k
invariant-loop-k l = distinct (drop l.k (names_of (table_of l.pool l.table))) ≡ distinct (names_of (table_of l.pool l.table))
