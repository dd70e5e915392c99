use mathlib.Core.Path.{◌≡◌}
use lib.ListN.{drop}
use Rattle.rules.specs.Names.{table_of, names_of, number_of}
use Rattle.laws.specs.NameTable.{start_at}
use Rattle.names.proofs.inner.search.Given as goal

abbrev pub invariant-loop-k : goal.invariant-loop-k
invariant-loop-k l =
    (l.start ≡ start_at l.table l.k)
    × (number_of l.k l.name (drop l.k (names_of (table_of l.pool l.table))) ≡ number_of l.fn.from l.name (drop l.fn.from (names_of (table_of l.pool l.table))))
