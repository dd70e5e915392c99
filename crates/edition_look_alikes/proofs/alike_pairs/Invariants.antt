use Rattle.std.specs.Prelude.{◌≡◌, ◌++◌, drop}
use Rattle.rules.specs.Names.{table_of, names_of}
use Rattle.edition_look_alikes.specs.Alike.{alikePairs}
use Rattle.edition_look_alikes.proofs.alike_pairs.Given as goal

abbrev pub invariant-loop-first : goal.invariant-loop-first
invariant-loop-first l =
    let ns = names_of (table_of l.names.pool.now l.names.table.now) in
    l.pairs.items ++ alikePairs l.first (drop l.first ns) ≡ alikePairs 0 ns
