use Rattle.std.specs.Prelude.{◌≡◌, ◌+◌, ◌++◌, [], drop, get_or}
use Rattle.rules.specs.Names.{table_of, names_of}
use Rattle.edition_look_alikes.specs.Alike.{alikeTo}
use Rattle.edition_look_alikes.proofs.push_pairs.Given as goal

abbrev pub invariant-loop-second : goal.invariant-loop-second
invariant-loop-second l =
    let ns = names_of (table_of l.names.pool.now l.names.table.now) in
    l.pairs.items ++ alikeTo l.first (get_or ns l.first []) l.second (drop l.second ns)
    ≡ l.initial.pairs.items ++ alikeTo l.first (get_or ns l.first []) (l.first + 1) (drop (l.first + 1) ns)
