use Rattle.std.specs.Prelude.{◌≡◌, ◌++◌, drop}
use Rattle.rules.specs.Names.{table_of, names_of}
use Rattle.edition_look_alikes.specs.Alike.{withUnseen}
use Rattle.edition_look_alikes.proofs.with_unseen.Given as goal

abbrev pub invariant-loop-number : goal.invariant-loop-number
invariant-loop-number l =
    let ns = names_of (table_of l.names.pool.now l.names.table.now) in
    l.numbers.items ++ withUnseen l.number (drop l.number ns) ≡ withUnseen 0 ns
