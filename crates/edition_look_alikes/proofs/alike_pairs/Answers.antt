use Rattle.std.proofs.Common.{arith, rules, ◌<◌, length}
use Rattle.rules.specs.Names.{table_of, names_of}
use Rattle.laws.proofs.NameTable.{good-laid, length-names}
use Rattle.edition_look_alikes.proofs.Runs.{pairs_more, pairs_done}
use Rattle.edition_look_alikes.proofs.alike_pairs.Goals as goal

pub loop-first-preserved : goal.loop-first-preserved
loop-first-preserved c =
    let here : c.loop-first.first < length (names_of (table_of c.args.names.pool.now c.args.names.table.now))
    = omega (arith, length-names (good-laid c.args.names.good), c.count-first-end.ensures) in
    pairs_more _ _ here _ _ c.loop-first.invariant _ (search rules)

pub returns : goal.returns
returns c = pairs_done _ c.loop-first.first (omega (arith, length-names (good-laid c.args.names.good), c.count-first-end.ensures)) _ _ c.loop-first.invariant
