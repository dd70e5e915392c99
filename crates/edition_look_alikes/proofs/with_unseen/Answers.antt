use Rattle.std.proofs.Common.{arith, rules, ◌<◌, length}
use Rattle.rules.specs.Names.{table_of, names_of}
use Rattle.laws.proofs.NameTable.{good-laid, length-names}
use Rattle.edition_look_alikes.proofs.Runs.{unseen_more, unseen_none, unseen_done}
use Rattle.edition_look_alikes.proofs.with_unseen.Goals as goal
use Rattle.edition_look_alikes.proofs.with_unseen.Goals.{then-has_unseen+in_ok-push, else-has_unseen}

pub loop-number-preserved : goal.loop-number-preserved
loop-number-preserved c =
    let here : c.loop-number.number < length (names_of (table_of c.args.names.pool.now c.args.names.table.now))
    = omega (arith, length-names (good-laid c.args.names.good), c.count-number-end.ensures) in
    elim c.if-has_unseen.branch [
      | then-has_unseen+in_ok-push w ↦ unseen_more _ _ here _ _ c.loop-number.invariant (search rules) _ (search rules)
      | else-has_unseen w ↦ rw w.numbers-is (unseen_none _ _ here _ _ c.loop-number.invariant (search rules))
    ]

pub returns : goal.returns
returns c =
    unseen_done _ c.loop-number.number (omega (arith, length-names (good-laid c.args.names.good), c.count-number-end.ensures)) _ _ c.loop-number.invariant
