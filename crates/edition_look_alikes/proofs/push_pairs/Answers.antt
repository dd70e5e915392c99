use Rattle.std.proofs.Common.{◌≡◌, ◌<◌, arith, rules, length}
use Rattle.std.proofs.Math.Facts.{Fits-below}
use Rattle.rules.specs.Names.{table_of, names_of}
use Rattle.laws.proofs.NameTable.{good-laid, length-names}
use Rattle.edition_look_alikes.specs.Alike.{alike}
use Rattle.edition_look_alikes.proofs.Runs.{pair_more, pair_none, pair_done}
use Rattle.edition_look_alikes.proofs.push_pairs.Goals as goal
use Rattle.edition_look_alikes.proofs.push_pairs.Goals.{then-branch+in_ok-push, else-branch}

pub overflow_step-second : goal.overflow_step-second
overflow_step-second c = Fits-below {n = 257} tt (omega (arith, c.requires, (good-laid c.args.names.good).few))

pub loop-second-preserved : goal.loop-second-preserved
loop-second-preserved c =
    let here : c.loop-second.second < length (names_of (table_of c.args.names.pool.now c.args.names.table.now))
    = omega (arith, length-names (good-laid c.args.names.good), c.count-second-end.ensures) in
    let told : c.in_ok-is_alike.field-0 ≡ alike c.name-name.result.now c.name.result.now = c.in_ok-is_alike.ensures in
    elim c.if-branch.branch [
      | then-branch+in_ok-push w ↦ pair_more _ _ here _ _ _ _ c.loop-second.invariant (search (rules, told)) _ (search rules)
      | else-branch w ↦ rw w.pairs-is (pair_none _ _ here _ _ _ _ c.loop-second.invariant (search (rules, told)))
    ]

pub returns : goal.returns
returns c =
    pair_done _ c.loop-second.second (omega (arith, length-names (good-laid c.args.names.good), c.count-second-end.ensures)) _ _ _ _ c.loop-second.invariant
