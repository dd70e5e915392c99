-- `write_good` meets its contract: by what the lines put.
use Rattle.std.specs.Prelude.{Ok}
use Rattle.std.proofs.Common.{ap, ◌∙◌, arith, rules}
use Rattle.text.specs.Told.{listedAs}
use Rattle.text.proofs.Whole.{has-room, set-in, text-fits, text-given}
use Rattle.text.proofs.write_good.Goals as goal

pub write_lines-requires : goal.write_lines-requires
write_lines-requires c =
    let a = c.args in
    let x = set-in a.names.pool.now a.names.table.now a.set.now a.text.now c.requires.room (record { word = λ i. (c.type_inv.set i).fits }) c.requires.good in
    record { near = omega (arith, x.1.few); there = (x.0, x.1.lines) }

pub unreachable-requires : goal.unreachable-requires
unreachable-requires c =
    let n = c.args.names in
    let x = set-in n.pool.now n.table.now c.args.set.now c.args.text.now c.requires.room (record { word = λ i. (c.type_inv.set i).fits }) c.requires.good in
    has-room (text-fits n.pool.now n.table.now c.args.set.now c.args.text.now c.requires.room x.0 x.1) (c.in-Err.ensures x.0 x.1.lines)

pub returns : goal.returns
returns c =
    let n = c.args.names in
    let x = set-in n.pool.now n.table.now c.args.set.now c.args.text.now c.requires.room (record { word = λ i. (c.type_inv.set i).fits }) c.requires.good in
    let p = c.in-Ok.ensures x.0 x.1.lines in
    let told = text-given n.pool.now n.table.now c.args.set.now c.args.text.now c.requires.room x.0 x.1 c.write_lines.new.to.fits p in
    ap (listedAs (Ok c.write_lines.new.to.len)) (search (rules, p.same)) ∙ told
