-- `names::inner::held_again` meets its contract. The invariant: the names from j on decide.
use mathlib.Core.Path.{sym, ◌∙◌}
use Prim.Native.Nat.{◌<◌}
use native.Mathlib.Omega.{arith}
use lib.ListN.{length}
use Rattle.rules.specs.Names.{table_of, names_of}
use Rattle.laws.proofs.NameTable.{length-names}
use Rattle.names.proofs.Digests.{one-here, none_here, none-behind}
use Rattle.names.proofs.inner.held_again.Goals as goal

pub returns-then-same_held : goal.returns-then-same_held
returns-then-same_held c =
    let names = names_of (table_of c.args.pool.now c.args.table.now) in
    let held : c.loop-j.j < length names = omega (arith, length-names c.requires.laid) in
    one-here _ names c.loop-j.j (held) (sym c.if-same_held.true ∙ c.same_held.ensures) ∙ c.loop-j.invariant

pub loop-j-preserved : goal.loop-j-preserved
loop-j-preserved c =
    let names = names_of (table_of c.args.pool.now c.args.table.now) in
    let held : c.loop-j.j < length names = omega (arith, length-names c.requires.laid) in
    none_here _ names c.loop-j.j (held) (sym c.if-same_held.false ∙ c.same_held.ensures) ∙ c.loop-j.invariant

pub returns : goal.returns
returns c =
    sym (none-behind _ (names_of (table_of c.args.pool.now c.args.table.now)) c.loop-j.j (omega (arith, length-names c.requires.laid))) ∙ c.loop-j.invariant
