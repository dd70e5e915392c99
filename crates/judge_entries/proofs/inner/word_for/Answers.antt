-- Whether its variable is held, and then whether a type starts at its place, decides.
use mathlib.Core.Path.{sym}
use native.Mathlib.Omega.{arith}
use borrow.Author.Tests.{ltb-true}
use lib.ListN.{get_or}
use Rattle.judge_entries.proofs.Filling.{word-there, fits-small}
use Rattle.judge_entries.proofs.inner.word_for.Goals as goal

pub overflow_add-result : goal.overflow_add-result
overflow_add-result c =
    let a = c.args in
    let held = ltb-true a.v (get_or a.names.table.now 0 0) (sym c.if-not-is_held.ensures) in
    let fits = word-there a.names.pool.now a.names.table.now a.types.now a.v c.in-Some.place _ held c.type_end.ensures c.if-is_none.ensures in
    record { fits = omega (arith, c.requires, fits-small a.names.pool.now a.names.table.now a.types.now a.v c.in-Some.place fits) }
