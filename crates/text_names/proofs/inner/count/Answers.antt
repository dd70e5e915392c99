-- `inner::count` meets its contract.
use native.Mathlib.Omega.{arith}
use Rattle.text_names.proofs.inner.count.Goals as goal

pub overflow_add-records : goal.overflow_add-records
overflow_add-records c =
    let few = c.requires.few c.in_ok-tally.tally.names c.in_ok-tally.tally.records c.in_ok-tally.was in
    omega arith
