use mathlib.Core.Path.{◌≡◌}
use mathlib.Core.List.{map}
use lib.ListN.{length, take}
use Rattle.rules.specs.Names.{table_of}
use Rattle.records.specs.Views.{recs}
use Rattle.rules.specs.Steps.{stepGiven}
use Rattle.lines_entry.proofs.StepLists.{ReadTo}
use Rattle.lines_entry.specs.Told.{stepOf}
use Rattle.lines_entry.proofs.inner.parsing.read_steps.Given as goal

abbrev pub invariant-loop-i : goal.invariant-loop-i
invariant-loop-i l =
    (length l.list ≡ 128)
    × ReadTo (stepGiven (table_of l.names.pool.now l.names.table.now) (recs l.line.types.now) l.line.earlier.now) l.line.steps.now l.i
    (map stepOf (take l.i l.list))
