use lib.ListN.{length, get_or}
use Rattle.rules.specs.Contents.{sort}
use Rattle.records.specs.Good.{numbers}
use Rattle.queries.specs.Marks.{picked}
use Rattle.queries.proofs.SortMarks.{Sorting}
use Rattle.queries.proofs.name_set.NameSet.write_sorted.Given as goal

abbrev pub invariant-loop-x : goal.invariant-loop-x
invariant-loop-x l = Sorting (numbers l.names.pool.now l.names.table.now)
    (get_or l.names.table.now 0 0) l.initial.left.marks l.initial.out l.left.marks l.out l.k

abbrev pub decreases-loop-x : goal.decreases-loop-x
decreases-loop-x l = length (sort (numbers l.names.pool.now l.names.table.now) (picked 0 l.left.marks))
