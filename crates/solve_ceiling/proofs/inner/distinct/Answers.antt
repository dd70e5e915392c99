-- The marks are at the names of the records, and their count is the set's.
use Rattle.std.specs.Prelude.{[]}
use Rattle.solve_ceiling.proofs.inner.distinct.Goals as goal

pub returns : goal.returns
returns c =
    record { marked = c.extend.new.self.marks; counted = record { marks = c.extend.ensures [] c.new-variables.ensures; many = c.len.ensures } }
