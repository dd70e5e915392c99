use Rattle.text_columns.proofs.Cut.{Flat}
use Rattle.text_columns.proofs.inner.line_end.Given as goal

abbrev pub invariant-loop-i : goal.invariant-loop-i
invariant-loop-i l = Flat l.text l.at l.i
