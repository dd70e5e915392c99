use Rattle.text_grammar.specs.Points.{left_at}
use Rattle.text_dimensions.proofs.Factors.{Following}
use Rattle.text_dimensions.proofs.inner.factors.more_factors.Given as goal

abbrev pub invariant-loop-a : goal.invariant-loop-a
invariant-loop-a l =
    Following l.line l.fn.first.end.at l.fn.first.product l.initial.pool l.initial.table l.fn.first.end.stand l.f.end.at l.f.product l.pool l.table
    l.f.end.stand

abbrev pub decreases-loop-a : goal.decreases-loop-a
decreases-loop-a l = left_at l.line l.f.end.at
