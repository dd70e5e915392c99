use Rattle.solve_conflict.proofs.inner.Lines.+leave_out.Given as goal

abbrev pub decreases-leave_out : goal.decreases-leave_out
decreases-leave_out l = l.halvings
