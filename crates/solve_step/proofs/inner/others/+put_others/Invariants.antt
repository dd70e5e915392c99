use Rattle.solve_step.proofs.inner.others.+put_others.Given as goal

abbrev pub decreases-put_others : goal.decreases-put_others
decreases-put_others l = l.others.count
