use Rattle.records.proofs.reader.Reader.+factors_end.Given as goal

abbrev pub decreases-factors_end : goal.decreases-factors_end
decreases-factors_end l = l.n
