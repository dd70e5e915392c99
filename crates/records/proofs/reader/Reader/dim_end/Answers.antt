use Rattle.records.proofs.Walks.{dim-many, dim-few}
use Rattle.records.proofs.reader.Reader.dim_end.Goals as goal

pub returns-then-n-gt64 : goal.returns-then-n-gt64
returns-then-n-gt64 c = let a = c.args in dim-many a.self a.at a.n c.if-n-gt64.true

pub returns : goal.returns
returns c = let a = c.args in dim-few a.self a.at a.n c.if-n-gt64.false _ c.factors_end.ensures
