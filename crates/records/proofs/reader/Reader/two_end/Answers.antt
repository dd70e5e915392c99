use Rattle.records.proofs.Parts.{two-fail, two-step}
use Rattle.records.proofs.reader.Reader.two_end.Goals as goal

pub returns : goal.returns
returns c = let a = c.args in two-step a.self a.at c.in_ok-second.second c.in_ok-second.ensures c.type_end-2.result c.type_end-2.ensures

pub returns-in_err-second : goal.returns-in_err-second
returns-in_err-second c = let a = c.args in rw c.from_residual.ensures (two-fail a.self a.at c.in_err-second.ensures)
