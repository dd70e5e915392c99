-- `open_of` meets its contract.
use Rattle.std.proofs.Common.{arith}
use Rattle.replace.proofs.Opened.{open-var, open-par, open-quant, open_none}
use Rattle.replace.proofs.inner.factors.open_of.Goals as goal

pub returns-in-11 : goal.returns-in-11
returns-in-11 c = open-var c.args.f c.in-11.is

pub returns-in-12 : goal.returns-in-12
returns-in-12 c = open-par c.args.f c.in-12.is

pub returns-in-15 : goal.returns-in-15
returns-in-15 c = open-quant c.args.f c.in-15.is

pub returns-in_default : goal.returns-in_default
returns-in_default c = open_none c.args.f (omega arith) (omega arith) (omega arith)
