-- `inner::read_name` meets its contract.
use Rattle.rules.specs.Grammar.{name}
use Rattle.text_grammar.proofs.Points.{stays}
use Rattle.text_grammar.specs.Factors.{noName}
use Rattle.text_grammar.proofs.Factors.{name-past, name-there, name-bad}
use Rattle.text_grammar.proofs.inner.read_name.Goals as goal

pub returns-in_default : goal.returns-in_default
returns-in_default c = stays c.args.p name noName name-past tt c.in_default.not-At

pub returns-in-Ok : goal.returns-in-Ok
returns-in-Ok c = rw c.in-At.is (name-there c.in-Ok.ensures)

pub returns-in-Err : goal.returns-in-Err
returns-in-Err c = rw c.in-At.is (name-bad c.in-Err.ensures)
