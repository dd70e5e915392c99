-- `inner::sign` meets its contract.
use Rattle.text_grammar.proofs.Points.{stays}
use Rattle.text_grammar.specs.Signs.{spelled}
use Rattle.text_grammar.proofs.Signs.{sign-spelt, sign-bad, spelled-past}
use Rattle.text_grammar.proofs.inner.sign.Goals as goal

pub returns-in_default : goal.returns-in_default
returns-in_default c = stays c.args.p (spelled _) tt (spelled-past _) tt c.in_default.not-At

pub returns-in-Ok : goal.returns-in-Ok
returns-in-Ok c = rw c.in-At.is (sign-spelt _ c.skip_blanks.ensures c.in-Ok.ensures)

pub returns-in-Err : goal.returns-in-Err
returns-in-Err c = rw c.in-At.is (sign-bad _ c.skip_blanks.ensures c.in-Err.ensures)
