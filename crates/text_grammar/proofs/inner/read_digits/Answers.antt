-- `inner::read_digits` meets its contract.
use Rattle.std.proofs.Math.Path.{refl}
use Rattle.rules.specs.Grammar.{digits}
use Rattle.text_grammar.proofs.Points.{stays, digits-past, digits-there, no-digits}
use Rattle.text_grammar.proofs.inner.read_digits.Goals as goal

pub returns-in_default : goal.returns-in_default
returns-in_default c = stays c.args.p digits 0 digits-past refl c.in_default.not-At

pub returns-in-Ok : goal.returns-in-Ok
returns-in-Ok c = rw c.in-At.is (digits-there c.skip_blanks.ensures c.in-Ok.ensures)

pub returns-in-Err : goal.returns-in-Err
returns-in-Err c = rw c.in-At.is (no-digits c.skip_blanks.ensures c.in-Err.ensures)
