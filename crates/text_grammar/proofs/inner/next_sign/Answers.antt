-- `inner::next_sign` meets its contract.
use Rattle.rules.specs.Grammar.{column}
use Rattle.text_grammar.proofs.Points.{sign-there, stays, no_column, column-past}
use Rattle.text_grammar.proofs.inner.next_sign.Goals as goal

pub returns-in_default : goal.returns-in_default
returns-in_default c = let n = c.in_default.not-At in stays c.args.p column 0 column-past (no_column c.args.p n) n

pub returns : goal.returns
returns c = rw c.in-At.is (sign-there c.skip_blanks.ensures)
