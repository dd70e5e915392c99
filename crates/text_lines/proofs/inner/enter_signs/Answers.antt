-- `inner::enter_signs` meets its contract.
use Rattle.std.proofs.Common.{rules}
use Rattle.text_grammar.proofs.Points.{NotAt}
use Rattle.text_lines.proofs.Statements.{blank-done, over-no-place}
use Rattle.text_lines.proofs.inner.enter_signs.Goals as goal

pub returns-in_default-clause-done : goal.returns-in_default-clause-done
returns-in_default-clause-done c = rw c.in-At.is (blank-done (rw c.in-At.is at c.requires) c.if-i-line.false)

pub returns-in_default-2-clause-done : goal.returns-in_default-2-clause-done
returns-in_default-2-clause-done c =
    let n : NotAt c.args.from.at = search rules in
    blank-done c.requires (over-no-place _ c.args.from.at n)
