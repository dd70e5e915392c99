-- `inner::next_is` meets its contract.
use Rattle.std.proofs.Common.{◌≡◌, ◌∙◌, false, length, arith, nat_lt}
use Rattle.std.proofs.lemmas.Bool.Decides.{nat_tests}
use Rattle.text_grammar.proofs.Points.{begins-so, begins-not, none_begins}
use Rattle.text_grammar.proofs.inner.next_is.Goals as goal

pub returns-in_default : goal.returns-in_default
returns-in_default c = none_begins _ c.args.p c.args.b c.in_default.not-At

pub returns-then-i-line : goal.returns-then-i-line
returns-then-i-line c = rw c.in-At.is (begins-so _ c.skip_blanks-i.ensures (omega arith))

pub returns-else-i-line : goal.returns-else-i-line
returns-else-i-line c =
    let e : nat_lt c.skip_blanks-i.result (length c.args.line.now) ≡ false = grind (arith, nat_tests) in
    rw c.in-At.is (e ∙ begins-not _ c.skip_blanks-i.ensures (omega arith))
