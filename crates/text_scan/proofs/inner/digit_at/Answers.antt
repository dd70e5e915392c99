-- `inner::digit_at` meets its contract.
use Rattle.std.proofs.Common.{arith, sym, ◌∙◌}
use Rattle.rules.specs.Grammar.{isDigit}
use Rattle.text_scan.proofs.Numbers.{stop-end, stop-other}
use Rattle.text_scan.proofs.inner.digit_at.Goals as goal

pub returns-then-line-at : goal.returns-then-line-at
returns-then-line-at c = stop-end _ _ (omega arith)

pub returns-then-not-is_ascii_digit : goal.returns-then-not-is_ascii_digit
unfolding isDigit
returns-then-not-is_ascii_digit c = stop-other _ _ (omega arith) (sym c.is_ascii_digit.ensures.value ∙ c.if-not-is_ascii_digit.true)
