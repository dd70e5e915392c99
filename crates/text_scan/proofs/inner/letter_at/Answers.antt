-- `inner::letter_at` meets its contract.
use mathlib.Core.Path.{sym}
use native.Mathlib.Omega.{arith}
use Rattle.text_scan.proofs.Scanned.{end-name, plain-letter, no-letter}
use Rattle.text_scan.proofs.inner.letter_at.Goals as goal

pub returns-then-at-line : goal.returns-then-at-line
returns-then-at-line c = end-name _ _ (omega arith)

pub returns-then-is_plain : goal.returns-then-is_plain
returns-then-is_plain c = plain-letter _ _ (omega arith) (sym c.if-is_plain.ensures)

pub returns-then-byte-ne92 : goal.returns-then-byte-ne92
returns-then-byte-ne92 c = no-letter _ _ (omega arith) (sym c.if-is_plain.ensures) c.if-byte-ne92.true
