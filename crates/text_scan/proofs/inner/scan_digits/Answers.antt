-- `inner::scan_digits` meets its contract: what was read so far.
use Rattle.text_scan.proofs.Numbers.{first-digit, one_more}
use Rattle.text_scan.proofs.inner.scan_digits.Goals as goal

pub loop-d-init : goal.loop-d-init
loop-d-init c = first-digit c.in-Some.ensures

pub loop-d-preserved : goal.loop-d-preserved
loop-d-preserved c = one_more c.loop-d.invariant c.in-Some-digit_at.ensures c.min-value.ensures
