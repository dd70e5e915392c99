use Rattle.std.proofs.Common.{append_assoc}
use Rattle.edition_verify.proofs.put_lines_refused.Goals as goal

pub returns : goal.returns
returns c = simp append_assoc at (rw c.in_ok-extend_from_slice.ensures.items at c.put_lines_reason.ensures)
