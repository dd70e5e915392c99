use Rattle.std.proofs.Common.{refl, append_assoc}
use Rattle.edition_verify.proofs.put_unread.Goals as goal

pub returns : goal.returns
returns c = rw (
  c.in_ok-extend_from_slice-4.ensures.items,
  c.in_ok-put_refusal.ensures,
  c.in_ok-extend_from_slice-3.ensures.items,
  c.in_ok-put_number-2.ensures,
  c.in_ok-extend_from_slice-2.ensures.items,
  c.in_ok-put_number.ensures,
  c.in_ok-extend_from_slice.ensures.items,
) (simp append_assoc refl)
