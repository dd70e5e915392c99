use Rattle.std.proofs.Common.{◌≡◌, ◌-◌, refl, arith, append_assoc}
use Rattle.edition_verify.specs.Verifying.{lastText}
use Rattle.edition_verify.proofs.put_last.Goals as goal

pub returns : goal.returns
unfolding lastText
returns c =
    let left : c.saturating_sub.result ≡ c.args.sheets - c.args.verified = omega arith in
    rw (
      c.in_ok-extend_from_slice-3.ensures.items,
      c.in_ok-put_number-2.ensures,
      c.in_ok-extend_from_slice-2.ensures.items,
      c.in_ok-put_number.ensures,
      c.in_ok-extend_from_slice.ensures.items,
      c.in_ok-put_sheets.ensures,
      left,
    ) (simp append_assoc refl)
