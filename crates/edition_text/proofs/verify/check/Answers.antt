use Rattle.std.specs.Prelude.{◌≡◌, ◌≤◌, List, Result, Ok, Err, IfOk}
use Rattle.laws.specs.Lists.{Every}
use Rattle.edition_certificate_file.specs.declared.Entry.{Entry}
use Rattle.edition_status.specs.declared.status.Totals.{Totals}
use Rattle.edition_verify.specs.Verifying.{Had, TrueBy, sheetsIn, verifiedIn}
use Rattle.edition_checks.specs.Counts.{CountsCertified}
use Rattle.edition_text.proofs.verify.check.Goals as goal

counted : {E : Type 0} (files : List Had) (es : List Entry) (r : Result Totals E) → IfOk r (λ t. t.sheets ≡ sheetsIn es files)
    → IfOk r (λ t. t.accepted ≡ verifiedIn es files) → IfOk r (λ t. t.sheets ≤ t.accepted → Every (TrueBy es) files)
    → IfOk r (λ t. CountsCertified files t.sheets t.accepted)
counted files es (Ok t) s a h = record { entries = es; all = s; counted = a; truth = h }
counted files es (Err e) s a h = tt

pub returns : goal.returns
returns g c =
    let v = c.verify_on.ensures in
    counted _ c.deref.result.now c.verify_on.result v.sheets v.verified v.truth
