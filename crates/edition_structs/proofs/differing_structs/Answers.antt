use Rattle.std.proofs.Common.{◌≡◌, ◌∙◌, ap, map}
use Rattle.std.proofs.lemmas.Result.{IfOk-weaker}
use Rattle.edition_structs.specs.Structs.{structsFrom}
use Rattle.edition_structs.specs.Compared.{differingOf, Complete, Sound}
use Rattle.edition_structs.specs.Told.{told}
use Rattle.edition_structs.proofs.Compared.{is_complete, is_sound}
use Rattle.edition_structs.proofs.differing_structs.Goals as goal

pub returns-clause-complete : goal.returns-clause-complete
returns-clause-complete c =
    let same : map told c.deref.result.now ≡ structsFrom 0 (map (λ s. s.now) c.args.sheets.now) = rw c.deref.ensures.value c.in_ok-written.ensures in
    IfOk-weaker
    c.differing_among.result
    (λ v. v.items ≡ differingOf (map told c.deref.result.now))
    (λ v. Complete (structsFrom 0 (map (λ s. s.now) c.args.sheets.now)) v.items)
    (λ v e. is_complete _ v.items (e ∙ ap differingOf same))
    c.differing_among.ensures

pub returns-clause-sound : goal.returns-clause-sound
returns-clause-sound c =
    let same : map told c.deref.result.now ≡ structsFrom 0 (map (λ s. s.now) c.args.sheets.now) = rw c.deref.ensures.value c.in_ok-written.ensures in
    IfOk-weaker
    c.differing_among.result
    (λ v. v.items ≡ differingOf (map told c.deref.result.now))
    (λ v. Sound (structsFrom 0 (map (λ s. s.now) c.args.sheets.now)) v.items)
    (λ v e. is_sound _ v.items (e ∙ ap differingOf same))
    c.differing_among.ensures
