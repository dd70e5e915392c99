use Rattle.std.proofs.Common.{arith}
use Rattle.records.specs.Found.{Words32}
use Rattle.edition_certificates.proofs.Standing.{short, read, lines-stand, few, proposed}
use Rattle.edition_certificates.proofs.inner.proposed.Goals as goal

pub invariant_of-lines : goal.invariant_of-lines
invariant_of-lines c =
    let w : Words32 c.args.certificate.now = record { word = λ i. (c.type_inv.certificate i).fits } in
    let p = read _ _ _ w c.requires.given in
    record { near = omega (arith, short _ _ _ w c.requires.given); trees = (p.0, lines-stand _ _ _ w c.requires.given p.0 p.1) }

pub all_proposed-requires : goal.all_proposed-requires
all_proposed-requires c =
    let w : Words32 c.args.certificate.now = record { word = λ i. (c.type_inv.certificate i).fits } in
    record { few = few _ _ _ w c.requires.given _ (search) }

pub returns : goal.returns
returns c =
    let w : Words32 c.args.certificate.now = record { word = λ i. (c.type_inv.certificate i).fits } in
    proposed _ _ _ w c.requires.given _ (search) _ c.all_proposed.ensures
