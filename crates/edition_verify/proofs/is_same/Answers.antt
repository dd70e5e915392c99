use Rattle.edition_verify.proofs.Going.{same-told}
use Rattle.edition_verify.proofs.is_same.Goals as goal

pub returns : goal.returns
returns c = same-told c.args.a.now c.args.b.now c.eq.result c.eq.ensures
