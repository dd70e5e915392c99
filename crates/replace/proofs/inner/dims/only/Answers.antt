-- `only` meets its contract.
use Rattle.std.specs.Prelude.{[]}
use Rattle.std.proofs.Common.{arith, ap, ◌∙◌}
use Rattle.products.specs.Told.{given}
use Rattle.products.proofs.Places.{put-given, given-len}
use Rattle.replace.proofs.inner.dims.only.Goals as goal

pub push-requires : goal.push-requires
push-requires c = omega (arith, given-len c.scalar-p.result [] c.scalar-p.ensures)

pub returns : goal.returns
returns c = λ t v. ap given c.push.ensures ∙ put-given c.scalar-p.result c.args.f [] t c.scalar-p.ensures v
