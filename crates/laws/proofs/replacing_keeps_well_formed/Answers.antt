use Rattle.laws.proofs.KeepsGood.{product-kept, ty_kept, con-kept, binding-kept}
use Rattle.laws.proofs.replacing_keeps_well_formed.Goals as goal

pub returns : goal.returns
returns g c = λ ν law held q look bound. record {
  types = λ t u h e. (ty_kept ν law held q look bound t h).holds u e;
  products = λ p r h e. (product-kept ν law held q look bound p h).holds r e;
  constraints = λ k d h e. (con-kept ν law held q look bound k h).holds d e;
  bound = λ b d h e. (binding-kept ν law held q look bound b h).holds d e;
}
