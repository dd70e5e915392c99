-- `inner::whole::enter_dimension` meets its contract.
use mathlib.Core.List.{[]}
use native.Mathlib.Omega.{arith}
use Rattle.products.proofs.Held.{well-sound}
use Rattle.products.proofs.Places.{length-product}
use Rattle.text_names.proofs.Effects.{ready-few, ready-count, ready_on}
use Rattle.text_names.proofs.Inside.{inside-column, inside-spelled}
use Rattle.text_dimensions.proofs.Whole.{dimension-done}
use Rattle.text_dimensions.proofs.inner.whole.enter_dimension.Goals as goal

pub count-now-requires : goal.count-now-requires
count-now-requires c =
    record { small = omega arith; few = ready-few c.requires }

pub enter_factors-f-requires : goal.enter_factors-f-requires
enter_factors-f-requires c =
    ready_on (inside-spelled _) c.mark-a.ensures.reads (ready_on inside-column c.next_sign-c.ensures (ready-count 1 _ c.requires c.count-now.ensures))

pub next_sign-e-requires : goal.next_sign-e-requires
next_sign-e-requires c =
    (c.enter_factors-f.ensures.1 []).reads.within

pub count-stand-requires : goal.count-stand-requires
count-stand-requires c =
    record { small = omega (arith, c.enter_factors-f.ensures.0.few); few = (λ k n e. ((c.enter_factors-f.ensures.1 []).kept.room k n e).records) }

pub put_product-requires : goal.put_product-requires
put_product-requires c =
    record { few = ready-few c.requires; sound = well-sound c.enter_factors-f.ensures.0 }

pub returns : goal.returns
returns c =
    let well = c.enter_factors-f.ensures.0 in
    dimension-done c.enter_factors-f.result.product _ _ c.requires c.next_sign-c.ensures c.place_of.ensures c.count-now.ensures c.mark-a.ensures.reads
    (c.enter_factors-f.ensures.1 _) c.next_sign-e.ensures c.place_of-2.ensures
    (length-product _ well.long well.few) c.count-stand.ensures c.put_product.ensures c.mark-at.ensures.reads
