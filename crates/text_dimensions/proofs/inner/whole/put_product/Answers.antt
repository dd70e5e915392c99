-- `inner::whole::put_product` meets its contract.
use Rattle.std.proofs.Common.{arith, sym, ◌∙◌, rules}
use Rattle.products.proofs.Places.{length-product}
use Rattle.products.specs.Told.{productOf}
use Rattle.text_dimensions.proofs.Whole.{written-length}
use Rattle.text_dimensions.proofs.inner.whole.put_product.Goals as goal

pub returns : goal.returns
returns c =
    let q = c.args.q in
    let sound = c.requires.sound in
    let few = c.requires.few _ _ c.in-Ok.is in
    let put = c.product.ensures.words (omega (arith, few, written-length (productOf q), length-product q sound.long sound.few, sound.few)) in
    rw (c.in-Ok.is, c.in-Ok-r.is) (sym (sym put ∙ (search rules)))
