use Rattle.std.proofs.Common.{arith, ap, ◌≡◌, ℕ, ◌∙◌, drop}
use Rattle.products.proofs.Places.{at_place, at-end, length-product}
use Rattle.products.specs.Told.{productOf, tree_of, factorAt}
use Rattle.types.proofs.Factors.{write-head, write-factor, write-end}
use Rattle.types.proofs.writer.Writer.product.Goals as goal

pub loop-i-init : goal.loop-i-init
loop-i-init c =
    let p = c.args.p.now in
    let r = c.requires in
    write-head p.len (productOf p) (length-product p r.long r.few) r.few c.put.ensures

pub loop-i-preserved : goal.loop-i-preserved
loop-i-preserved c =
    let p = c.args.p.now in
    let r = c.requires in
    let i = c.loop-i.i in
    write-factor _ (productOf p) c.loop-i.invariant c.record_of.result (tree_of (factorAt p i)) _ (at_place p r.long r.few i c.loop-i-test.true)
    c.record_of.ensures
    c.put-in-loop-i.ensures

pub returns : goal.returns
returns c =
    let p = c.args.p.now in
    let r = c.requires in
    let i : c.loop-i.i ≡ p.len = omega arith in
    write-end _ (productOf p) c.loop-i.invariant (ap (λ (k : ℕ). drop k (productOf p)) i ∙ at-end p r.long r.few)
