-- `values::product_inverse` meets its contract.
use mathlib.Core.Path.{ap, ◌∙◌}
use Rattle.rules.specs.Base.{Got}
use Rattle.rules.specs.Values.{ProductValue, inverseCall}
use Rattle.calls_defined.specs.Dispatch.{productShown}
use Rattle.calls.specs.Values.{valueShown}
use Rattle.calls.proofs.OfValues.{value-shown}
use Rattle.calls.proofs.values.product_inverse.Goals as goal

pub returns : goal.returns
returns c =
    let a = c.args in
    c.told_product.ensures ∙ ap (λ (m : Got ProductValue). valueShown m a.res.now) c.invert.ensures ∙ value-shown _ a.res.now
    ∙ ap (λ (v : ProductValue). productShown (inverseCall a.pool.now a.table.now v) a.res.now) c.product_from-p.ensures
