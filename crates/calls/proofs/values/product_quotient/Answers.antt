-- `values::product_quotient` meets its contract.
use mathlib.Core.Path.{ap, ap₂, ◌∙◌}
use Rattle.rules.specs.Base.{Got}
use Rattle.rules.specs.Values.{ProductValue, divideCall}
use Rattle.calls_defined.specs.Dispatch.{productShown}
use Rattle.calls.specs.Values.{valueShown}
use Rattle.calls.proofs.OfValues.{value-shown}
use Rattle.calls.proofs.values.product_quotient.Goals as goal

pub returns : goal.returns
returns c =
    let a = c.args in
    c.told_product.ensures ∙ ap (λ (m : Got ProductValue). valueShown m a.res.now) c.divide.ensures ∙ value-shown _ a.res.now
    ∙ ap₂ (λ (v w : ProductValue). productShown (divideCall a.pool.now a.table.now v w) a.res.now) c.product_from-p.ensures c.product_from-r.ensures
