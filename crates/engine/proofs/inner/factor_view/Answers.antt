-- `inner::factor_view` meets its contract.
use mathlib.Core.Path.{ap, ◌∙◌}
use Prim.Native.Nat.{ℕ}
use Rattle.records.specs.Views.{recOf}
use Rattle.records.specs.declared.View.TheVariants as view
use Rattle.engine.proofs.Factors.{factor-record}
use Rattle.engine.proofs.inner.factor_view.Goals as goal

pub returns : goal.returns
returns c =
    let a = c.args in
    ap (λ (w : ℕ). recOf (view.Factor a.a w a.e.den) 1) c.num_word.ensures ∙ factor-record a.a a.e.num a.e.den
