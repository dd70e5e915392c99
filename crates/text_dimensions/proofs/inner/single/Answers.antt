-- `inner::single` meets its contract.
use mathlib.Core.Path.{sym, ◌∙◌}
use mathlib.Core.List.{[]}
use native.Mathlib.Omega.{arith}
use Rattle.products.proofs.Places.{given-len}
use Rattle.text_dimensions.proofs.Times.{single-zero, single-put}
use Rattle.text_dimensions.proofs.inner.single.Goals as goal

pub returns-then-is_zero : goal.returns-then-is_zero
returns-then-is_zero c =
    let a = c.args in
    single-zero a.factor.kind a.factor.name a.factor.exp _ (sym c.is_zero.ensures ∙ c.if-is_zero.true) c.scalar-product.ensures

pub push-requires : goal.push-requires
push-requires c = omega (arith, given-len _ [] c.scalar-product.ensures)

pub returns : goal.returns
returns c =
    let a = c.args in
    single-put a.factor.kind a.factor.name a.factor.exp _ _ (sym c.is_zero.ensures ∙ c.if-is_zero.false) c.requires c.scalar-product.ensures c.push.ensures
