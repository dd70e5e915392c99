-- `products::inner::order` meets its contract: by the ranks of the kinds; where these are equal, by index or by name.
use Rattle.std.proofs.Common.{sym, ◌∙◌, ap, ap₂}
use Prim.Native.Nat.{compare}
use borrow.Author.Tests.{eq-eqb, ne_eqb}
use Rattle.names.specs.Told.{toldOrder}
use Rattle.products.proofs.OnKinds.{by_rank}
use Rattle.products.proofs.inner.order.Goals as goal

pub returns-in-Less : goal.returns-in-Less
returns-in-Less c =
    let kinds = c.order_numbers.ensures ∙ ap₂ compare c.rank.ensures c.rank-2.ensures in
    rw (by_rank _ _ c.requires.left c.requires.right, sym kinds ∙ ap toldOrder c.in-Less.is)

pub returns-in-Greater : goal.returns-in-Greater
returns-in-Greater c =
    let kinds = c.order_numbers.ensures ∙ ap₂ compare c.rank.ensures c.rank-2.ensures in
    rw (by_rank _ _ c.requires.left c.requires.right, sym kinds ∙ ap toldOrder c.in-Greater.is)

pub returns-then-x-eq15 : goal.returns-then-x-eq15
returns-then-x-eq15 c =
    let kinds = c.order_numbers.ensures ∙ ap₂ compare c.rank.ensures c.rank-2.ensures in
    rw (by_rank _ _ c.requires.left c.requires.right, sym kinds ∙ ap toldOrder c.in-Equal.is, eq-eqb _ _ c.if-x-eq15.true) c.order_numbers-then-x-eq15.ensures

pub returns-else-x-eq15 : goal.returns-else-x-eq15
returns-else-x-eq15 c =
    let kinds = c.order_numbers.ensures ∙ ap₂ compare c.rank.ensures c.rank-2.ensures in
    rw (by_rank _ _ c.requires.left c.requires.right, sym kinds ∙ ap toldOrder c.in-Equal.is, ne_eqb _ _ c.if-x-eq15.false) c.order.ensures
