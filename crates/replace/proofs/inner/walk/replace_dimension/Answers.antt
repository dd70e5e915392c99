use Rattle.std.proofs.Common.{arith, ap, sym, subst, ◌∙◌}
use Rattle.std.proofs.Math.Option.{Option, get_or}
use Rattle.rules.specs.Trees.{Ty, opens}
use Rattle.records.specs.Holds.{openOf}
use Rattle.rules.specs.Base.{bounded}
use Rattle.laws.proofs.Untouched.{Unbound, ty_same}
use Rattle.records.proofs.Cut.{short-ty}
use Rattle.types.specs.Written.{Writes}
use Rattle.replace.specs.Well.{names}
use Rattle.replace.proofs.Touches.{none-replaced}
use Rattle.replace.proofs.Walks.{leaves}
use Rattle.replace.proofs.Dimensions.{dimension-replaced, dimension-becomes, dimension-short}
use Rattle.replace.proofs.inner.walk.replace_dimension.Goals as goal

pub returns-then-touches_product : goal.returns-then-touches_product
returns-then-touches_product c =
    let by = c.args.by in
    dimension-replaced by.names.pool.now by.names.table.now by.lent.0 c.requires.is c.in_default.ensures c.replace_product.ensures

pub returns-in_default : goal.returns-in_default
returns-in_default c =
    let by = c.args.by in
    let t = c.args.t.tree.0 in
    let none = none-replaced by.lent.0 _ (sym c.touches_product.ensures ∙ c.if-touches_product.false) in
    let same = ty_same (names by.names.pool.now by.names.table.now) bounded by.lent.0 t
    (subst (λ (u : Ty _). Unbound by.lent.0 (opens u)) c.requires.is none) in
    let short = short-ty t (dimension-short by.names.pool.now by.names.table.now c.requires.is c.requires.good) in
    leaves t same (subst (Writes _ _) (sym short) c.copy.ensures)

pub returns-in-Some-look_up : goal.returns-in-Some-look_up
returns-in-Some-look_up c =
    let by = c.args.by in
    let u = c.in-Some-look_up.bound.tree.0 in
    let e = c.in-Some-look_up.ensures in
    dimension-becomes by.names.pool.now by.names.table.now by.lent.0 c.requires.is u c.in-Some.ensures
    (ap (λ (m : Option (Ty _)). get_or m c.args.t.tree.0) (sym e)) (omega (arith, by.lent.1.tabled.few (openOf c.in-Some.o) u (sym e)))
    c.copy-in-Some-look_up.ensures

pub returns-in-None : goal.returns-in-None
returns-in-None c =
    let by = c.args.by in
    dimension-becomes by.names.pool.now by.names.table.now by.lent.0 c.requires.is c.args.t.tree.0 c.in-Some.ensures
    (ap (λ (m : Option (Ty _)). get_or m c.args.t.tree.0) (sym c.in-None.ensures))
    (dimension-short by.names.pool.now by.names.table.now c.requires.is c.requires.good)
    c.copy-in-None.ensures
