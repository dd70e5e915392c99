-- `inner::tables::keep_names` meets its contract.
use Rattle.std.proofs.Common.{◌≡◌, refl, ap, ◌∙◌, ℕ, arith, get_or}
use Rattle.schemes_handed.specs.Tables.{ownPlaces, ownTypes}
use Rattle.schemes_handed.proofs.Tables.{own-places, own-types}
use Rattle.schemes_handed.proofs.inner.tables.keep_names.Goals as goal

pub count-x-end-requires : goal.count-x-end-requires
count-x-end-requires c = c.args.names.good.words

pub loop-x-init : goal.loop-x-init
unfolding ownPlaces ownTypes
loop-x-init c = (refl, refl)

pub loop-x-preserved : goal.loop-x-preserved
loop-x-preserved c =
    let l = c.loop-x in
    (own-places l.x _ _ _ l.invariant.0 c.put.ensures, own-types l.x _ _ _ l.invariant.1 c.put_one.ensures)

pub returns : goal.returns
returns c =
    let l = c.loop-x in
    let a = c.args in
    let e : l.x ≡ get_or a.names.table.now 0 0 = omega (arith, c.loop-x-test.false, c.count-x-end.ensures) in
    (l.invariant.0 ∙ ap (λ (k : ℕ). ownPlaces k a.places.now) e, l.invariant.1 ∙ ap (λ (k : ℕ). ownTypes k a.v.now) e)
