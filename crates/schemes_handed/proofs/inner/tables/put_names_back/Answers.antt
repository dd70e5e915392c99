-- `inner::tables::put_names_back` meets its contract. The invariant: the names from i on are in the table.
use Rattle.std.proofs.Common.{refl, ap, ◌≡◌, ◌∙◌, ◌-◌, ℕ, arith, length, drop}
use Rattle.schemes_handed.proofs.Numbers.{small}
use Rattle.schemes_handed.specs.Tables.{backPlaces}
use Rattle.schemes_handed.proofs.Tables.{back-places, no-back-places}
use Rattle.schemes_handed.proofs.inner.tables.put_names_back.Goals as goal

pub loop-i-init : goal.loop-i-init
loop-i-init c = let n = c.args.handed.numbers.now in no-back-places n (length n) refl _

pub overflow_add-numbers : goal.overflow_add-numbers
overflow_add-numbers c =
    let i = c.loop-i.i in
    let h = c.args.handed in
    let s = small h.names.good h.held (i - 1) (omega (arith, c.loop-i.auto.i, c.loop-i-test.true)) in
    omega (arith, s)

pub loop-i-preserved : goal.loop-i-preserved
loop-i-preserved c =
    let l = c.loop-i in
    let n = c.args.handed.numbers.now in
    back-places n l.i (l.i - 1) (omega (arith, c.loop-i-test.true)) (omega (arith, l.auto.i, c.loop-i-test.true)) _ _ _ l.invariant c.put.ensures

pub returns : goal.returns
returns c =
    let l = c.loop-i in
    let a = c.args in
    let e : l.i ≡ 0 = omega (arith, c.loop-i-test.false) in
    l.invariant ∙ ap (λ (k : ℕ). backPlaces k (drop k a.handed.numbers.now) a.places.now) e
