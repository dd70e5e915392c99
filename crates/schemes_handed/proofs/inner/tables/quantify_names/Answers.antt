-- `inner::tables::quantify_names` meets its contract. The invariant: the names from i on are in the tables.
use Rattle.std.proofs.Common.{refl, ap, ◌≡◌, ◌∙◌, ◌-◌, ℕ, arith, length, drop}
use Rattle.schemes_handed.proofs.Numbers.{small}
use Rattle.schemes_handed.specs.Tables.{quantPlaces, quantTypes}
use Rattle.schemes_handed.proofs.Tables.{quant-places, quant-types, no-quant-places, no-quant-types}
use Rattle.schemes_handed.proofs.inner.tables.quantify_names.Goals as goal

pub loop-i-init : goal.loop-i-init
loop-i-init c = let n = c.args.handed.numbers.now in (no-quant-places n (length n) refl _, no-quant-types n (length n) refl _)

pub quantify_name-requires : goal.quantify_name-requires
quantify_name-requires c = let i = c.loop-i.i in let h = c.args.handed in small h.names.good h.held (i - 1) (omega (arith, c.loop-i.auto.i, c.loop-i-test.true))

pub loop-i-preserved : goal.loop-i-preserved
loop-i-preserved c =
    let l = c.loop-i in
    let n = c.args.handed.numbers.now in (
      quant-places n l.i (l.i - 1) (omega (arith, c.loop-i-test.true)) (omega (arith, l.auto.i, c.loop-i-test.true)) _ _ _ l.invariant.0
          c.quantify_name.ensures.0,
      quant-types n l.i (l.i - 1) (omega (arith, c.loop-i-test.true)) (omega (arith, l.auto.i, c.loop-i-test.true)) _ _ _ l.invariant.1
          c.quantify_name.ensures.1,
    )

pub returns : goal.returns
returns c =
    let l = c.loop-i in
    let a = c.args in
    let n = a.handed.numbers.now in
    let e : l.i ≡ 0 = omega (arith, c.loop-i-test.false) in (
      l.invariant.0 ∙ ap (λ (k : ℕ). quantPlaces (drop k n) a.places.now) e,
      l.invariant.1 ∙ ap (λ (k : ℕ). quantTypes k (drop k n) a.v.now) e,
    )
