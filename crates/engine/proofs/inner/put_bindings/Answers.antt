-- `inner::put_bindings` meets its contract. The invariant: the values so far.
use mathlib.Core.Path.{ap, ◌∙◌, sym}
use mathlib.Core.List.{[], map}
use native.Mathlib.Omega.{arith}
use lib.ListN.{get_or}
use Rattle.std.proofs.lemmas.List.{length-map}
use Rattle.rules.specs.Base.{collect}
use Rattle.rules.specs.Writing.{writeBinding}
use Rattle.rules.specs.Elimination.{Row, ◌gets◌, boundBy}
use Rattle.types.proofs.Written.{writes-none}
use Rattle.engine_matrix.specs.Told.{row_in}
use Rattle.engine_matrix.specs.Machine.{colsIn, bound}
use Rattle.engine.proofs.Factors.{parts-on, parts-done}
use Rattle.engine.proofs.Written.{values-long, value-at}
use Rattle.engine.proofs.inner.put_bindings.Goals as goal

pub loop-i-init : goal.loop-i-init
unfolding collect
loop-i-init c = writes-none c.args.out.now

pub row_at-requires : goal.row_at-requires
row_at-requires c = record { place = omega (arith, c.loop-i-test.true, c.args.m.room) }

pub loop-i-preserved : goal.loop-i-preserved
loop-i-preserved c =
    let m = c.args.m in
    let cols = colsIn c.args.k in
    let i = c.loop-i.i in
    parts-on writeBinding (map (boundBy cols) (bound m)) i (boundBy cols (0 gets [])) (boundBy cols (get_or m.names i 0 gets row_in c.row_at.result))
    (omega (arith, c.loop-i-test.true, length-map (bound m) (boundBy cols), values-long m))
    (ap (λ (x : Row). boundBy cols (get_or m.names i 0 gets x)) c.row_at.ensures ∙ sym (value-at m cols i c.loop-i-test.true))
    c.loop-i.invariant c.put_binding.ensures

pub returns : goal.returns
returns c =
    let m = c.args.m in
    let cols = colsIn c.args.k in
    parts-done writeBinding (map (boundBy cols) (bound m)) c.loop-i.i
    (omega (arith, c.loop-i-test.false, length-map (bound m) (boundBy cols), values-long m)) c.loop-i.invariant
