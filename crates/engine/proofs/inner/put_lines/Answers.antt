-- `inner::put_lines` meets its contract. The invariant: the rows so far.
use mathlib.Core.Path.{ap, ◌∙◌, sym}
use mathlib.Core.List.{[], map}
use Prim.Native.Nat.{ℕ}
use native.Mathlib.Omega.{arith}
use Rattle.std.proofs.lemmas.List.{length-map}
use Rattle.rules.specs.Base.{collect}
use Rattle.rules.specs.Trees.{Con, is_scalar}
use Rattle.rules.specs.Writing.{writeCon}
use Rattle.rules.specs.Elimination.{Row, factors}
use Rattle.types.proofs.Written.{writes-none}
use Rattle.engine_matrix.specs.Told.{row_in}
use Rattle.engine_matrix.specs.Machine.{colsIn, staying}
use Rattle.engine.proofs.Factors.{parts-on, parts-done}
use Rattle.engine.proofs.Written.{rows-long, line-at}
use Rattle.engine.proofs.inner.put_lines.Goals as goal

pub loop-i-init : goal.loop-i-init
unfolding collect
loop-i-init c = writes-none c.args.out.now

pub row_at-requires : goal.row_at-requires
row_at-requires c = record { place = omega (arith, c.loop-i-test.true, c.args.m.room) }

pub loop-i-preserved : goal.loop-i-preserved
loop-i-preserved c =
    let m = c.args.m in
    let F : Row → Con ℕ = λ r. is_scalar (factors (colsIn c.args.k) r) in
    parts-on writeCon (map F (staying m)) c.loop-i.i (F []) (F (row_in c.row_at.result))
    (omega (arith, c.loop-i-test.true, length-map (staying m) F, rows-long m))
    (ap F c.row_at.ensures ∙ sym (line-at m (colsIn c.args.k) c.loop-i.i c.loop-i-test.true)) c.loop-i.invariant c.put_line.ensures

pub returns : goal.returns
returns c =
    let m = c.args.m in
    let F : Row → Con ℕ = λ r. is_scalar (factors (colsIn c.args.k) r) in
    parts-done writeCon (map F (staying m)) c.loop-i.i (omega (arith, c.loop-i-test.false, length-map (staying m) F, rows-long m)) c.loop-i.invariant
