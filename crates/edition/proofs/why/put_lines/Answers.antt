-- `put_lines` meets its contract: the lines of the places before the index are put.
use Rattle.std.proofs.Common.{arith}
use Rattle.rules.specs.Base.{collect}
use Rattle.text_spell.proofs.Sinks.{nothing, then, cut}
use Rattle.edition.specs.Why.{whyLine}
use Rattle.edition.proofs.Each.{each-more, each-rest}
use Rattle.edition.proofs.why.put_lines.Goals as goal

pub loop-place-init : goal.loop-place-init
unfolding collect
loop-place-init g c = nothing _

pub returns-in_err-put_line : goal.returns-in_err-put_line
unfolding whyLine
returns-in_err-put_line g c =
    let line = rw c.constraint_line.ensures at c.in_err-put_line.ensures in
    rw (each-rest (whyLine c.args.name.now c.args.text.now) c.args.places.now c.loop-place.place-index 0 (omega arith))
    (then _ c.loop-place.invariant (cut _ _ c.from_residual.ensures.0 line))

pub loop-place-preserved : goal.loop-place-preserved
unfolding whyLine
loop-place-preserved g c =
    let line = rw c.constraint_line.ensures at c.in_ok-put_line.ensures in
    rw (each-more (whyLine c.args.name.now c.args.text.now) c.args.places.now c.loop-place.place-index 0 (omega arith)) (then _ c.loop-place.invariant line)
