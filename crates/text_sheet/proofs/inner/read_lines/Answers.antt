-- `inner::read_lines` meets its contract: the lines so far are read.
use mathlib.Core.Path.{refl}
use native.Mathlib.Omega.{arith}
use Rattle.text_sheet.proofs.Loop.{begins, counts, goes_on, ends, place_in, stops}
use Rattle.text_sheet.proofs.inner.read_lines.Goals as goal

pub loop-line-init : goal.loop-line-init
loop-line-init c = begins _ _ c.requires

pub line_end-end-requires : goal.line_end-end-requires
line_end-end-requires c = c.loop-line.invariant.upto.within

pub read_line-requires : goal.read_line-requires
read_line-requires c =
    let k = c.loop-line.invariant.kept in
    record { good = k.good; room = k.room _ _ refl }

pub overflow_add-constraints : goal.overflow_add-constraints
overflow_add-constraints c =
    let z = c.in-Ok.ensures in
    omega (arith, counts c.loop-line.invariant c.line_end-end.ensures z)

pub overflow_add-line : goal.overflow_add-line
overflow_add-line c =
    let z = c.in-Err.ensures in
    omega (arith, c.loop-line.invariant.upto.few, c.loop-line.invariant.upto.within)

pub overflow_add-column : goal.overflow_add-column
overflow_add-column c =
    let z = c.in-Err.ensures in
    omega (arith, place_in c.loop-line.invariant c.line_end-end.ensures z)

pub returns-in-Err : goal.returns-in-Err
returns-in-Err c =
    let z = c.in-Err.ensures in
    stops c.loop-line.invariant c.line_end-end.ensures z

pub returns-then-end-text : goal.returns-then-end-text
returns-then-end-text c =
    let z = c.in-Ok.ensures in
    ends c.loop-line.invariant c.line_end-end.ensures z c.if-end-text.true

pub overflow_add-at : goal.overflow_add-at
overflow_add-at c =
    let z = c.in-Ok.ensures in
    omega (arith, c.line_end-end.ensures.within)

pub overflow_add-lines : goal.overflow_add-lines
overflow_add-lines c =
    let z = c.in-Ok.ensures in
    omega (arith, c.loop-line.invariant.upto.few, c.loop-line.invariant.upto.within)

pub loop-line-smaller : goal.loop-line-smaller
loop-line-smaller c =
    let z = c.in-Ok.ensures in
    omega (arith, c.line_end-end.ensures.within, c.line_end-end.ensures.behind, c.if-end-text.false)

pub loop-line-preserved : goal.loop-line-preserved
loop-line-preserved c =
    let z = c.in-Ok.ensures in
    goes_on c.loop-line.invariant c.line_end-end.ensures z (omega (arith, c.line_end-end.ensures.within, c.if-end-text.false))
