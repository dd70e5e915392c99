use Rattle.std.proofs.Common.{sym, ◌∙◌, arith}
use Rattle.edition_verify.proofs.Going.{found-here, found-later, found-nowhere}
use Rattle.edition_verify.proofs.find.Goals as goal

pub returns-then-is_same : goal.returns-then-is_same
returns-then-is_same c = found-here c.args.name.now c.args.entries.now c.loop-entry.entry-index c.entry-item.result c.entry-item.result c.loop-entry-test.true
    c.entry-item.is c.loop-entry.invariant (sym (rw c.deref.ensures.value at c.is_same.ensures) ∙ c.if-is_same.true)

pub loop-entry-preserved : goal.loop-entry-preserved
loop-entry-preserved c = found-later c.args.name.now c.args.entries.now c.loop-entry.entry-index c.entry-item.result c.entry-item.result c.loop-entry-test.true
    c.entry-item.is c.loop-entry.invariant (sym (rw c.deref.ensures.value at c.is_same.ensures) ∙ c.if-is_same.false)

pub returns : goal.returns
returns c = found-nowhere c.args.name.now c.args.entries.now c.loop-entry.entry-index (omega (arith, c.loop-entry-test.false)) c.loop-entry.invariant
