use Rattle.std.proofs.Common.{ap, sym}
use Rattle.types.proofs.OnSets.{alone, placed-alone}
use Rattle.edition_certificates.proofs.Going.{begun, one-more, not-a-line, all-told}
use Rattle.edition_certificates.proofs.inner.all_proposed.Goals as goal

pub lines-init : goal.lines-init
lines-init c =
    let lines = c.args.lines in
    let all-of = placed-alone lines.words.now lines.at lines.trees.0 in
    rw (c.new.ensures.items, c.new-2.ensures.items, c.into_iter-c-iterator.ensures.into_iter_gives, all-of) (begun lines.trees.0)

pub returns-in_default : goal.returns-in_default
returns-in_default c = not-a-line _ c.lines.invariant _ _ (ap alone c.in-Some.ensures.steps) (sym c.in_default.ensures)

pub lines-preserved : goal.lines-preserved
lines-preserved c =
    rw (c.in_ok-put.ensures.pairs, c.in_ok-put.ensures.bounds, c.len.ensures)
    (one-more _ c.lines.invariant _ _ (ap alone c.in-Some.ensures.steps) _ (sym c.in-Some-line_of.ensures))

pub returns : goal.returns
returns c =
    let p = all-told _ c.lines.invariant (ap alone c.in-None.ensures.steps.0) in
    record { lines = p.0; pairs = p.1.0; bounds = p.1.1 }
