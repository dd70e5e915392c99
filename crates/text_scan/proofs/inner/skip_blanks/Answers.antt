-- `inner::skip_blanks` meets its contract: what is left to skip.
use Rattle.std.specs.Prelude.{◌≡◌, length}
use Rattle.std.proofs.Common.{sym, ◌∙◌, arith}
use Rattle.text_scan.proofs.Scanned.{sign-step, blank_step, end_step}
use Rattle.text_scan.proofs.inner.skip_blanks.Goals as goal

pub returns-then-not-is_blank : goal.returns-then-not-is_blank
returns-then-not-is_blank c = record {
  within = omega (arith, c.loop-i-test.true);
  behind = c.loop-i.auto.i;
  is = c.loop-i.invariant ∙ sign-step _ c.loop-i.i c.loop-i-test.true (sym c.is_blank.ensures ∙ c.if-not-is_blank.true);
}

pub loop-i-preserved : goal.loop-i-preserved
loop-i-preserved c = c.loop-i.invariant ∙ blank_step _ c.loop-i.i c.loop-i-test.true (sym c.is_blank.ensures ∙ c.if-not-is_blank.false)

pub returns : goal.returns
returns c =
    let end : c.loop-i.i ≡ length c.args.line.now = omega (arith, c.requires, c.loop-i.auto.i-end, c.loop-i-test.false) in
    record { within = omega arith; behind = c.requires; is = c.loop-i.invariant ∙ rw end (end_step c.args.line.now _ (omega arith)) }
