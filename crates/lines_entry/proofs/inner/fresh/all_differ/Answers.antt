-- `inner::fresh::all_differ` meets its contract.
use mathlib.Core.Path.{sym, ap, ◌∙◌}
use Rattle.rules.specs.Calls.{differ}
use Rattle.std.proofs.lemmas.List.{drop_all}
use Rattle.lines_entry.proofs.Used.{differ-hit, differ-miss}
use Rattle.lines_entry.proofs.inner.fresh.all_differ.Goals as goal

pub returns-then-is_among : goal.returns-then-is_among
returns-then-is_among c = let n = c.args.lent.now in let i = c.loop-i.i
    in differ-hit n i c.loop-i-test.true (sym c.is_among.ensures ∙ c.if-is_among.true) ∙ c.loop-i.invariant

pub loop-i-preserved : goal.loop-i-preserved
loop-i-preserved c = let n = c.args.lent.now in let i = c.loop-i.i
    in differ-miss n i c.loop-i-test.true (sym c.is_among.ensures ∙ c.if-is_among.false) ∙ c.loop-i.invariant

pub returns : goal.returns
unfolding differ
returns c = sym (ap differ (drop_all _ _ c.loop-i-test.false)) ∙ c.loop-i.invariant
