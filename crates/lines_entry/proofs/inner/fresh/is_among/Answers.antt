-- `inner::fresh::is_among` meets its contract.
use mathlib.Core.Path.{sym, ap, ◌∙◌}
use lib.Dec.{eqb}
use Rattle.rules.specs.Base.{any}
use Rattle.std.proofs.lemmas.List.{drop_all}
use Rattle.lines_entry.proofs.Used.{among-hit, among-miss}
use Rattle.lines_entry.proofs.inner.fresh.is_among.Goals as goal

pub returns-then-x-lent : goal.returns-then-x-lent
returns-then-x-lent c = let n = c.args.lent.now in let i = c.loop-i.i in among-hit n i c.loop-i-test.true _ c.if-x-lent.true ∙ c.loop-i.invariant

pub loop-i-preserved : goal.loop-i-preserved
loop-i-preserved c = let n = c.args.lent.now in let i = c.loop-i.i in among-miss n i c.loop-i-test.true _ c.if-x-lent.false ∙ c.loop-i.invariant

pub returns : goal.returns
unfolding any
returns c = sym (ap (any (eqb c.args.x)) (drop_all _ _ c.loop-i-test.false)) ∙ c.loop-i.invariant
