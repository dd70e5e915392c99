-- `inner::fresh::all_held` meets its contract.
use mathlib.Core.Path.{sym, ap, ◌∙◌}
use lib.Dec.{ltb}
use lib.ListN.{get_or}
use Rattle.rules.specs.Base.{all}
use Rattle.std.proofs.lemmas.List.{drop_all}
use Rattle.lines_entry.proofs.Used.{all-hit, all-miss}
use Rattle.lines_entry.proofs.inner.fresh.all_held.Goals as goal

pub returns-then-not-is_held : goal.returns-then-not-is_held
returns-then-not-is_held c = let n = c.args.lent.now in let i = c.loop-i.i
    in all-miss n i c.loop-i-test.true (λ x. ltb x (get_or c.args.names.table.now 0 0)) (sym c.is_held.ensures ∙ c.if-not-is_held.true) ∙ c.loop-i.invariant

pub loop-i-preserved : goal.loop-i-preserved
loop-i-preserved c = let n = c.args.lent.now in let i = c.loop-i.i
    in all-hit n i c.loop-i-test.true (λ x. ltb x (get_or c.args.names.table.now 0 0)) (sym c.is_held.ensures ∙ c.if-not-is_held.false) ∙ c.loop-i.invariant

pub returns : goal.returns
unfolding all
returns c = sym (ap (all (λ x. ltb x (get_or c.args.names.table.now 0 0))) (drop_all _ _ c.loop-i-test.false)) ∙ c.loop-i.invariant
