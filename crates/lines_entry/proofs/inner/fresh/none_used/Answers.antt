-- `none_used` meets its contract.
use mathlib.Core.Path.{refl, sym, ap, ◌∙◌}
use mathlib.Core.Bool.{not}
use Rattle.rules.specs.Base.{all}
use Rattle.std.proofs.lemmas.List.{drop_all}
use Rattle.lines_entry.proofs.Used.{all-hit, all-miss}
use Rattle.lines_entry.proofs.inner.fresh.none_used.Goals as goal

pub loop-i-init : goal.loop-i-init
loop-i-init c = refl

pub returns-then-one_uses : goal.returns-then-one_uses
returns-then-one_uses c = all-miss _ _ c.loop-i-test.true _ (ap not (sym c.one_uses.ensures ∙ c.if-one_uses.true)) ∙ c.loop-i.invariant

pub loop-i-preserved : goal.loop-i-preserved
loop-i-preserved c = all-hit _ _ c.loop-i-test.true _ (ap not (sym c.one_uses.ensures ∙ c.if-one_uses.false)) ∙ c.loop-i.invariant

pub returns : goal.returns
unfolding all
returns c = sym (ap (all _) (drop_all _ _ c.loop-i-test.false)) ∙ c.loop-i.invariant
