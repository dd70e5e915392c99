-- `all_from` meets its contract. The invariant: what is left from i on decides.
use Rattle.std.proofs.Common.{sym, refl, ◌∙◌, rules, eq-eqb, ne_eqb}
use Rattle.calls_defined.proofs.Same.{same_end, same-on, same_not}
use Rattle.calls_defined.proofs.words.all_from.Goals as goal

pub loop-i-init : goal.loop-i-init
loop-i-init c = refl

pub returns-then-a-i : goal.returns-then-a-i
returns-then-a-i c =
    sym (same_not c.args.a.now c.loop-i.i c.args.word (search rules) (ne_eqb _ _ c.if-a-i.true)) ∙ c.loop-i.invariant

pub loop-i-preserved : goal.loop-i-preserved
loop-i-preserved c =
    sym (same-on c.args.a.now c.loop-i.i c.args.word (search rules) (eq-eqb _ _ c.if-a-i.false)) ∙ c.loop-i.invariant

pub returns : goal.returns
returns c =
    sym (same_end c.args.a.now c.loop-i.i c.args.word (search rules)) ∙ c.loop-i.invariant
