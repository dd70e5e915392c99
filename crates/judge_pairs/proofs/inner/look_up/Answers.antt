-- What is left decides.
use mathlib.Core.Path.{sym, ◌∙◌}
use native.Mathlib.Omega.{arith}
use Rattle.judge_pairs.proofs.Turns.{found_here, found-later, found_nowhere}
use Rattle.judge_pairs.proofs.inner.look_up.Goals as goal

pub returns-then-variable-v : goal.returns-then-variable-v
returns-then-variable-v c = sym (found_here c.loop-rest.rest.now c.args.v (omega (arith, c.in-len2-up.len_at_least)) c.if-variable-v.true)
    ∙ c.loop-rest.invariant

pub loop-rest-preserved : goal.loop-rest-preserved
loop-rest-preserved c = sym (found-later c.loop-rest.rest.now c.args.v (omega (arith, c.in-len2-up.len_at_least)) c.if-variable-v.false) ∙ c.loop-rest.invariant

pub returns : goal.returns
returns c = sym (found_nowhere c.loop-rest.rest.now c.args.v (omega (arith, c.in_default.len_below))) ∙ c.loop-rest.invariant
