-- Whether the first variable stands among those behind it decides.
use mathlib.Core.Path.{sym, ◌∙◌}
use native.Mathlib.Omega.{arith}
use lib.ListN.{get_or}
use Rattle.judge_entries.proofs.Counting.{found-is}
use Rattle.judge_pairs.specs.Pairs.{entriesIn}
use Rattle.judge_pairs.proofs.Turns.{behind, twice_here, twice-later, twice_nowhere}
use Rattle.judge_pairs.proofs.inner.repeats.Goals as goal

pub returns-then-is_some : goal.returns-then-is_some
returns-then-is_some c =
    let ws = c.loop-rest.rest.now in
    let found = found-is (entriesIn (behind ws)) (get_or ws 0 0) _ c.look_up.ensures in
    sym (twice_here ws (omega (arith, c.in-len2-up.len_at_least)) (sym found ∙ sym c.if-is_some.ensures)) ∙ c.loop-rest.invariant

pub loop-rest-preserved : goal.loop-rest-preserved
loop-rest-preserved c =
    let ws = c.loop-rest.rest.now in
    let found = found-is (entriesIn (behind ws)) (get_or ws 0 0) _ c.look_up.ensures in
    sym (twice-later ws (omega (arith, c.in-len2-up.len_at_least)) (sym found ∙ sym c.if-is_some.ensures)) ∙ c.loop-rest.invariant

pub returns : goal.returns
returns c = sym (twice_nowhere c.loop-rest.rest.now (omega (arith, c.in_default.len_below))) ∙ c.loop-rest.invariant
