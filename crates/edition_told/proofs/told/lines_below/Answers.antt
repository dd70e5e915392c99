-- Row after row is kept.
use Rattle.std.proofs.Common.{length, drop, eqb, rules, tests}
use Rattle.std.specs.List.{slice_split}
use Rattle.std.proofs.lemmas.Iterator.{YieldsList}
use Rattle.std.proofs.lemmas.Iterator.Adapters.{YieldsList-from_skip}
use Rattle.std.proofs.lemmas.Iterator.Splits.{YieldsList-from_slice_split}
use Rattle.std.proofs.lemmas.Iterator.Consumers.{YieldsList-at, YieldsList-turn, YieldsList-end}
use Rattle.std.proofs.lemmas.List.{length_push}
use Rattle.edition_told.proofs.Rows.{one-row, all-rows}
use Rattle.edition_told.proofs.told.lines_below.Given as given
use Rattle.edition_told.proofs.told.lines_below.Goals.{After-into_iter-line-iterator}
use Rattle.edition_told.proofs.told.lines_below.Goals as goal

-- the lines below the first
road : (c : After-into_iter-line-iterator) → YieldsList (given.iterator-loop-line).next_gives (λ l. l.now) c.into_iter-line-iterator.result
    (drop 1 (slice_split (λ b. eqb b 10) c.args.page.now))
road c =
    YieldsList-at c.into_iter-line-iterator.ensures.into_iter_gives (YieldsList-from_skip 1 (YieldsList-at c.skip-line-items.ensures.source
    (YieldsList-from_slice_split _ (λ b. eqb b 10) c.args.page.now c.split.ensures.rest c.split.ensures.done c.split.ensures.closure
    (λ x b q k. search (rules, tests)))) c.skip-line-items.ensures.count)

pub loop-line-preserved : goal.loop-line-preserved
loop-line-preserved c =
    let lines = road (goal.at.loop-line-preserved c).After-into_iter-line-iterator in
    let turn = YieldsList-turn lines c.loop-line.yielded _ c.loop-line.yielded_by _ _ _ c.in-Some.is c.next.ensures.steps in
    let made = one-row _ (length c.loop-line.yielded) _ turn.0 turn.1 c.loop-line.invariant.2 c.in_ok-push_below.ensures in
    (search rules, search rules, rw (length_push c.loop-line.yielded c.in-Some.line) made)

pub returns : goal.returns
returns c =
    let end = YieldsList-end (road (goal.at.returns c).After-into_iter-line-iterator) c.loop-line.yielded _ c.loop-line.yielded_by _ _
    c.in-None.is c.next.ensures.steps in
    all-rows c.args.page.now (length c.loop-line.yielded) end.1 c.loop-line.invariant.2
