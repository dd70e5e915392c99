use Rattle.std.proofs.Common.{length, drop, [], rules, tests}
use Rattle.std.specs.List.{slice_split}
use Rattle.std.proofs.lemmas.Iterator.{YieldsList}
use Rattle.std.proofs.lemmas.Iterator.Adapters.{YieldsList-from_skip}
use Rattle.std.proofs.lemmas.Iterator.Splits.{YieldsList-from_slice_split}
use Rattle.std.proofs.lemmas.Iterator.Consumers.{YieldsList-at, YieldsList-turn, YieldsList-end}
use Rattle.std.proofs.lemmas.List.{length_push}
use Rattle.edition_certificate_file.specs.Reading.{lineFeed}
use Rattle.edition_certificate_file.proofs.Written.{one-more}
use Rattle.edition_checks.specs.Keeping.{certifiedLine}
use Rattle.edition_checks.proofs.LinesKept.{all-made, certified-indented}
use Rattle.edition_checks.proofs.keeping.certified_lines.Given as given
use Rattle.edition_checks.proofs.keeping.certified_lines.Goals.{After-into_iter-line-iterator}
use Rattle.edition_checks.proofs.keeping.certified_lines.Goals as goal

-- the lines below the first
road : (c : After-into_iter-line-iterator) → YieldsList (given.iterator-loop-line).next_gives (λ l. l.now) c.into_iter-line-iterator.result
    (drop 1 (slice_split lineFeed c.args.page.now))
road c =
    YieldsList-at c.into_iter-line-iterator.ensures.into_iter_gives (YieldsList-from_skip 1 (YieldsList-at c.skip-line-items.ensures.source
    (YieldsList-from_slice_split _ lineFeed c.args.page.now c.split.ensures.rest c.split.ensures.done c.split.ensures.closure
    (λ x b q k. search (rules, tests)))) c.skip-line-items.ensures.count)

pub loop-line-preserved : goal.loop-line-preserved
loop-line-preserved c =
    let lines = road (goal.at.loop-line-preserved c).After-into_iter-line-iterator in
    let turn = YieldsList-turn lines c.loop-line.yielded _ c.loop-line.yielded_by _ _ _ c.in-Some.is c.next.ensures.steps in
    let made = one-more certifiedLine _ [] (length c.loop-line.yielded) _ turn.0 turn.1 c.loop-line.invariant.2 c.in_ok-put_line.ensures in
    (search rules, search rules, rw (length_push c.loop-line.yielded c.in-Some.line) made)

pub returns-clause-is : goal.returns-clause-is
returns-clause-is c =
    let end = YieldsList-end (road (goal.at.returns-clause-is c).After-into_iter-line-iterator) c.loop-line.yielded _ c.loop-line.yielded_by _ _
    c.in-None.is c.next.ensures.steps in
    all-made c.args.page.now (length c.loop-line.yielded) end.1 c.loop-line.invariant.2

pub returns-clause-indented : goal.returns-clause-indented
returns-clause-indented c =
    let end = YieldsList-end (road (goal.at.returns-clause-indented c).After-into_iter-line-iterator) c.loop-line.yielded _ c.loop-line.yielded_by _ _
    c.in-None.is c.next.ensures.steps in
    let made = all-made c.args.page.now (length c.loop-line.yielded) end.1 c.loop-line.invariant.2 in
    rw made (certified-indented c.args.page.now)
