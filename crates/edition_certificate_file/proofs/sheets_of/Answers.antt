use Rattle.std.proofs.Common.{◌∙◌, length, arith, rules, tests}
use Rattle.std.specs.List.{enumerate_from, slice_split}
use Rattle.std.proofs.lemmas.Iterator.{YieldsList}
use Rattle.std.proofs.lemmas.Iterator.Splits.{YieldsList-from_slice_split}
use Rattle.std.proofs.lemmas.Iterator.Consumers.{YieldsList-from_enumerate, YieldsList-at, YieldsList-turn, YieldsList-end}
use Rattle.std.proofs.lemmas.List.{length_push}
use Rattle.std.proofs.lemmas.List.FromFn.{length-enumerate_from}
use Rattle.edition_certificate_file.specs.Reading.{lineFeed, reached}
use Rattle.edition_certificate_file.proofs.Lines.{turn, stops, goes, ends}
use Rattle.edition_certificate_file.proofs.sheets_of.Given as given
use Rattle.edition_certificate_file.proofs.sheets_of.Goals.{After-into_iter-k-iterator}
use Rattle.edition_certificate_file.proofs.sheets_of.Goals as goal

-- the lines, each with its number
road : (c : After-into_iter-k-iterator) → YieldsList (given.iterator-loop-k).next_gives (λ p. (p.0, p.1.now)) c.into_iter-k-iterator.result
    (enumerate_from 0 (slice_split lineFeed c.args.lines.now))
road c =
    YieldsList-at c.into_iter-k-iterator.ensures.into_iter_gives (YieldsList-from_enumerate (YieldsList-at c.enumerate-k-items.ensures.source
    (YieldsList-from_slice_split _ lineFeed c.args.lines.now c.split.ensures.rest c.split.ensures.done c.split.ensures.closure
    (λ x b q k. search (rules, tests)))) c.enumerate-k-items.ensures.count)

pub returns-in_default : goal.returns-in_default
returns-in_default c =
    let lines = road (goal.at.returns-in_default c).After-into_iter-k-iterator in
    let t = turn (YieldsList-turn lines c.loop-k.yielded _ c.loop-k.yielded_by _ _ _ c.in-Some.is c.next.ensures.steps) in
    stops t (reached c.loop-k.entries c.loop-k.stage) c.loop-k.invariant.2 (search rules)

pub loop-k-preserved : goal.loop-k-preserved
loop-k-preserved c =
    let lines = road (goal.at.loop-k-preserved c).After-into_iter-k-iterator in
    let t = turn (YieldsList-turn lines c.loop-k.yielded _ c.loop-k.yielded_by _ _ _ c.in-Some.is c.next.ensures.steps) in
    let entries = reached c.loop-k.entries c.loop-k.stage in
    (search rules, search rules, rw (length_push c.loop-k.yielded (c.in-Some.k, c.in-Some.line)) (goes t entries c.loop-k.invariant.2 (search rules)))

pub returns : goal.returns
returns c =
    let end = YieldsList-end (road (goal.at.returns c).After-into_iter-k-iterator) c.loop-k.yielded _ c.loop-k.yielded_by _ _
    c.in-None.is c.next.ensures.steps in
    let lines = slice_split lineFeed c.args.lines.now in
    c.all.ensures ∙ ends lines (length c.loop-k.yielded) _ (omega (arith, end.1, length-enumerate_from 0 lines)) c.loop-k.invariant.2
