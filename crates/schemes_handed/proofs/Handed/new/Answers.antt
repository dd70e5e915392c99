use Rattle.std.proofs.Common.{ap}
use Rattle.std.specs.Prelude.{not}
use Rattle.schemes_handed.proofs.Numbers.{too_many, one-unheld, one_held, numbers-held, asked-held}
use Rattle.schemes_handed.proofs.Handed.new.Goals as goal

pub returns-then-numbers-gt-RECORDS-clause-answer : goal.returns-then-numbers-gt-RECORDS-clause-answer
returns-then-numbers-gt-RECORDS-clause-answer c = let a = c.args in too_many a.names.pool.now a.names.table.now a.numbers.now c.if-numbers-gt-RECORDS.true

pub returns-then-not-is_held-clause-answer : goal.returns-then-not-is_held-clause-answer
returns-then-not-is_held-clause-answer c =
    let a = c.args in
    let l = c.loop-x in
    one-unheld a.names.pool.now a.names.table.now a.numbers.now l.x-index l.invariant c.is_held.result
    c.if-numbers-gt-RECORDS.false c.loop-x-test.true c.is_held.ensures (ap not c.if-not-is_held.true)

pub loop-x-preserved : goal.loop-x-preserved
loop-x-preserved c =
    let a = c.args in
    let l = c.loop-x in
    one_held a.names.pool.now a.names.table.now a.numbers.now l.x-index l.invariant c.is_held.result c.loop-x-test.true c.is_held.ensures
    (ap not c.if-not-is_held.false)

pub invariant_of-result : goal.invariant_of-result
invariant_of-result c = let a = c.args in record {
  few = c.if-numbers-gt-RECORDS.false;
  held = numbers-held a.names.pool.now a.names.table.now a.numbers.now c.loop-x.x-index c.loop-x.invariant c.loop-x-test.false;
}

pub returns-clause-answer : goal.returns-clause-answer
returns-clause-answer c =
    let a = c.args in
    asked-held a.names.pool.now a.names.table.now a.numbers.now c.loop-x.x-index c.loop-x.invariant c.if-numbers-gt-RECORDS.false c.loop-x-test.false
