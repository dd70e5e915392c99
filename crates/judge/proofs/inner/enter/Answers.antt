use mathlib.Core.Path.{◌∙◌}
use native.Mathlib.Omega.{arith}
use Rattle.judge.proofs.Entry.{types_long, bounds-long, many-long, set-left}
use Rattle.judge.proofs.inner.enter.Goals as goal
use Rattle.judge.proofs.inner.enter.Goals.{
  then-proposal-gt-RECORD_WORDS-via-then-proposal-gt-RECORD_WORDS,
  then-proposal-gt-RECORD_WORDS-via-else-proposal-gt-RECORD_WORDS+then-proposal-gt-RECORD_WORDS-2,
}

pub returns-then-proposal-gt-RECORD_WORDS-clause-answer : goal.returns-then-proposal-gt-RECORD_WORDS-clause-answer
returns-then-proposal-gt-RECORD_WORDS-clause-answer c =
    let a = c.args in
    elim c.then-proposal-gt-RECORD_WORDS.branch [
      | then-proposal-gt-RECORD_WORDS-via-then-proposal-gt-RECORD_WORDS w ↦
          λ es m. types_long a.set.now a.proposal.types.now a.proposal.bounds.now es a.names w.if-proposal-gt-RECORD_WORDS.true
      | then-proposal-gt-RECORD_WORDS-via-else-proposal-gt-RECORD_WORDS+then-proposal-gt-RECORD_WORDS-2 w ↦
          λ es m. bounds-long a.set.now a.proposal.types.now a.proposal.bounds.now es a.names w.if-proposal-gt-RECORD_WORDS-2.true
    ]

pub returns-then-count-gt-RECORDS-clause-answer : goal.returns-then-count-gt-RECORDS-clause-answer
returns-then-count-gt-RECORDS-clause-answer c = λ es m.
    let a = c.args in
    many-long a.set.now a.proposal.types.now a.proposal.bounds.now es a.names (omega (arith, m, c.if-count-gt-RECORDS.true))

pub returns-clause-answer : goal.returns-clause-answer
returns-clause-answer c = λ es m.
    let a = c.args in
    let left = set-left a.set.now a.proposal.types.now a.proposal.bounds.now es a.names c.if-proposal-gt-RECORD_WORDS.false in
    c.new.ensures.answer ∙ left c.if-proposal-gt-RECORD_WORDS-2.false (omega (arith, m, c.if-count-gt-RECORDS.false))

pub returns-clause-same : goal.returns-clause-same
returns-clause-same c = c.new.ensures.same
