use Rattle.std.specs.Prelude.{take}
use Rattle.edition_checks.specs.Counts.{CountsApart}
use Rattle.edition_checks.specs.Given.{given_of}
use Rattle.edition_text.proofs.apart.tell_each.Given as goal

-- the files so far are counted
abbrev pub invariant-loop-file : goal.invariant-loop-file
invariant-loop-file g l = CountsApart (given_of (take l.file-index l.given)) l.totals.sheets l.totals.accepted
