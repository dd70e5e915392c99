use Rattle.std.proofs.Common.{◌≡◌, length, take, drop}
use Rattle.std.specs.List.{slice_split}
use Rattle.rules.specs.Base.{collect}
use Rattle.edition_certificate_file.specs.Reading.{lineFeed}
use Rattle.edition_checks.specs.Keeping.{certifiedLine}
use Rattle.edition_checks.proofs.keeping.certified_lines.Given as goal

-- the lines so far
abbrev pub invariant-loop-line : goal.invariant-loop-line
invariant-loop-line l =
    (goal.iterator-loop-line).can_next l.line-iterator × (goal.iterator-loop-line).is_finite l.line-iterator
    × (l.lines.items ≡ collect certifiedLine (take (length l.yielded) (drop 1 (slice_split lineFeed l.page))))
