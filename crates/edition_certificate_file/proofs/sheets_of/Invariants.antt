use Rattle.std.proofs.Common.{◌≡◌, ◌+◌, [], length, drop}
use Rattle.std.specs.List.{slice_split}
use Rattle.edition_certificate_file.specs.Reading.{between, reached, lineFeed, linesRead}
use Rattle.edition_certificate_file.proofs.sheets_of.Given as goal

-- what is read from here on is what is read of all
abbrev pub invariant-loop-k : goal.invariant-loop-k
invariant-loop-k l =
    (goal.iterator-loop-k).can_next l.k-iterator × (goal.iterator-loop-k).is_finite l.k-iterator
    × (linesRead (length l.yielded + 2) (reached l.entries l.stage) (drop (length l.yielded) (slice_split lineFeed l.lines))
    ≡ linesRead 2 ([], between) (slice_split lineFeed l.lines))
