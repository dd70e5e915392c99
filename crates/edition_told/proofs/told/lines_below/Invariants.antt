use Rattle.std.proofs.Common.{◌≡◌, map, length, take, drop, eqb}
use Rattle.std.specs.List.{flat_map, slice_split}
use Rattle.edition_told.specs.Below.{rowOf}
use Rattle.edition_told.proofs.told.lines_below.Given as goal

-- the rows so far
abbrev pub invariant-loop-line : goal.invariant-loop-line
invariant-loop-line l =
    (goal.iterator-loop-line).can_next l.line-iterator × (goal.iterator-loop-line).is_finite l.line-iterator
    × (map (λ r. r.now) l.lines.items ≡ flat_map rowOf (take (length l.yielded) (drop 1 (slice_split (λ b. eqb b 10) l.page))))
