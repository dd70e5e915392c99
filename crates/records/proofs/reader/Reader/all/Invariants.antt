use Rattle.std.proofs.Common.{◌≡◌, ◌-◌, ◌/◌, Bool, length}
use Rattle.records.specs.Good.{Chained}
use Rattle.records.specs.Readers.{PartAt}
use Rattle.records.proofs.reader.Reader.all.Given as goal

abbrev pub invariant-loop-at : goal.invariant-loop-at
invariant-loop-at l =
    let P = PartAt l.fn.self l.fn.part in
    (l.n ≡ length l.fn.self.words.now / 4)
    × ((b : Bool) → Chained P (length l.fn.self.words.now / 4) l.at b → Chained P (length l.fn.self.words.now / 4) l.fn.from b)

abbrev pub decreases-loop-at : goal.decreases-loop-at
decreases-loop-at l = l.n - l.at
