use mathlib.Core.Path.{◌≡◌}
use mathlib.Core.List.{List, map}
use Prim.Native.Nat.{ℕ, ◌-◌}
use lib.ListN.{drop}
use Rattle.rules.specs.Trees.{Open}
use Rattle.rules.specs.WellFormed.{rising}
use Rattle.rules.specs.Writing.{word_of}
use Rattle.records.specs.Good.{numbers}
use Rattle.judge_proposals.specs.Bounds.{BoundsThere}
use Rattle.judge_proposals.proofs.inner.bounds.rise.Given as goal

-- what is left to compare decides
abbrev pub invariant-loop-i : goal.invariant-loop-i
invariant-loop-i l =
    (os : List (Open ℕ)) → BoundsThere l.names.pool.now l.names.table.now l.s os →
    rising (numbers l.names.pool.now l.names.table.now).order (map word_of os)
    ≡ rising (numbers l.names.pool.now l.names.table.now).order (drop (l.i - 1) (map word_of os))
