use mathlib.Core.Path.{◌≡◌}
use lib.Dec.{leb}
use lib.ListN.{drop}
use Rattle.rules.specs.Base.{all}
use Rattle.compaction.proofs.inner.small.Given as goal

abbrev pub invariant-loop-n : goal.invariant-loop-n
invariant-loop-n l = all (λ n. leb n 2048) (drop l.n-index l.lengths) ≡ all (λ n. leb n 2048) l.lengths
