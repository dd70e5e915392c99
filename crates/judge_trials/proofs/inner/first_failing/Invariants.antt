use Rattle.std.proofs.Common.{◌≡◌, List, ℕ, length}
use Rattle.rules.specs.Trees.{Con, Binding}
use Rattle.queries.specs.Marks.{Has}
use Rattle.types.proofs.OnSets.{alone}
use Rattle.types.specs.Shapes.{cons_of}
use Rattle.judge_trials.specs.Trials.{SetThere, Put}
use Rattle.judge_trials.proofs.Trials.{Going}
use Rattle.judge_trials.proofs.inner.first_failing.Given as goal

abbrev pub invariant-search : goal.invariant-search
invariant-search l = (length l.work ≡ length l.fn.work)
    × ((cs : List (Con ℕ)) (bs : List (Binding ℕ)) (xs : List ℕ) → SetThere l.names.pool.now l.names.table.now l.set cs
    → Put l.names.pool.now l.names.table.now l.places l.types bs → Has l.bounds xs
    → Going l.names.pool.now l.names.table.now l.set bs xs cs l.before (alone (cons_of l.c-iterator)))
