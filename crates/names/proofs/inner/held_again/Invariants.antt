use mathlib.Core.Path.{◌≡◌}
use Prim.Native.Nat.{◌+◌}
use lib.ListN.{drop}
use Rattle.rules.specs.Base.{any}
use Rattle.rules.specs.Names.{table_of, names_of, sameBytes}
use Rattle.names.specs.Digests.{nameIn}
use Rattle.names.proofs.inner.held_again.Given as goal

abbrev pub invariant-loop-j : goal.invariant-loop-j
invariant-loop-j l =
    any (sameBytes (nameIn l.pool l.table l.fn.k)) (drop l.j (names_of (table_of l.pool l.table)))
    ≡ any (sameBytes (nameIn l.pool l.table l.fn.k)) (drop (l.fn.k + 1) (names_of (table_of l.pool l.table)))
