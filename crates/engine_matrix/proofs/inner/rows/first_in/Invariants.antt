use mathlib.Core.Path.{◌≡◌}
use mathlib.Core.Bool.{true}
use Prim.Native.Nat.{ℕ, ◌<◌}
use lib.ListN.{get_or}
use Rattle.rules.specs.Exponents.{nought, isZero}
use Rattle.engine_matrix.specs.Told.{row_in}
use Rattle.engine_matrix.proofs.inner.rows.first_in.Given as goal

abbrev pub invariant-loop-j : goal.invariant-loop-j
invariant-loop-j l = (i : ℕ) → i < l.j → isZero (get_or (row_in l.r) i nought) ≡ true
