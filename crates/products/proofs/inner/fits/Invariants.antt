use mathlib.Core.Path.{◌≡◌}
use Prim.Native.Nat.{◌-◌, ◌≤◌}
use Rattle.products.specs.Told.{factorAt}
use Rattle.products.proofs.Held.{Seen}
use Rattle.products.proofs.inner.fits.Given as goal

abbrev pub invariant-loop-i : goal.invariant-loop-i
invariant-loop-i l = (1 ≤ l.i) × (l.i ≤ l.n) × (l.last ≡ factorAt l.p (l.i - 1)) × Seen l.names.pool.now l.names.table.now l.p l.i
