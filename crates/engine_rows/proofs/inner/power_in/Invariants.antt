use mathlib.Core.Path.{◌≡◌}
use mathlib.Core.List.{List}
use Rattle.rules.specs.Names.{Bytes, numbered}
use Rattle.rules.specs.Elimination.{powerIn}
use Rattle.records.specs.Holds.{atomOf}
use Rattle.engine_rows.proofs.inner.power_in.Given as goal

abbrev pub invariant-factors : goal.invariant-factors
invariant-factors l = (names : List Bytes) → powerIn (numbered names) l.factor-iterator.factors.0 (atomOf l.a)
    ≡ powerIn (numbered names) l.fn.product.factors.0 (atomOf l.a)
