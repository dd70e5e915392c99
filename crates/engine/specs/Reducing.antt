-- What the rows of a set come to is what the definition says.
use Rattle.std.specs.Prelude.{ℕ}
use mathlib.Core.List.{List}
use Rattle.rules.specs.Base.{Got, ◌>>=◌}
use Rattle.rules.specs.Trees.{Con}
use Rattle.records.specs.Good.{Chain, GoodCon, numbers}
use Rattle.engine_matrix.specs.declared.inner.parts.Columns.{Columns}
use Rattle.engine_matrix.specs.declared.inner.parts.Machine.{Machine}
use Rattle.rules.specs.Elimination.{Settled, settledBy, fitting, eliminated}
use Rattle.engine_matrix.specs.Machine.{colsIn, staying, bound}
use Rattle.engine.specs.declared.inner.Reduced.{Reduced}

-- what stays, or else the values
abbrev pub settledIn : Columns → Machine → Settled ℕ
settledIn k m = settledBy (colsIn k) (staying m) (bound m)

abbrev pub settledOf : Reduced → Settled ℕ
settledOf r = settledIn r.columns r.machine

-- a well formed set in the records before e
abbrev pub SetHeld : List ℕ → List ℕ → List ℕ → ℕ → List (Con ℕ) → Type 0
SetHeld pool table s e cs = Chain (GoodCon pool table 0 s) e cs 0

-- the set, laid out and eliminated
abbrev pub reduction : List ℕ → List ℕ → List (Con ℕ) → Got (Settled ℕ)
reduction pool table cs = fitting (numbers pool table) cs >>= λ ps. eliminated (numbers pool table) ps
