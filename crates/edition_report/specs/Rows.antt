-- The rows of a report: a binding, a bound, or a constraint that remains, and the line that tells each.
use Rattle.std.specs.Prelude.{◌≡◌, List, [], ℕ, ◌+◌}
use Rattle.rules.specs.Names.{Bytes}
use Rattle.rules.specs.Reports.{bindingLine, boundLine, remainingLine}
use Rattle.rules.specs.TextWriting.{nameText}
use Rattle.rules.specs.Trees.{var, Con, Binding, sizeCon, sizeBinding}
use Rattle.records.specs.Good.{Chain}
use Rattle.records.specs.Holds.{HoldsBinding, HoldsBound, HoldsCon}
use Rattle.records.specs.declared.Open as opens

pub data Row : Type 0 where
  binding : Binding ℕ → Row
  bound : ℕ → Row
  left : Con ℕ → Row

-- a name without its mark
abbrev pub bareText : (ℕ → Bytes) → opens.Open → Bytes
bareText names (opens.TheVariants.Var x) = nameText (names x)
bareText names (opens.TheVariants.Quant i) = []
bareText names (opens.TheVariants.Par x) = nameText (names x)

abbrev pub rowText : (ℕ → Bytes) → Row → Bytes
rowText names (binding b) = bindingLine names b
rowText names (bound x) = boundLine names x
rowText names (left c) = remainingLine names c

module _ (s : List ℕ) where
  -- a row from a place up to another
  abbrev pub RowHere : ℕ → Row → ℕ → Type 0
  RowHere at (binding b) e = HoldsBinding s b at × (e ≡ at + sizeBinding b)
  RowHere at (bound x) e = HoldsBound s (var x) at × (e ≡ at + 1)
  RowHere at (left c) e = HoldsCon s c at × (e ≡ at + sizeCon c)

  -- rows one after another from a place up to another
  pub record RowsAt (at end : ℕ) (rs : List Row) : Type 0 where
    pub chain : Chain RowHere end rs at
