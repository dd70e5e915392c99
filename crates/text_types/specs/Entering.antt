-- What a sheet is entered into, before and after.
use Rattle.std.specs.Prelude.{◌≡◌, List}
use Rattle.rules.specs.Names.{Bytes}
use Rattle.rules.specs.Grammar.{Rule}
use Rattle.rules.specs.TextReading.{Step}
use Rattle.rules.specs.Writing.{Rec}
use Rattle.text_names.specs.Stands.{Stand}
use Rattle.text_names.specs.Effects.{Lent, lent, Ready, Done}
use Rattle.text_names.specs.declared.inner.Reached.{Reached}
use Rattle.text_types.specs.declared.inner.Buffers.{Buffers}

-- what is lent of it, and how the sheet stands
abbrev pub lentBy : Buffers → Stand → Lent
lentBy x s = lent x.pool.now x.table.now x.dst.now s

-- what every function asks
abbrev pub ReadyIn : Bytes → Reached → Buffers → Type 0
ReadyIn line from x = Ready line from.at x.pool.now x.table.now from.stand

-- the sheet is entered into the same buffers as before
pub record SameBuffers (x y : Buffers) : Type 0 where
  pub pool : y.pool.ghost_name ≡ x.pool.ghost_name
  pub table : y.table.ghost_name ≡ x.table.ghost_name
  pub dst : y.dst.ghost_name ≡ x.dst.ghost_name

-- what R reads was done as f says
abbrev pub Entered : {A B : Type 0} → Bytes → Rule A → (A → Step B) → (B → List Rec → Type 0) → Reached → Buffers → Reached → Buffers → Type 0
Entered line R f T from x to y = Done line R f T from.at (lentBy x from.stand) to.at (lentBy y to.stand)
