-- A type by its parts: its record is counted at its first byte, its parts are entered behind it, and then the record is written.
use Rattle.std.specs.Prelude.{◌≡◌, List, ℕ, ◌+◌, min}
use Rattle.rules.specs.Names.{Bytes}
use Rattle.rules.specs.Trees.{Tys, count}
use Rattle.rules.specs.Writing.{Rec, writeTy, writeTys}
use Rattle.rules.specs.Grammar.{Rule, TyAt, TysAt}
use Rattle.rules.specs.TextReading.{ty_of, tys_of}
use Rattle.text_names.specs.Effects.{Writes}
use Rattle.text_names.specs.declared.inner.Reached.{Reached}
use Rattle.text_types.specs.declared.inner.Buffers.{Buffers}
use Rattle.text_types.specs.declared.inner.nested.Row.{Row}
use Rattle.text_types.specs.Entering.{Entered}

-- a type that R reads was entered, and its records are written
abbrev pub TypeEntered : Bytes → Rule TyAt → Reached → Buffers → Reached → Buffers → Type 0
TypeEntered line R = Entered line R ty_of (Writes writeTy)

-- ══ Types in a row ══

-- n types were counted before, and m with these; these are their records
pub record TysTold (n m : ℕ) (us : Tys ℕ) (rs : List Rec) : Type 0 where
  pub written : rs ≡ writeTys us
  pub counted : m ≡ min (n + count us) 4096

-- types that R reads were entered, as many as the row says, and their records are written
abbrev pub TypesEntered : Bytes → Rule TysAt → Reached → Buffers → Row → Buffers → Type 0
TypesEntered line R from x row = Entered line R tys_of (TysTold 0 row.count) from x row.end
