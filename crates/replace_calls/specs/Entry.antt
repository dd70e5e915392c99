-- What a call on two lists comes to over a name table that was tested before.
use Rattle.std.specs.Prelude.{Result, Ok, Err, List, [], ◌∷◌, ℕ}
use Rattle.rules.specs.Base.{Got, refused, ◌>>◌}
use Rattle.rules.specs.Calls.{shortLists}
use Rattle.rules.specs.Names.{Table, table_of}
use Rattle.rules.specs.Refusals.{number_of}
use Rattle.rules.specs.declared.Refusal.{Refusal}
use Rattle.names.specs.declared.tables.NameTable.{NameTable}

-- f over the table; and where the table was refused, 8 for too long a list and then that refusal
abbrev pub both_over : {A : Type 0} → Result NameTable Refusal → (Table → List ℕ → List ℕ → Got A) → List ℕ → List ℕ → Got A
both_over (Ok names) f ws binds = f (table_of names.pool.now names.table.now) ws binds
both_over (Err why) f ws binds = shortLists (ws ∷ binds ∷ []) >> refused (number_of why)
