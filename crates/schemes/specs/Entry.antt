-- The checks of the calls on schemes over a name table that was tested before: what is too long comes first, the table next.
use Rattle.std.specs.Prelude.{Result, Ok, Err, List, [], ◌∷◌, ℕ}
use Rattle.rules.specs.Base.{Got, refused, ◌>>◌}
use Rattle.rules.specs.Calls.{shortLists, shortNumbers}
use Rattle.rules.specs.Names.{Table, table_of}
use Rattle.rules.specs.Refusals.{number_of}
use Rattle.rules.specs.declared.Refusal.{Refusal}
use Rattle.names.specs.declared.tables.NameTable.{NameTable}

-- two lists, and handed numbers
abbrev pub short : List ℕ → List ℕ → List ℕ → Got (Unit {0})
short ws bounds numbers = shortLists (ws ∷ bounds ∷ []) >> shortNumbers numbers

-- what comes over the table; where the table itself was refused, what is too long, and then its refusal
abbrev pub called_over : {A : Type 0} → Result NameTable Refusal → Got (Unit {0}) → (Table → Got A) → Got A
called_over (Ok names) s f = f (table_of names.pool.now names.table.now)
called_over (Err why) s f = s >> refused (number_of why)
