-- What a list that was tested comes to, over a name table that was tested before.
use Rattle.std.specs.Prelude.{Result, Ok, Err, List, [], ◌∷◌, ℕ}
use Rattle.rules.specs.Base.{Got, got, refused, ◌>>=◌, ◌>>◌, collect}
use Rattle.rules.specs.Calls.{shortLists, setGiven, typeGiven, bindingsGiven, apart}
use Rattle.rules.specs.Names.{Table, table_of}
use Rattle.rules.specs.Refusals.{number_of, told}
use Rattle.rules.specs.Trees.{Binding, Con, Ty, opensCon}
use Rattle.rules.specs.declared.Refusal.{Refusal}
use Rattle.names.specs.declared.tables.NameTable.{NameTable}
use Rattle.types.specs.declared.GivenBindings.{GivenBindings}
use Rattle.types.specs.declared.GivenSet.{GivenSet}
use Rattle.types.specs.declared.GivenType.{GivenType}

-- what comes over the table; and where the table itself was refused, its refusal
abbrev pub over_table : {A : Type 0} → Result NameTable Refusal → (Table → Got A) → Got A
over_table (Ok names) f = f (table_of names.pool.now names.table.now)
over_table (Err why) f = refused (number_of why)

-- too long a list comes before the table
abbrev pub short_over : Result NameTable Refusal → List ℕ → Got NameTable
short_over names ws = shortLists (ws ∷ []) >> told names

-- and the table before what the list holds
abbrev pub list_over : {A : Type 0} → (Table → List ℕ → Got A) → Result NameTable Refusal → List ℕ → Got A
list_over f names ws = shortLists (ws ∷ []) >> over_table names (λ t. f t ws)

abbrev pub set_over : Result NameTable Refusal → List ℕ → Got (List (Con ℕ))
set_over names ws = list_over setGiven names ws

abbrev pub type_over : Result NameTable Refusal → List ℕ → Got (Ty ℕ)
type_over names ws = list_over typeGiven names ws

abbrev pub bindings_over : Result NameTable Refusal → List ℕ → Got (List (Binding ℕ))
bindings_over names ws = list_over bindingsGiven names ws

-- a call that asks first whether its list is too long and then for the table
abbrev pub call_over : {A : Type 0} → Result NameTable Refusal → (Table → List ℕ → Got A) → List ℕ → Got A
call_over (Ok names) f ws = f (table_of names.pool.now names.table.now) ws
call_over (Err why) f ws = shortLists (ws ∷ []) >> refused (number_of why)

abbrev pub constraints_in : GivenSet → List (Con ℕ)
constraints_in s = s.all.trees.0

abbrev pub type_in : GivenType → Ty ℕ
type_in t = t.whole.tree.0

abbrev pub bindings_in : GivenBindings → List (Binding ℕ)
bindings_in b = b.all.trees.0

-- a set whose names are apart, as calls take it in: or the refusal of the first check that isn't met: 8, the table's, 1, 4
abbrev pub entered : Result NameTable Refusal → List ℕ → Got (List (Con ℕ))
entered names ws = shortLists (ws ∷ []) >> over_table names (λ t. setGiven t ws >>= λ cs. apart t (collect opensCon cs) >> got cs)
