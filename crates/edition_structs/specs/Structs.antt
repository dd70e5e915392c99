-- The structs of sheets. A sheet is its records as words, four a record; any words are taken: a part that would end behind the last record ends there.
use Rattle.std.specs.Prelude.{ℕ, zero, suc, ◌+◌, ◌-◌, ◌*◌, ◌/◌, min, List, [], ◌∷◌, ◌++◌, length, take, drop}
use Rattle.records.specs.Views.{viewAt, longAt}
use Rattle.records.specs.declared.View.{View}
use Rattle.records.specs.declared.View.TheVariants as view
use Rattle.edition_structs.specs.declared.Place.{Place}

-- a struct: its name, the words of its arguments and of its fields, and where it stands
pub record Struct : Type 0 where
  pub name : ℕ
  pub arguments : List ℕ
  pub fields : List ℕ
  pub place : Place

-- how many records there are
abbrev pub records : List ℕ → ℕ
records s = length s / 4

-- the place behind the part at a place
abbrev pub behind : List ℕ → ℕ → ℕ
behind s at = min (at + longAt s at) (records s)

-- the place behind n parts
unfoldable pub past : List ℕ → ℕ → ℕ → ℕ
past s at zero = at
past s at (suc n) = behind s (past s at n)

-- the words of the records from a place to an end; none where the end is before the place
unfoldable pub between : List ℕ → ℕ → ℕ → List ℕ
between s at end = take ((end - at) * 4) (drop (at * 4) s)

-- 1 for a record that begins a constraint
abbrev pub begins : View → ℕ
begins view.Equal = 1
begins view.IsDim = 1
begins view.IsScalar = 1
begins (view.HasField n) = 1
begins _ = 0

-- how many constraints begin in the first n records
unfoldable pub begun : List ℕ → ℕ → ℕ
begun s zero = 0
begun s (suc n) = begun s n + begins (viewAt s n)

-- the struct that the record at a place begins, in sheet k: behind the record stand its n arguments, and then its fields
unfoldable pub structFrom : ℕ → List ℕ → ℕ → View → List Struct
structFrom k s at (view.Struct x n m) =
    record {
      name = x;
      arguments = between s (at + 1) (past s (at + 1) n);
      fields = between s (past s (at + 1) n) (behind s at);
      place = record { sheet = k; constraint = begun s at };
    } ∷ []
structFrom k s at _ = []

-- those that the first n records begin
unfoldable pub structsTo : ℕ → List ℕ → ℕ → List Struct
structsTo k s zero = []
structsTo k s (suc n) = structsTo k s n ++ structFrom k s n (viewAt s n)

-- those of sheets, of which the first has the number k
unfoldable pub structsFrom : ℕ → List (List ℕ) → List Struct
structsFrom k [] = []
structsFrom k (s ∷ ss) = structsTo k s (records s) ++ structsFrom (suc k) ss
