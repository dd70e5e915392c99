-- The fields of a structure, and a structure by its parts.
use Rattle.std.specs.Prelude as code
use Rattle.std.specs.Prelude.{◌≡◌, Bool, true, false, ℕ, suc, ◌+◌, ◌<◌, min, get_or, Err, Ok}
use mathlib.Core.List.{List, ◌∷◌}
use Rattle.std.proofs.Math.Option.{Option, none, some}
use Rattle.rules.specs.Names.{Bytes}
use Rattle.rules.specs.Trees.{Ty, Fields, size, countFields}
use Rattle.rules.specs.Writing.{Rec, rec, head, writeTy, writeFields}
use Rattle.rules.specs.Grammar.{Rule, NameAt, TyAt, FieldsAt}
use Rattle.rules.specs.TextReading.{Step, onward, give, counted, named, rises, ty_of, fields_of}
use Rattle.rules.specs.declared.Refusal.{Refusal}
use Rattle.records.specs.Good.{follows}
use Rattle.text_grammar.specs.Types.{fieldRule}
use Rattle.text_names.specs.Stands.{Stand}
use Rattle.text_types.specs.declared.inner.Buffers.{Buffers}
use Rattle.text_types.specs.Entering.{Entered}
use Rattle.text_names.specs.declared.inner.Reached.{Reached}
use Rattle.text_names.specs.Stands as stand
use Rattle.text_types.specs.declared.inner.nested.FieldStart.{FieldStart}
use Rattle.text_types.specs.declared.inner.nested.Row.{Row}

-- ══ A field's name rises ══

-- the name of the field before
abbrev pub nameBefore : code.Option ℕ → Option ℕ
nameBefore code.None = none
nameBefore (code.Some y) = some y

-- a name that is held comes after the one before
abbrev pub Risen : List ℕ → List ℕ → code.Option ℕ → ℕ → Bool → Type 0
Risen pool table b x ok = x < get_or table 0 0 → ok ≡ follows pool table b x

-- the sheet goes on, or it is refused at a place
abbrev pub stoppedAt : Refusal → ℕ → Stand → Stand
stoppedAt r at (Ok tally) = stand.Refused r at
stoppedAt r at (Err stop) = stand.Refused stop.why stop.at

abbrev pub keptIf : Bool → Refusal → ℕ → Stand → Stand
keptIf true r at s = s
keptIf false r at s = stoppedAt r at s

-- ══ A field ══

-- a field's record and its type's
abbrev pub fieldRecs : ℕ × Ty ℕ → List Rec
fieldRecs xu = rec (head 9 (suc (size xu.1))) xu.0 0 0 ∷ writeTy xu.1

abbrev pub typed : ℕ → TyAt → Step (ℕ × Ty ℕ)
typed x t = λ s. onward (ty_of t s) (λ u. give {A = ℕ × Ty ℕ} (x, u))

abbrev pub countedTy : ℕ → ℕ → TyAt → Step (ℕ × Ty ℕ)
countedTy c x t = λ s. onward (counted 1 c s) (λ u. typed x t)

abbrev pub risenTy : Option ℕ → ℕ → ℕ → TyAt → Step (ℕ × Ty ℕ)
risenTy y c x t = λ s. onward (rises y x c s) (λ u. countedTy c x t)

-- what one field means, with the name of the field before
abbrev pub fieldStep : Option ℕ → NameAt × TyAt → Step (ℕ × Ty ℕ)
fieldStep y it = λ s. onward (named it.0 s) (λ x. risenTy y it.0.column x it.1)

-- a field was entered: its name is the one before the next field's, and these are its records
pub record FieldTold (b : code.Option ℕ) (xu : ℕ × Ty ℕ) (rs : List Rec) : Type 0 where
  pub name : b ≡ code.Some xu.0
  pub written : rs ≡ fieldRecs xu

-- a field was entered: its name behind the one before, and its type; its own name comes before the next
abbrev pub FieldEntered : Bytes → Rule TyAt → FieldStart → Buffers → FieldStart → Buffers → Type 0
FieldEntered line ty from x next = Entered line (fieldRule ty) (fieldStep (nameBefore from.before)) (FieldTold next.before) from.here x next.here

-- ══ Fields in a row ══

-- n fields were counted before, and m with these; these are their records
pub record FieldsTold (n m : ℕ) (gs : Fields ℕ) (rs : List Rec) : Type 0 where
  pub written : rs ≡ writeFields gs
  pub counted : m ≡ min (n + countFields gs) 4096

-- fields that R reads were entered, as many as the row says, and their records are written
abbrev pub FieldsEntered : Bytes → Rule FieldsAt → Reached → Buffers → Row → Buffers → Type 0
FieldsEntered line R from x row = Entered line R (λ fs. fields_of fs none) (FieldsTold 0 row.count) from x row.end
