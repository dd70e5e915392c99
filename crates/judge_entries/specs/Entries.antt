-- Entries as the rules have them: the place of a variable's type, and one slot for each name.
use Rattle.std.specs.Prelude.{Option, None, Some, List, [], ◌∷◌, map, ℕ, zero, suc, ◌+◌, eqb, get_or, set, replicate}
use Rattle.std.proofs.Math.Option as may
use Rattle.rules.specs.Base.{◌or_else◌, only_if}
use Rattle.rules.specs.Calls as rules
use Rattle.judge_entries.specs.declared.Entry.{Entry}

abbrev pub toldEntry : Entry → rules.Entry
toldEntry e = record { variable = e.variable; place = e.place }

abbrev pub told : List Entry → List rules.Entry
told es = map toldEntry es

abbrev pub variablesOf : List rules.Entry → List ℕ
variablesOf es = map (λ e. e.variable) es

-- the place in the first entry of a variable
abbrev pub place_of : List rules.Entry → ℕ → may.Option ℕ
place_of [] x = may.none
place_of (e ∷ es) x = only_if (eqb e.variable x) e.place or_else place_of es x

-- ══ Slots: for each name the place that it is bound to, if it is ══

abbrev pub slot_of : may.Option ℕ → Option ℕ
slot_of may.none = None
slot_of (may.some p) = Some p

-- the names below k are noted
unfoldable pub notedBelow : List rules.Entry → ℕ → List (Option ℕ)
notedBelow es zero = replicate 256 None
notedBelow es (suc k) = set (notedBelow es k) k (slot_of (place_of es k))

abbrev pub slots_of : List rules.Entry → List (Option ℕ)
slots_of es = notedBelow es 256

-- how many of the first k slots are taken
abbrev pub bit : Option ℕ → ℕ
bit None = 0
bit (Some p) = 1

unfoldable pub taken : List (Option ℕ) → ℕ → ℕ
taken slots zero = 0
taken slots (suc k) = taken slots k + bit (get_or slots k None)

-- the word of a slot in the table of places: 0, or one more than the place
abbrev pub slotWord : Option ℕ → ℕ
slotWord None = 0
slotWord (Some p) = p + 1
