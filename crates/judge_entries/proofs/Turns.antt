-- How looking up and testing for a repeat go along the entries, by the entry at an index: what the turns of the loops need.
use mathlib.Core.Path.{◌≡◌, refl}
use mathlib.Core.Bool.{Bool, true, false, not, ◌&&◌, ◌||◌}
use mathlib.Core.List.{List, [], ◌∷◌}
use mathlib.Core.Option.{Option, none, some}
use Prim.Native.Nat.{ℕ, zero, suc, ◌<◌, ◌≤◌}
use native.Mathlib.Nat.{not-suc-le-zero, le_of_suc-le-suc}
use borrow.Author.Tests.{eq-eqb, ne_eqb}
use lib.Dec.{eqb}
use lib.ListN.{length, get_or, drop}
use Rattle.rules.specs.Base.{any}
use Rattle.rules.specs.Calls.{differ}
use Rattle.judge_entries.specs.declared.Entry.{Entry}
use Rattle.judge_entries.specs.Entries.{told, variablesOf, place_of}

abbrev pub lookUp : List Entry → ℕ → Option ℕ
lookUp es x = place_of (told es) x

-- is some entry for x; is some variable in two entries?
abbrev pub stands : List Entry → ℕ → Bool
stands es x = any (eqb x) (variablesOf (told es))

abbrev pub repeated : List Entry → Bool
repeated es = not (differ (variablesOf (told es)))

-- the entry at i is for x
pub found_here : (ys : List Entry) (i : ℕ) (d : Entry) (x : ℕ) → i < length ys → (get_or ys i d).variable ≡ x
    → lookUp (drop i ys) x ≡ some (get_or ys i d).place
found_here [] i d x l e = absurd (not-suc-le-zero l)
found_here (y ∷ ys) zero d x l e = rw (eq-eqb y.variable x e)
found_here (y ∷ ys) (suc i) d x l e = found_here ys i d x (le_of_suc-le-suc l) e

-- it is not
pub found-later : (ys : List Entry) (i : ℕ) (d : Entry) (x : ℕ) → i < length ys → ((get_or ys i d).variable ≡ x → ⊥)
    → lookUp (drop i ys) x ≡ lookUp (drop (suc i) ys) x
found-later [] i d x l f = absurd (not-suc-le-zero l)
found-later (y ∷ ys) zero d x l f = rw (ne_eqb y.variable x f)
found-later (y ∷ ys) (suc i) d x l f = found-later ys i d x (le_of_suc-le-suc l) f

-- there is no entry at i
pub found_nowhere : (ys : List Entry) (i x : ℕ) → length ys ≤ i → lookUp (drop i ys) x ≡ none
found_nowhere [] zero x l = refl
found_nowhere [] (suc i) x l = refl
found_nowhere (y ∷ ys) zero x l = absurd (not-suc-le-zero l)
found_nowhere (y ∷ ys) (suc i) x l = found_nowhere ys i x (le_of_suc-le-suc l)

not-both : (a b : Bool) → not (not a && b) ≡ (a || not b)
not-both true b = refl
not-both false b = refl

-- whether the variable of the entry at i stands among those after it decides
pub repeated-at : (ys : List Entry) (i : ℕ) (d : Entry) → i < length ys
    → repeated (drop i ys) ≡ (stands (drop (suc i) ys) (get_or ys i d).variable || repeated (drop (suc i) ys))
unfolding differ
repeated-at [] i d l = absurd (not-suc-le-zero l)
repeated-at (y ∷ ys) zero d l = not-both (stands ys y.variable) (differ (variablesOf (told ys)))
repeated-at (y ∷ ys) (suc i) d l = repeated-at ys i d (le_of_suc-le-suc l)

pub repeated-nowhere : (ys : List Entry) (i : ℕ) → length ys ≤ i → repeated (drop i ys) ≡ false
unfolding differ
repeated-nowhere [] zero l = refl
repeated-nowhere [] (suc i) l = refl
repeated-nowhere (y ∷ ys) zero l = absurd (not-suc-le-zero l)
repeated-nowhere (y ∷ ys) (suc i) l = repeated-nowhere ys i (le_of_suc-le-suc l)
