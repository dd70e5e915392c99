-- The open names of a table of places.
use Rattle.std.specs.Prelude.{◌≡◌, true, List, [], ◌∷◌, ◌++◌, map, ℕ, zero, suc, ◌<◌, get_or}
use Rattle.std.proofs.Math.Option.{Option, none, some}
use Rattle.rules.specs.Calls.{differ}
use Rattle.rules.specs.Names.{Bytes, numbered}
use Rattle.rules.specs.Replacing.{find}
use Rattle.rules.specs.Trees.{Open, var, Ty, Binding, ◌≔◌, opens}
use Rattle.replace.specs.Places.{SaysAt}

-- a variable that is bound, and the open names of its type
abbrev pub opens_of : ℕ → Option (Ty ℕ) → List (Open ℕ)
opens_of x none = []
opens_of x (some t) = var x ∷ opens t

-- those of the variables below n, as the bindings have them
unfoldable pub opensBelow : List Bytes → List (Binding ℕ) → ℕ → List (Open ℕ)
opensBelow names bs zero = []
opensBelow names bs (suc n) = opensBelow names bs n ++ opens_of n (find (numbered names) bs n)

abbrev pub variable : Binding ℕ → ℕ
variable (x ≔ t) = x

-- each variable's word says what the bindings say, and none is bound twice
pub record Table (types places : List ℕ) (names : List Bytes) (bs : List (Binding ℕ)) : Type 0 where
  pub says : (x : ℕ) → x < 256 → SaysAt types (get_or places x 0) (find (numbered names) bs x)
  pub once : differ (map variable bs) ≡ true
  pub below : (x : ℕ) (t : Ty ℕ) → find (numbered names) bs x ≡ some t → x < 256
