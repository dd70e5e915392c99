-- Which constraints of a set stand: a mark for each place.
use Rattle.std.specs.Prelude.{Result, ◌≡◌, Bool, true, false, List, ℕ, ◌-◌, ◌≤◌, ◌<◌, ◌⊎◌, length, take, drop, get_or}
use Rattle.rules.specs.Base.{keep}
use Rattle.rules.specs.Conflicts.{Line, linesFrom, leaveOut}
use Rattle.rules.specs.Refusals.{toldBy}
use Rattle.rules.specs.Trees.{Names, Con}
use Rattle.rules.specs.declared.Refusal.{Refusal}

abbrev pub line_place : Line ℕ → ℕ
line_place l = l.0

abbrev pub stands : List Bool → Line ℕ → Bool
stands m l = get_or m l.0 false

-- the lines that stand of constraints whose first place is i
abbrev pub standing : List Bool → ℕ → List (Con ℕ) → List (Line ℕ)
standing m i cs = keep (stands m) (linesFrom i cs)

-- all of these places stand
abbrev pub On : ℕ → ℕ → List Bool → Type 0
On from to m = (i : ℕ) → from ≤ i → i < to → get_or m i false ≡ true

-- the marks outside a run of places are as before
abbrev pub Outside : ℕ → ℕ → List Bool → List Bool → Type 0
Outside from to m m' = (i : ℕ) → (i < from) ⊎ (to ≤ i) → get_or m' i false ≡ get_or m i false

pub record Switched (from to : ℕ) (on : Bool) (m m' : List Bool) : Type 0 where
  pub inside : (i : ℕ) → from ≤ i → i < to → get_or m' i false ≡ on
  pub outside : Outside from to m m'
  pub long : length m' ≡ length m

-- the lines before a place and from a place on that stand; and those of a run of places, all of them
module _ (cs : List (Con ℕ)) where
  abbrev pub before : List Bool → ℕ → List (Line ℕ)
  before m k = standing m 0 (take k cs)

  abbrev pub behind : List Bool → ℕ → List (Line ℕ)
  behind m k = standing m k (drop k cs)

  abbrev pub run : ℕ → ℕ → List (Con ℕ)
  run from to = take (to - from) (drop from cs)

  -- what is left of a run of places, as the rules have it
  pub record LeftOut (ν : Names ℕ) (d from to : ℕ) (m m' : List Bool) (r : Result (Unit {0}) Refusal) : Type 0 where
    pub answer : toldBy (λ u. before m' to) r ≡ leaveOut ν d (before m from) (linesFrom from (run from to)) (behind m to)
    pub outside : Outside from to m m'
    pub long : length m' ≡ length m
