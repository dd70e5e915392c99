-- How looking up and testing for a repeat go along the pairs: what the turns of the loops need.
use Rattle.std.specs.Prelude.{◌≡◌, Bool, true, false, not, ℕ, ◌-◌, ◌/◌, ◌≤◌, ◌<◌, eqb, get_or, drop}
use Rattle.std.proofs.Math.Path.{refl, sym, ap}
use Rattle.std.proofs.Common.{arith}
use borrow.Author.Tests.{eq-eqb, ne_eqb}
use mathlib.Core.List.{List, [], ◌∷◌}
use Rattle.std.proofs.Math.Option.{none, some}
use Rattle.std.proofs.Math.ListN.{length, take}
use Rattle.std.proofs.Math.Seq.{take_all}
use Rattle.rules.specs.Base.{any}
use Rattle.rules.specs.Calls.{differ}
use Rattle.judge_entries.specs.Entries.{place_of, variablesOf}
use Rattle.judge_pairs.specs.Pairs.{entriesIn}

-- a pair for every two words
pub count : (ws : List ℕ) → length ws / 2 ≡ length (entriesIn ws)
unfolding entriesIn
count [] = refl
count (v ∷ []) = refl
count (v ∷ p ∷ ws) = let h = count ws in omega (arith, h)

-- the words behind the first pair
abbrev pub behind : List ℕ → List ℕ
behind ws = take (length ws - 2) (drop 2 ws)

behind-is : (v p : ℕ) (ws : List ℕ) → behind (v ∷ p ∷ ws) ≡ ws
behind-is v p ws = take_all (length (v ∷ p ∷ ws) - 2) ws (omega arith)

-- looking up x
pub found_here : (ws : List ℕ) (x : ℕ) → 2 ≤ length ws → get_or ws 0 0 ≡ x → place_of (entriesIn ws) x ≡ some (get_or ws 1 0)
unfolding entriesIn
found_here [] x h e = absurd (omega arith)
found_here (v ∷ []) x h e = absurd (omega arith)
found_here (v ∷ p ∷ ws) x h e = rw (eq-eqb v x e)

pub found-later : (ws : List ℕ) (x : ℕ) → 2 ≤ length ws → (get_or ws 0 0 ≡ x → ⊥) → place_of (entriesIn ws) x ≡ place_of (entriesIn (behind ws)) x
unfolding entriesIn
found-later [] x h f = absurd (omega arith)
found-later (v ∷ []) x h f = absurd (omega arith)
found-later (v ∷ p ∷ ws) x h f = rw (ne_eqb v x f) (ap (λ (s : List ℕ). place_of (entriesIn s) x) (sym (behind-is v p ws)))

pub found_nowhere : (ws : List ℕ) (x : ℕ) → length ws < 2 → place_of (entriesIn ws) x ≡ none
unfolding entriesIn
found_nowhere [] x h = refl
found_nowhere (v ∷ []) x h = refl
found_nowhere (v ∷ p ∷ ws) x h = absurd (omega arith)

-- is some entry for x; is some variable in two entries?
abbrev pub stands : List ℕ → ℕ → Bool
stands ws x = any (eqb x) (variablesOf (entriesIn ws))

abbrev pub repeated : List ℕ → Bool
repeated ws = not (differ (variablesOf (entriesIn ws)))

pub twice_here : (ws : List ℕ) → 2 ≤ length ws → stands (behind ws) (get_or ws 0 0) ≡ true → repeated ws ≡ true
unfolding entriesIn differ
twice_here [] h e = absurd (omega arith)
twice_here (v ∷ []) h e = absurd (omega arith)
twice_here (v ∷ p ∷ ws) h e = rw (rw (behind-is v p ws) at e)

pub twice-later : (ws : List ℕ) → 2 ≤ length ws → stands (behind ws) (get_or ws 0 0) ≡ false → repeated ws ≡ repeated (behind ws)
unfolding entriesIn differ
twice-later [] h e = absurd (omega arith)
twice-later (v ∷ []) h e = absurd (omega arith)
twice-later (v ∷ p ∷ ws) h e = rw (rw (behind-is v p ws) at e) (ap repeated (sym (behind-is v p ws)))

pub twice_nowhere : (ws : List ℕ) → length ws < 2 → repeated ws ≡ false
unfolding entriesIn differ
twice_nowhere [] h = refl
twice_nowhere (v ∷ []) h = refl
twice_nowhere (v ∷ p ∷ ws) h = absurd (omega arith)
