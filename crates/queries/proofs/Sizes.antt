-- How many places of a list are marked, from a place on.
use Rattle.std.specs.Prelude.{◌≡◌, Bool, true, false, List, [], ◌∷◌, ℕ, suc, ◌+◌, ◌<◌, ◌≤◌, length, get_or, drop}
use Rattle.std.proofs.Math.Path.{refl}
use Rattle.std.proofs.Common.{ap, ◌∙◌, add-one, drop-cons, drop_of_length-le}
use Rattle.queries.specs.Marks.{picked}

-- from whichever number on they are counted
same-many : (m : List Bool) (i j : ℕ) → length (picked i m) ≡ length (picked j m)
unfolding picked
same-many [] i j = refl
same-many (true ∷ m) i j = ap suc (same-many m (suc i) (suc j))
same-many (false ∷ m) i j = same-many m (suc i) (suc j)

abbrev here-more : Bool → ℕ → ℕ
here-more true n = suc n
here-more false n = n

first-more : (b : Bool) (m : List Bool) → length (picked 0 (b ∷ m)) ≡ here-more b (length (picked 0 m))
unfolding picked
first-more true m = ap suc (same-many m 1 0)
first-more false m = same-many m 1 0

step : (m : List Bool) (i : ℕ) → i < length m → length (picked 0 (drop i m)) ≡ here-more (get_or m i false) (length (picked 0 (drop (i + 1) m)))
step m i h = rw (add-one i, drop-cons m i false h) (first-more (get_or m i false) (drop (suc i) m))

pub marked-here : (m : List Bool) (i : ℕ) → i < length m → get_or m i false ≡ true
    → length (picked 0 (drop i m)) ≡ suc (length (picked 0 (drop (i + 1) m)))
marked-here m i h e = step m i h ∙ ap (λ (b : Bool). here-more b (length (picked 0 (drop (i + 1) m)))) e

pub unmarked-here : (m : List Bool) (i : ℕ) → i < length m → get_or m i false ≡ false
    → length (picked 0 (drop i m)) ≡ length (picked 0 (drop (i + 1) m))
unmarked-here m i h e = step m i h ∙ ap (λ (b : Bool). here-more b (length (picked 0 (drop (i + 1) m)))) e

pub none-behind : (m : List Bool) (i : ℕ) → length m ≤ i → length (picked 0 (drop i m)) ≡ 0
unfolding picked
none-behind m i h = rw (drop_of_length-le m h)
