-- Words of four bytes, the lowest first.
use Rattle.std.specs.Prelude.{cond, List, [], ◌∷◌, ◌++◌, ℕ, zero, suc, ◌+◌, ◌*◌, ◌-◌, ltb, length, get_or}
use Rattle.std.specs.List.{flat_map}
use Rattle.std.specs.Int.{w32, to_le_bytes}

-- the word whose four bytes stand at a place; 0 past the end
unfoldable pub word_at : List ℕ → ℕ → ℕ
word_at s at = cond (ltb (length s) 4) 0
    (cond (ltb (length s - 4) at) 0 (get_or s at 0 + get_or s (at + 1) 0 * 256 + get_or s (at + 2) 0 * 65536 + get_or s (at + 3) 0 * 16777216))

-- the first n words
unfoldable pub words_in : List ℕ → ℕ → List ℕ
words_in s zero = []
words_in s (suc n) = words_in s n ++ word_at s (n * 4) ∷ []

abbrev pub bytes_of : List ℕ → List ℕ
bytes_of ws = flat_map (to_le_bytes w32) ws
