-- The table of places by variable, and what is promised of it.
use Rattle.std.specs.Prelude.{◌≡◌, Bool, true, false, List, ℕ, ◌%◌, ◌≤◌, ◌<◌, length, get_or}
use Rattle.std.specs.Prelude as std
use Rattle.rules.specs.Trees.{Ty}
use Rattle.records.specs.Found.{Words32}
use Rattle.records.specs.Good.{GoodTy}
use Rattle.judge_entries.specs.Entries.{taken, slotWord}

-- what is known before: the table has a word for each name, and a place fits a word
pub record Ready (types places : List ℕ) : Type 0 where
  pub short : length types ≤ 8192
  pub long : 256 ≤ length places

-- ══ How the slots become the table ══

module _ (pool table types : List ℕ) where
  -- a slot that is taken: its variable is held, and a well formed type starts at its place
  abbrev pub Fits : ℕ → std.Option ℕ → Type 0
  Fits x o = (at : ℕ) → o ≡ std.Some at → (x < get_or table 0 0) × ((t : Ty ℕ) × ((e : ℕ) × GoodTy pool table 0 types 64 at t e))

  -- the word of a slot that fits; or it doesn't
  abbrev pub WordFor : ℕ → std.Option ℕ → std.Option ℕ → Type 0
  WordFor x o (std.Some w) = Fits x o × (w ≡ slotWord o)
  WordFor x o std.None = Fits x o → ⊥

  -- all that is asked of the entries
  pub record Asked (slots : List (std.Option ℕ)) (repeated : Bool) (count : ℕ) : Type 0 where
    pub whole : length types % 4 ≡ 0
    pub once : repeated ≡ false
    pub fits : (x : ℕ) → x < 256 → Fits x (get_or slots x std.None)
    pub all : taken slots 256 ≡ count

  abbrev pub Filled : List (std.Option ℕ) → Bool → ℕ → List ℕ → Bool → Type 0
  Filled slots repeated count places true = Asked slots repeated count × ((x : ℕ) → x < 256 → get_or places x 0 ≡ slotWord (get_or slots x std.None))
  Filled slots repeated count places false = Asked slots repeated count → ⊥

  -- and the words of the list are of 32 bits, whatever is answered
  pub record Made (slots : List (std.Option ℕ)) (repeated : Bool) (count : ℕ) (places : List ℕ) (r : Bool) : Type 0 where
    pub words : Words32 types
    pub filled : Filled slots repeated count places r
