-- What follows from the definitions of specs/Tables: the table of places by variable, and what is promised of it.
use Rattle.std.specs.Prelude.{◌≡◌, Bool, true, false, List, ℕ, ◌+◌, ◌≤◌, ◌<◌, get_or}
use Rattle.std.proofs.Math.Option.{Option, none, some}
use Rattle.rules.specs.Base.{got, refused}
use Rattle.rules.specs.Trees.{Ty, Binding, depth}
use Rattle.rules.specs.Names.{table_of}
use Rattle.rules.specs.Replacing.{find}
use Rattle.rules.specs.Calls as rules
use Rattle.rules.specs.Calls.{entriesGiven}
use Rattle.records.specs.Holds.{Holds}
use Rattle.records.specs.Good.{numbers, goodTy}

-- ══ What the table says ══

module _ (pool table types : List ℕ) where
  -- the word w is one more than the place of the bound type, which is well formed
  pub record BoundAt (w : ℕ) (t : Ty ℕ) : Type 0 where
    pub at : ℕ
    pub word : w ≡ at + 1
    pub held : Holds types t at
    pub deep : depth t ≤ 64
    pub good : goodTy pool table 0 t ≡ true

  -- the word is 0 and nothing is bound, or a type is
  abbrev pub SaysAt : ℕ → Option (Ty ℕ) → Type 0
  SaysAt w none = w ≡ 0
  SaysAt w (some t) = BoundAt w t

  -- each name has a word
  pub record Tabled (bs : List (Binding ℕ)) (places : List ℕ) : Type 0 where
    pub says : (x : ℕ) → x < 256 → SaysAt (get_or places x 0) (find (numbers pool table) bs x)

-- entries that are given as the rules ask have their table, others are refused
pub record Placed (pool table : List ℕ) (es : List rules.Entry) (types places : List ℕ) (r : Bool) : Type 0 where
  pub given : (bs : List (Binding ℕ)) → entriesGiven (table_of pool table) es types ≡ got bs → (r ≡ true) × Tabled pool table types bs places
  pub refuses : entriesGiven (table_of pool table) es types ≡ refused 1 → r ≡ false
