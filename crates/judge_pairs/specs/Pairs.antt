-- Entries of the judge as pairs of words: a variable, and the place of its type.
use Rattle.std.specs.Prelude.{List, [], ◌∷◌, ℕ}
use Rattle.rules.specs.Calls.{Entry}

-- an odd last word is not looked at
unfoldable pub entriesIn : List ℕ → List Entry
entriesIn [] = []
entriesIn (v ∷ []) = []
entriesIn (v ∷ p ∷ ws) = record { variable = v; place = p } ∷ entriesIn ws
