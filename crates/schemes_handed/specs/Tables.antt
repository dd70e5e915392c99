-- The words of the tables: places by name, and the types that they point to. A name's type stands at the place of its number.
use mathlib.Core.List.{List, [], ◌∷◌}
use Prim.Native.Nat.{ℕ, zero, suc, ◌+◌, ◌*◌}
use Rattle.std.proofs.Math.ListN.{set}
use Rattle.std.proofs.Math.Seq.{sets}
use Rattle.rules.specs.Writing.{words, rec, head}

-- handed names, as variables and as parameters
unfoldable pub quantPlaces : List ℕ → List ℕ → List ℕ
quantPlaces [] d = d
quantPlaces (x ∷ xs) d = set (set (quantPlaces xs d) x (x + 1)) (256 + x) (x + 1)

-- quantified variables from i on
unfoldable pub quantTypes : ℕ → List ℕ → List ℕ → List ℕ
quantTypes i [] d = d
quantTypes i (x ∷ xs) d = sets (quantTypes (suc i) xs d) (x * 4) (words (rec (head 14 1) i 0 0 ∷ []))

unfoldable pub backPlaces : ℕ → List ℕ → List ℕ → List ℕ
backPlaces i [] d = d
backPlaces i (x ∷ xs) d = set (backPlaces (suc i) xs d) (512 + i) (x + 1)

-- the first n names, each as a variable
unfoldable pub ownPlaces : ℕ → List ℕ → List ℕ
ownPlaces zero d = d
ownPlaces (suc x) d = set (ownPlaces x d) x (x + 1)

unfoldable pub ownTypes : ℕ → List ℕ → List ℕ
ownTypes zero d = d
ownTypes (suc x) d = sets (ownTypes x d) (x * 4) (words (rec (head 1 1) x 0 0 ∷ []))
