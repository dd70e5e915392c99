-- For the cases: records written with their kind alone, and the lengths of parts put in. The lengths are counted from the records, by how many parts
-- each kind says follow it, and not by the trees' sizes that the definitions use.
use Rattle.std.specs.Prelude.{List, [], ◌∷◌, ℕ, zero, suc, ◌+◌, eqb, length, true, false}
use Rattle.rules.specs.Writing.{Rec, rec, head, words}

-- in a table of kinds; 0 for any other
unfoldable pub among : ℕ → List (ℕ × ℕ) → ℕ
among k [] = 0
among k (x ∷ xs) = elim (eqb k x.0) [ true ↦ x.1 | false ↦ among k xs ]

-- how many parts follow a record as parts of its own
unfoldable pub parts_of : Rec → ℕ
parts_of (rec k a b c) = among k ((3, a) ∷ (7, suc a) ∷ (8, b + c) ∷ (9, 1) ∷ (10, 1) ∷ (20, 2) ∷ (21, 1) ∷ (22, 1) ∷ (23, 2) ∷ (24, 1) ∷ [])

-- the records that n parts take
unfoldable pub span : List Rec → ℕ → ℕ
span [] n = 0
span (r ∷ rs) zero = 0
span (r ∷ rs) (suc n) = suc (span rs (parts_of r + n))

-- a scheme is as long as the list
unfoldable pub long : Rec → List Rec → ℕ
long (rec k a b c) rs = elim (eqb k 26) [ true ↦ suc (length rs) | false ↦ span (rec k a b c ∷ rs) 1 ]

unfoldable pub sized : List Rec → List Rec
sized [] = []
sized (rec k a b c ∷ rs) = rec (head k (long (rec k a b c) rs)) a b c ∷ sized rs

unfoldable pub sizedWords : List Rec → List ℕ
sizedWords rs = words (sized rs)

-- all of them, to compute
unfoldable pub counting : Type 0
unfolding among parts_of span long sized sizedWords
counting = Unit {0}
