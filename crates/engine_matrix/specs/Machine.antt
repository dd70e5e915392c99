-- What a machine has yet to do, and what a step does to that.
use Rattle.std.specs.Prelude.{◌≡◌, ℕ, Result, Ok, Err, List, [], ◌∷◌, ◌++◌, zero, suc, ◌+◌, take, drop, get_or}
use Rattle.rules.specs.Base.{Got, got, refused, ◌>>=◌}
use Rattle.rules.specs.Trees.{var, par, Atom, free, base}
use Rattle.engine_matrix.specs.declared.inner.parts.Columns.{Columns}
use Rattle.engine_matrix.specs.declared.inner.parts.Machine.{Machine}
use Rattle.rules.specs.Refusals.{number_of}
use Rattle.rules.specs.declared.Refusal.{Refusal}
use Rattle.rules.specs.Elimination.{Row, Value, ◌gets◌, Reduced, eliminate}
use Rattle.engine_matrix.specs.Grids.{rowsIn}

-- ══ Columns ══

-- v variables, p parameters, and base dimensions
unfoldable pub atomsFrom : ℕ → ℕ → List ℕ → List (Atom ℕ)
atomsFrom v p [] = []
atomsFrom (suc v) p (x ∷ xs) = free (var x) ∷ atomsFrom v p xs
atomsFrom zero (suc p) (x ∷ xs) = free (par x) ∷ atomsFrom zero p xs
atomsFrom zero zero (x ∷ xs) = base x ∷ atomsFrom zero zero xs

abbrev pub namesIn : Columns → List ℕ
namesIn k = take k.variables k.vars ++ take k.parameters k.pars ++ take k.dimensions k.bases

unfoldable pub colsIn : Columns → List (Atom ℕ)
colsIn k = atomsFrom k.variables k.parameters (namesIn k)

-- ══ Values by name ══

unfoldable pub pairValues : List ℕ → List Row → List (Value ℕ)
pairValues [] rs = []
pairValues (x ∷ xs) [] = []
pairValues (x ∷ xs) (r ∷ rs) = (x gets r) ∷ pairValues xs rs

-- ══ What is left to do ══

-- rows in front of what is left
abbrev pub behind : List Row → Reduced ℕ → Got (Reduced ℕ)
behind kept d = got (record { left = kept ++ d.left; values = d.values })

unfoldable pub whole : List (Atom ℕ) → ℕ → List Row → List Row → List (Value ℕ) → Got (Reduced ℕ)
whole cols n rows kept vs = eliminate cols n rows vs >>= λ d. behind kept d

-- the rows that stay, and the values found
abbrev pub staying : Machine → List Row
staying m = take m.stay (rowsIn m.kept)

abbrev pub bound : Machine → List (Value ℕ)
bound m = pairValues (take m.found m.names) (take m.found (rowsIn m.values))

unfoldable pub rest : List (Atom ℕ) → Machine → Got (Reduced ℕ)
rest cols m = whole cols m.left (take m.left (drop m.at (rowsIn m.rows))) (staying m) (bound m)

abbrev pub firstRow : Machine → Row
firstRow m = get_or (rowsIn m.rows) m.at []

-- one row less to do, and what there is to do comes to the same
abbrev pub On : List (Atom ℕ) → Machine → Machine → Type 0
On cols m q = (q.left + 1 ≡ m.left) × (rest cols q ≡ rest cols m)

-- a step: on with the rest, or refused as the rest is
abbrev pub Went : List (Atom ℕ) → Machine → Result Machine Refusal → Type 0
Went cols m (Ok q) = On cols m q
Went cols m (Err r) = rest cols m ≡ refused (number_of r)

-- at the end: what stays, and the values
abbrev pub endOf : Machine → Reduced ℕ
endOf m = record { left = staying m; values = bound m }
