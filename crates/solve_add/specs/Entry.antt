-- The checks at entry, in their order, and the constraint that a list is.
use Rattle.std.specs.Prelude.{Result, List, [], ◌∷◌, ℕ, ◌*◌, leb, take}
use Rattle.rules.specs.Base.{Got, got, ◌>>=◌, ◌>>◌, need}
use Rattle.rules.specs.Calls.{lentResult, shortLists, tableKept, setGiven, only}
use Rattle.rules.specs.Names.{table_of, lentTable}
use Rattle.rules.specs.Trees.{Con}
use Rattle.rules.specs.declared.Refusal.{Refusal}
use Rattle.names.specs.declared.tables.NameTable.{NameTable}
use Rattle.types.specs.Given.{set_over}
use Rattle.types.specs.declared.Constraint.{Constraint}

abbrev pub constraint_in : Constraint → Con ℕ
constraint_in c = c.tree.0

-- exactly one constraint, over a table that was tested before
abbrev pub one_over : Result NameTable Refusal → List ℕ → Got (Con ℕ)
one_over names ws = set_over names ws >>= only

-- does it pass?
abbrev pub passing : {A : Type 0} → Got A → Got (Unit {0})
passing m = m >> got tt

module _ (pool table : List ℕ) where
  -- 10
  abbrev pub lentBuffer : List ℕ → Got (Unit {0})
  lentBuffer buffer = lentTable pool table >> lentResult buffer

  -- exactly one constraint, well formed
  abbrev pub oneGiven : List ℕ → Got (Con ℕ)
  oneGiven con = setGiven (table_of pool table) con >>= only

  -- in the order in which the call refuses
  unfoldable pub checks : List ℕ → ℕ → List ℕ → Got (Con ℕ)
  checks buffer count con = lentBuffer buffer
      >> ((need (leb count 2048) 8 >> shortLists (con ∷ []))
      >> (tableKept (table_of pool table) >> (passing (setGiven (table_of pool table) (take (count * 4) buffer)) >> oneGiven con)))
