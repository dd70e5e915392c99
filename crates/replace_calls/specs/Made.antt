-- What a call of replacing makes: what its walk comes to, held to the two limits, and written.
use Rattle.std.specs.Prelude.{List, [], ℕ}
use Rattle.rules.specs.Base.{Got, got, ◌>>=◌, bounded, sized, each, collect}
use Rattle.rules.specs.Names.{Table, numbersOf}
use Rattle.rules.specs.Replacing.{bindings, replaceTy, replaceCon}
use Rattle.rules.specs.Rounds.{limited}
use Rattle.rules.specs.Trees.{Ty, Con, Binding, size, depth}
use Rattle.rules.specs.Writing.{Rec, writeTy, writeCon}

-- the two limits, then writing
abbrev pub limitedTo : {A : Type 0} → (A → ℕ) → (A → ℕ) → (A → List Rec) → Got A → Got (List Rec)
limitedTo long deep write R = R >>= λ a. sized bounded (long a) (deep a) a >>= λ b. got (write b)

module _ (t : Table) where
  abbrev pub madeType : Ty ℕ → List (Binding ℕ) → Got (List Rec)
  madeType ty bs = limitedTo size depth writeTy (replaceTy (numbersOf t) bounded (bindings (numbersOf t) bs) ty)

  abbrev pub madeSet : List (Con ℕ) → List (Binding ℕ) → Got (List Rec)
  madeSet cs bs = do
    r ← each (replaceCon (numbersOf t) bounded (bindings (numbersOf t) bs)) cs
    s ← limited bounded (record { cons = r; binds = [] })
    got (collect writeCon s.cons)
