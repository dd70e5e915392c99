-- Bindings noted in a table of places, one after another: the first of a variable counts.
use Rattle.std.specs.Prelude.{ℕ, eqb, get_or, set}
use Rattle.std.proofs.Math.Bool.{cond}
use mathlib.Core.List.{List}
use Rattle.rules.specs.Replacing.{bindings}
use Rattle.rules.specs.Trees.{Binding}
use Rattle.laws.specs.NameTable.{Good}
use Rattle.replace.specs.Well.{names, Listed, Lent}

-- a word is kept that was set before
abbrev pub noted : List ℕ → ℕ → ℕ → List ℕ
noted places y w = cond (eqb (get_or places y 0) 0) (set places y w) places

-- whatever names there are: the table says what the bindings say
abbrev pub Fills : List ℕ → ℕ → ℕ → List ℕ → Type 0
Fills v b e places = (pool table : List ℕ) (bs : List (Binding ℕ)) → Good pool table → Listed pool table v b e bs
    → Lent pool table places v (bindings (names pool table) bs)
