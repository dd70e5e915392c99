-- Numbers as the rules see them.
use Rattle.std.specs.Prelude.{List, ℕ}
use Rattle.rules.specs.Trees.{Names}
use Rattle.rules.specs.Names.{table_of, numbersOf}

-- numbers as the rules see them: told apart as numbers, in the order of their names' bytes
abbrev pub numbers : List ℕ → List ℕ → Names ℕ
numbers pool table = numbersOf (table_of pool table)
