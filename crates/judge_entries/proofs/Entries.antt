-- What follows from the definitions of specs/Entries: entries as the rules have them: the place of a variable's type, and one slot for each name.
use Rattle.std.specs.Prelude.{ℕ}
use Rattle.rules.specs.Trees.{Binding, ◌≔◌}

abbrev pub variableOf : Binding ℕ → ℕ
variableOf (x ≔ t) = x
