-- The line with a number, and the line of a constraint: lines are left behind one after another.
use Rattle.std.specs.Prelude.{Bool, true, false, ℕ, ◌-◌}

-- constraints that are left behind a line
abbrev pub leftBehind : Bool → ℕ → ℕ
leftBehind true left = left - 1
leftBehind false left = left
