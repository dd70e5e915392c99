-- The steps of a line one by one from a place on, in words, and read.
use Rattle.std.specs.Prelude.{ℕ}
use mathlib.Core.List.{[], ◌∷◌}
use Rattle.rules.specs.Base.{Got, got, ◌>>◌}
use Rattle.rules.specs.Writing.{Rec, rec}
use Rattle.rules.specs.Steps.{LineStep, StepWords, four, zeros}

-- the words of a record as a step's
abbrev pub fourOf : Rec → StepWords
fourOf (rec k a b c) = four k a b c

-- a step that uses none of its words
abbrev pub plainly : ℕ → ℕ → ℕ → LineStep ℕ → Got (LineStep ℕ)
plainly a b c s = zeros (a ∷ b ∷ c ∷ []) >> got s
