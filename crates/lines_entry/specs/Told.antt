-- Steps that were read, as the rules have them.
use Rattle.std.specs.Prelude.{List, ℕ, map, take}
use Rattle.rules.specs.Trees.{Ty}
use Rattle.rules.specs.Steps.{adds, subtracts, multiplies, divides, compares, LineStep, constant, reference, raises, joins, chooses}
use Rattle.rules.specs.Steps as rules
use Rattle.exponents.specs.Answers.{expOf}
use Rattle.lines_entry.specs.declared.inner.steps.Given.{Given}
use Rattle.lines_entry.specs.declared.inner.steps.Two.{Two}
use Rattle.lines_entry.specs.declared.inner.steps.Two.TheVariants as two
use Rattle.lines_entry.specs.declared.inner.steps.Step.{Step}
use Rattle.lines_entry.specs.declared.inner.steps.Step.TheVariants as step
use Rattle.lines_entry.specs.declared.inner.steps.Steps.{Steps}

abbrev pub treeOf : Given → Ty ℕ
treeOf g = g.of.tree.0

abbrev pub twoOf : Two → rules.Two
twoOf two.Adds = adds
twoOf two.Subtracts = subtracts
twoOf two.Multiplies = multiplies
twoOf two.Divides = divides
twoOf two.Compares = compares

abbrev pub stepOf : Step → LineStep ℕ
stepOf (step.Constant g) = constant (treeOf g)
stepOf (step.Reference g) = reference (treeOf g)
stepOf (step.Raise e) = raises (expOf e)
stepOf (step.Join o) = joins (twoOf o)
stepOf step.Choose = chooses

abbrev pub stepsOf : Steps → List (LineStep ℕ)
stepsOf s = map stepOf (take s.len s.list)
