-- What a step does with its operands, as the rules have it.
use Rattle.std.specs.Prelude as std
use Rattle.std.specs.Prelude.{List, ℕ, drop}
use Rattle.std.proofs.Math.Option.{Option, none, some}
use Rattle.rules.specs.Steps.{LineStep, Deed, gives, raised, joined, chosen, operands}
use Rattle.exponents.specs.Answers.{expOf}
use Rattle.lines_entry.specs.Told.{treeOf, twoOf}
use Rattle.lines_set.specs.declared.deeds.Deed as code
use Rattle.lines_set.specs.declared.deeds.Deed.TheVariants as deed

abbrev pub deedOf : code.Deed → Deed ℕ ℕ
deedOf (deed.Gives g) = gives (treeOf g)
deedOf (deed.Raised e x) = raised (expOf e) x
deedOf (deed.Joined o l r) = joined (twoOf o) l r
deedOf (deed.Chosen c l r) = chosen c l r

-- the deed, and the stack past the step's operands
abbrev pub takenBy : LineStep ℕ → List ℕ → std.Option code.Deed → Option (Deed ℕ ℕ × List ℕ)
takenBy s st std.None = none
takenBy s st (std.Some d) = some (deedOf d, drop (operands s) st)
