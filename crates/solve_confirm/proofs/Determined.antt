-- The contract leaves no choice, and the answer has the number of its outcome: as of solving, whose kind of answer it is.
use Rattle.std.proofs.Common.{sym, ap, ◌∙◌}
use Rattle.rules.specs.Calls as calls
use Rattle.rules.specs.Numbers as numbers
use Rattle.rules.specs.Numbers.{number}
use Rattle.solve.proofs.Determined.{one-result, outcome-in}
use Rattle.solve_confirm.specs.Theorems.{ConfirmDetermined, ConfirmNumbered}

pub confirm-determined : ConfirmDetermined
confirm-determined pool table set result work p q a b c d h k = one-result p q a b c d (h ∙ sym k)

pub confirm-numbered : ConfirmNumbered
unfolding number
confirm-numbered pool table set result work p a c h = outcome-in p.outcome p.rounds ∙ ap (λ (s : calls.Solution). numbers.refusalOf s.answer) h
