use Rattle.laws.proofs.Nesting.{ty-deep, step-within, split-counted, done-counted, bound-counted}
use Rattle.laws.proofs.only_binding_deepens.Goals as goal

pub returns : goal.returns
returns g c = λ ν l. (
  λ look k low t u e. (ty-deep ν l look k low t).holds u e,
  step-within ν l,
  λ s h. record { parted = split-counted ν l s h; dropped = done-counted ν l s h; bound = bound-counted ν l s h },
)
