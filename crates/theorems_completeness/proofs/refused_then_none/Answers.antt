use Rattle.theorems_completeness.proofs.Completeness.{refused-then-none}
use Rattle.theorems_completeness.proofs.refused_then_none.Goals as goal

pub returns : goal.returns
returns c = λ pool table set result work cs read dims records rounds e. refused-then-none pool table set result work cs read dims records rounds e
