use Rattle.text_columns.proofs.Left.{refused-within}
use Rattle.text_columns.proofs.refusals_stay_in_the_text.Goals as goal

pub returns : goal.returns
returns c = λ pool table text n l q e. refused-within pool table text e
