use Rattle.text_columns.proofs.Told.{refused-in}
use Rattle.text_columns.proofs.refusals_stay_in_the_line.Goals as goal

pub returns : goal.returns
returns c = refused-in
