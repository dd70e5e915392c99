use Rattle.text_laws.proofs.Promise.{refused-line}
use Rattle.text_laws.proofs.refused_line_is_first.Goals as goal

pub returns : goal.returns
returns c = refused-line
