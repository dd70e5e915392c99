use Rattle.text_laws.proofs.Promise.{refused-unchanged}
use Rattle.text_laws.proofs.refused_changes_nothing.Goals as goal

pub returns : goal.returns
returns c = refused-unchanged
