use Rattle.text_laws.proofs.Promise.{back-again}
use Rattle.text_laws.proofs.written_and_read_back.Goals as goal

pub returns : goal.returns
returns c = back-again
