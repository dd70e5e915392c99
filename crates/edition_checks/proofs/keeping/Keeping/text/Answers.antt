use Rattle.edition_checks.proofs.LinesKept.{text-read}
use Rattle.edition_checks.proofs.keeping.Keeping.text.Goals as goal

pub returns-clause-read : goal.returns-clause-read
returns-clause-read c = text-read _ _ _ c.deref.ensures.value c.args.self.now.writable c.certificate_text.ensures
