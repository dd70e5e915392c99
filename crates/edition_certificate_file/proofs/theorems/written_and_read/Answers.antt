use Rattle.std.proofs.Common.{rules}
use Rattle.edition_certificate_file.proofs.ReadBack.{read-back}
use Rattle.edition_certificate_file.proofs.ReadWritable.{read-only-writable}
use Rattle.edition_certificate_file.proofs.theorems.written_and_read.Goals as goal

pub returns-clause-back : goal.returns-clause-back
returns-clause-back c = search (rules, read-back)

pub returns-clause-only : goal.returns-clause-only
returns-clause-only c = read-only-writable _ _ _ c.read_certificate.ensures.answer
