use Rattle.edition_certificate_file.proofs.ReadWritable.{read-written}
use Rattle.edition_certificate_file.proofs.theorems.only_written_is_read.Goals as goal

pub returns : goal.returns
returns c = read-written
