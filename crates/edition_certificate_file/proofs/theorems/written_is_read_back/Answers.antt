use Rattle.edition_certificate_file.proofs.Indented.{lines-indented}
use Rattle.edition_certificate_file.proofs.OneLine.{written-on-line}
use Rattle.edition_certificate_file.proofs.ReadBack.{read-back, one-list, named-twice}
use Rattle.edition_certificate_file.proofs.theorems.written_is_read_back.Goals as goal

pub returns : goal.returns
returns c = record { back = read-back; one-list = one-list; names = written-on-line; lines = lines-indented; twice = named-twice }
