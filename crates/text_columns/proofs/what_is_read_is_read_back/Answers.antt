use Rattle.laws.proofs.NameTable.{given-good, good-given}
use Rattle.text_columns.proofs.Left.{read-back, read-few, read-keeps-good}
use Rattle.text_columns.proofs.Sound.{read-sound}
use Rattle.text_columns.proofs.what_is_read_is_read_back.Goals as goal

pub returns : goal.returns
returns c = λ pool table text cs s e. record {
  back = read-back pool table text e;
  few = read-few pool table text e;
  tables = λ g. let x = read-keeps-good pool table text (given-good g) e in (good-given x.0, x.1);
  sound = λ g. read-sound pool table text (given-good g) e;
}
