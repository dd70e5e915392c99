use Rattle.theorems_lines.proofs.Promise.{lent-names, never-no, answered-if-it-runs}
use Rattle.theorems_lines.proofs.closed_lines_run.Goals as goal

pub returns : goal.returns
returns c = λ pool table steps types lines result work given ss read closed. record {
  lent-names = lent-names pool table steps types lines result work given ss read closed;
  never-no = never-no pool table steps types lines result work given ss read closed;
  answered-if-it-runs = λ names. answered-if-it-runs pool table steps types lines names result work given ss read closed;
}
