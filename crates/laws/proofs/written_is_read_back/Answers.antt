use Rattle.laws.proofs.Reading.{read-factors, read-ty}
use Rattle.laws.proofs.ReadLists.{read-con, read-binding, read-bound, read_set, words_back, one_set}
use Rattle.laws.proofs.written_is_read_back.Goals as goal

pub returns : goal.returns
returns c = record {
  factors = read-factors;
  types = read-ty;
  constraints = λ k rest w. read-con k rest w.0 w.1;
  bindings = read-binding;
  bounds = read-bound;
  sets = read_set;
  in-words = words_back;
  one-set = one_set;
}
