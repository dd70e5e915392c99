use Rattle.rules.specs.Reading.{readCon}
use Rattle.rules.specs.Writing.{writeCon}
use Rattle.laws.proofs.Written.{factors-read, ty-read}
use Rattle.laws.proofs.ReadLists.{con-read, binding-read, bound-read, all_read, taken}
use Rattle.laws.proofs.read_is_what_stands.Goals as goal

pub returns : goal.returns
returns c = record {
  factors = factors-read;
  types = ty-read;
  constraints = con-read;
  bindings = binding-read;
  bounds = bound-read;
  sets = all_read writeCon readCon con-read;
  in-words = λ ws rs h e. (taken ws h).back rs e;
}
