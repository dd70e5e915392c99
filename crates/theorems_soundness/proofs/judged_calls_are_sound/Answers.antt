use Rattle.theorems_soundness.proofs.Soundness.{judge-call-yes, judge-call-no}
use Rattle.theorems_soundness.proofs.judged_calls_are_sound.Goals as goal

pub returns : goal.returns
returns c = λ pool table set entries types bounds work. record {
  yes = judge-call-yes pool table set entries types bounds work;
  no = judge-call-no pool table set entries types bounds work;
}
