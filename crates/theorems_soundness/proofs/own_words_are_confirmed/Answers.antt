use Rattle.theorems_soundness.proofs.Soundness.{solve-call, own-proposed, own-words}
use Rattle.theorems_soundness.proofs.own_words_are_confirmed.Goals as goal

pub returns : goal.returns
returns c = λ pool table set result work records bounds rounds accepts. (
  solve-call pool table set result work records bounds rounds accepts,
  record {
    proposed = own-proposed pool table set result work records bounds rounds accepts;
    confirmed = own-words pool table set result work records bounds rounds accepts;
  },
)
