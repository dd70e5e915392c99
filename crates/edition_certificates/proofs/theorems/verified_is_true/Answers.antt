use Rattle.edition_certificates.proofs.Truth.{verified-true}
use Rattle.edition_certificates.proofs.theorems.verified_is_true.Goals as goal

pub returns : goal.returns
returns c = λ pool table set certificate w. verified-true pool table set certificate w
