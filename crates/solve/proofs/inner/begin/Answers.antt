use Rattle.std.proofs.Common.{refl}
use Rattle.solve.proofs.Running.{begun-state}
use Rattle.solve.proofs.inner.begin.Goals as goal

pub returns : goal.returns
returns c = λ pool table cs h. begun-state _ _ _ _ _ _ cs h refl c.requires.room c.copy.ensures
