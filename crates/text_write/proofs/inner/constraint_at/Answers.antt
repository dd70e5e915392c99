-- A place holds one constraint.
use Rattle.records.specs.Parsed.{only-con}
use Rattle.text_write.proofs.inner.constraint_at.Goals as goal

pub returns : goal.returns
returns c = λ d h. only-con _ _ d _ (search) h
