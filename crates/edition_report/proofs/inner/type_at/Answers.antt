-- A place holds one type.
use Rattle.records.specs.Parsed.{only}
use Rattle.edition_report.proofs.inner.type_at.Goals as goal

pub returns : goal.returns
returns c = λ t h. only _ _ t _ (search) h
