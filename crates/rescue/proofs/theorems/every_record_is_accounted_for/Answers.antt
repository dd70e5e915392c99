use Rattle.rescue.proofs.Promise.{every-record, all-counted, named}
use Rattle.rescue.proofs.theorems.every_record_is_accounted_for.Goals as goal

pub returns : goal.returns
returns c = λ pool table file b. record { every-record = every-record pool table file b; all-counted = all-counted pool table file b; named = named }
