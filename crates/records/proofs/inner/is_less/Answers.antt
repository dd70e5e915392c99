-- `inner::is_less` meets its contract: by the case.
use mathlib.Core.Path.{sym, ap}
use Rattle.rules.specs.WellFormed.{is_lt}
use Rattle.names.specs.Told.{toldOrder}
use Rattle.std.specs.declared.cmp.Ordering.{Ordering}
use Rattle.records.proofs.inner.is_less.Goals as goal

pub returns-in-Less : goal.returns-in-Less
returns-in-Less c = sym (ap (λ (o : Ordering). is_lt (toldOrder o)) c.in-Less.is)

pub returns-in-Equal : goal.returns-in-Equal
returns-in-Equal c = sym (ap (λ (o : Ordering). is_lt (toldOrder o)) c.in-Equal.is)

pub returns-in-Greater : goal.returns-in-Greater
returns-in-Greater c = sym (ap (λ (o : Ordering). is_lt (toldOrder o)) c.in-Greater.is)
