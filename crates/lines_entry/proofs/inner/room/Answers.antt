-- `inner::room` meets its contract.
use mathlib.Core.Path.{sym, ap, ◌∙◌}
use mathlib.Core.Bool.{Bool}
use Rattle.rules.specs.Base.{need}
use Rattle.lines_entry.proofs.Entry.{room-no, room-more, room-less, room-same}
use Rattle.lines_entry.proofs.inner.room.Goals as goal

pub returns-then-not-lent : goal.returns-then-not-lent
returns-then-not-lent c = room-no _ _ _ _ _ _ (ap (λ (b : Bool). need b 10) (sym c.if-not-lent.true) ∙ c.lent.ensures)

pub returns-then-n-names : goal.returns-then-n-names
returns-then-n-names c = room-more _ _ _ _ _ _ (ap (λ (b : Bool). need b 10) (sym c.if-not-lent.false) ∙ c.lent.ensures) c.if-n-names.true

pub returns-then-names-n : goal.returns-then-names-n
returns-then-names-n c = room-less _ _ _ _ _ _ (ap (λ (b : Bool). need b 10) (sym c.if-not-lent.false) ∙ c.lent.ensures) c.if-names-n.true

pub returns : goal.returns
returns c = room-same _ _ _ _ _ _ (ap (λ (b : Bool). need b 10) (sym c.if-not-lent.false) ∙ c.lent.ensures) c.if-n-names.false c.if-names-n.false
