-- `inner::read_line` meets its contract.
use mathlib.Core.Path.{refl}
use Rattle.std.proofs.Common.{arith, rules}
use Rattle.text_names.proofs.Effects.{ready_on, roomy, not-past}
use Rattle.text_names.proofs.Inside.{inside-column}
use Rattle.text_lines.proofs.Answers.{answered-by}
use Rattle.text_lines.proofs.inner.read_line.Goals as goal

pub enter_signs-stated-requires : goal.enter_signs-stated-requires
enter_signs-stated-requires c =
    ready_on inside-column c.next_sign-at.ensures
    (record { within = omega arith; good = c.requires.good; room = roomy c.requires.room; halted = not-past })

pub returns : goal.returns
returns c =
    rw c.answer.ensures
    (answered-by c.next_sign-at.ensures refl _ _ _ c.enter_signs-stated.ensures.done (search rules) (search rules) (search rules))
