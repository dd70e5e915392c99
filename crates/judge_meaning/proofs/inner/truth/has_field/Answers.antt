use Rattle.judge_meaning.proofs.Truths.{no-struct, field-met, no-field}
use Rattle.judge_meaning.proofs.inner.truth.has_field.Goals as goal

pub returns-in_default : goal.returns-in_default
returns-in_default c = λ bounds names xs small m. no-struct names xs _ _ _ _ c.in_default.not-Struct c.shape.ensures

pub returns-in-Some : goal.returns-in-Some
returns-in-Some c = λ bounds names xs small m. field-met names xs _ _ _ c.in-Struct.ensures (c.in-Some.ensures names) (c.means.ensures names)

pub returns-in-None : goal.returns-in-None
returns-in-None c = λ bounds names xs small m. no-field names xs _ _ _ c.in-Struct.ensures (c.in-None.ensures names)
