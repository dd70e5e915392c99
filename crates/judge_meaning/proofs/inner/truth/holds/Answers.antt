use Rattle.judge_meaning.proofs.Truths.{equal-told, scalar-told}
use Rattle.judge_meaning.proofs.inner.truth.holds.Goals as goal

pub returns-in-Equal : goal.returns-in-Equal
returns-in-Equal c = λ names xs small m. equal-told names xs c.in-Equal.ensures (c.means.ensures names)

pub returns-in-IsScalar : goal.returns-in-IsScalar
returns-in-IsScalar c = λ names xs small m. let p = c.in-IsScalar.product in scalar-told names xs c.in-IsScalar.ensures p.factors.1.many
