use Rattle.std.proofs.Common.{refl}
use Rattle.rules.specs.Base.{any}
use Rattle.types.specs.Shapes.{tree_of}
use Rattle.replace.proofs.Touches.{changed}
use Rattle.replace.proofs.substitution.Substitution.replaces.Goals as goal

pub returns-in-Free : goal.returns-in-Free
unfolding any
returns-in-Free c e = rw c.in-Free.is (changed c.args.self.lent.0 tree_of c.look_up.result c.look_up.ensures c.is_some.ensures)

pub returns-in-Base : goal.returns-in-Base
unfolding any
returns-in-Base c e = rw c.in-Base.is refl
