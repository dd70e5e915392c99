-- `changes` meets its contract.
use Rattle.std.proofs.Common.{ap, sym, ◌∙◌}
use Rattle.rules.specs.Base.{any}
use Rattle.queries.specs.Scans.{toldOpens}
use Rattle.replace.specs.Leaves.{replaced}
use Rattle.replace.proofs.Touches.{changed}
use Rattle.replace.proofs.Unsaid.{stay}
use Rattle.types.specs.Shapes.{tree_of}
use Rattle.replace.proofs.substitution.Substitution.changes.Goals as goal

pub returns-then-is_unsaid : goal.returns-then-is_unsaid
returns-then-is_unsaid c =
    let s = c.args.self in
    stay s.places.now s.types.now s.lent.0 s.lent.1.tabled c.number_at.result (sym c.is_unsaid.ensures ∙ c.if-is_unsaid.true) _ c.number_at.ensures

pub returns-in-Some : goal.returns-in-Some
unfolding any
returns-in-Some c =
    let look = c.args.self.lent.0 in
    changed look tree_of c.look_up.result c.look_up.ensures c.is_some.ensures ∙ ap (any (replaced look)) (sym (ap toldOpens c.in-Some.is) ∙ c.opens_at.ensures)

pub returns-in-None : goal.returns-in-None
unfolding any
returns-in-None c = ap (any (replaced c.args.self.lent.0)) (sym (ap toldOpens c.in-None.is) ∙ c.opens_at.ensures)
