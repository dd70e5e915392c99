use Rattle.std.proofs.Common.{ap, arith, sym, ◌∙◌}
use Rattle.rules.specs.Views.{productOf}
use Rattle.types.proofs.Seen.{near-next, factors-of, dim-is, no-dimension}
use Rattle.types.proofs.Type.dimension.Goals as goal

pub overflow_add-at : goal.overflow_add-at
overflow_add-at c = omega (arith, near-next _ _ c.args.self.tree c.args.self.near)

pub invariant_of-result : goal.invariant_of-result
invariant_of-result c = record {
  near = c.args.self.near;
  within = omega (arith, near-next _ _ c.args.self.tree c.args.self.near);
  factors = factors-of _ _ c.args.self.tree (sym c.view_at.ensures ∙ c.in-Dim.is);
}

pub returns-in-Dim : goal.returns-in-Dim
returns-in-Dim c = ap productOf (dim-is _ _ c.args.self.tree (sym c.view_at.ensures ∙ c.in-Dim.is) (_, search))

pub returns-in_default : goal.returns-in_default
returns-in_default c = no-dimension _ _ c.args.self.tree (λ n e. c.in_default.not-Dim n (c.view_at.ensures ∙ e))
