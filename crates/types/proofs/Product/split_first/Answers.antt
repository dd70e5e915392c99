use Rattle.std.proofs.Common.{sym, ◌∙◌, arith}
use Rattle.types.proofs.Seen.{factor-there, rest_factors, factors-are, factor-near}
use Rattle.types.proofs.Product.split_first.Goals as goal

pub unreachable-requires : goal.unreachable-requires
unreachable-requires c = factor-there _ _ _ c.args.self.factors c.if-self-eq0.false c.view_at.ensures c.in_default.not-Factor

pub overflow_add-at : goal.overflow_add-at
overflow_add-at c = omega (arith, factor-near _ _ _ c.args.self.factors c.if-self-eq0.false c.args.self.near)

pub invariant_of-rest : goal.invariant_of-rest
invariant_of-rest c = record {
  near = c.args.self.near;
  within = omega (arith, factor-near _ _ _ c.args.self.factors c.if-self-eq0.false c.args.self.near);
  factors = rest_factors _ _ _ c.args.self.factors c.if-self-eq0.false;
}

pub returns : goal.returns
returns c = factors-are _ _ _ c.args.self.factors c.if-self-eq0.false (sym c.view_at.ensures ∙ c.in-Factor.is) (_, search)
