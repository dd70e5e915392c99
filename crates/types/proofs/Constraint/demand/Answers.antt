use Rattle.std.proofs.Common.{sym, ◌∙◌, arith, ap}
use Rattle.rules.specs.Trees.{isDim}
use Rattle.records.specs.Parsed.{only}
use Rattle.types.proofs.Asked.{con-near, asked-as, asks-some, right-side, both-sides, scalar-is, scalar-some}
use Rattle.types.proofs.Constraint.demand.Goals as goal

pub overflow_add-at : goal.overflow_add-at
overflow_add-at c = omega (arith, con-near _ _ c.args.self.tree c.args.self.near)

pub overflow_add-at-in-IsDim : goal.overflow_add-at-in-IsDim
overflow_add-at-in-IsDim c = omega (arith, con-near _ _ c.args.self.tree c.args.self.near)

pub overflow_add-at-in-IsScalar : goal.overflow_add-at-in-IsScalar
overflow_add-at-in-IsScalar c = omega (arith, con-near _ _ c.args.self.tree c.args.self.near)

pub overflow_add-at-in-HasField : goal.overflow_add-at-in-HasField
overflow_add-at-in-HasField c = omega (arith, con-near _ _ c.args.self.tree c.args.self.near)

pub invariant_of-left : goal.invariant_of-left
invariant_of-left c = record { near = c.args.self.near; tree = (asked-as _ _ c.args.self.tree (sym c.view_at.ensures ∙ c.in-Equal.is)).0 }

pub invariant_of-result : goal.invariant_of-result
invariant_of-result c = record {
  near = c.args.self.near;
  tree = right-side _ _ _ _ (asked-as _ _ c.args.self.tree (sym c.view_at.ensures ∙ c.in-Equal.is)) (_, search) c.end-at.ensures;
}

pub invariant_of-result-in-IsDim : goal.invariant_of-result-in-IsDim
invariant_of-result-in-IsDim c = record { near = c.args.self.near; tree = (asked-as _ _ c.args.self.tree (sym c.view_at.ensures ∙ c.in-IsDim.is)).0 }

pub invariant_of-dimension : goal.invariant_of-dimension
invariant_of-dimension c = record { near = c.args.self.near; tree = (asked-as _ _ c.args.self.tree (sym c.view_at.ensures ∙ c.in-IsScalar.is)).0 }

pub invariant_of-of : goal.invariant_of-of
invariant_of-of c = record { near = c.args.self.near; tree = (asked-as _ _ c.args.self.tree (sym c.view_at.ensures ∙ c.in-HasField.is)).0 }

pub invariant_of-result-in-HasField : goal.invariant_of-result-in-HasField
invariant_of-result-in-HasField c =
    record {
      near = c.args.self.near;
      tree = right-side _ _ _ _
          (asked-as _ _ c.args.self.tree (sym c.view_at.ensures ∙ c.in-HasField.is)) (_, search) c.end-at-in-HasField.ensures;
    }

pub unreachable-requires-in_default : goal.unreachable-requires-in_default
unreachable-requires-in_default c = let d = c.in_default in
    asks-some _ _ c.args.self.tree _ c.view_at.ensures d.not-Equal d.not-IsDim d.not-IsScalar d.not-HasField

pub unreachable-requires : goal.unreachable-requires
unreachable-requires c = scalar-some _ _ _ (asked-as _ _ c.args.self.tree (sym c.view_at.ensures ∙ c.in-IsScalar.is)) (_, search) _
    c.shape.ensures c.in_default-shape.not-Dimension

pub returns-in-Equal : goal.returns-in-Equal
returns-in-Equal c = both-sides _ _ _ _ (asked-as _ _ c.args.self.tree (sym c.view_at.ensures ∙ c.in-Equal.is)) (_, search) c.end-at.ensures
    (_, search) (_, search)

pub returns-in-IsDim : goal.returns-in-IsDim
returns-in-IsDim c = let x = asked-as _ _ c.args.self.tree (sym c.view_at.ensures ∙ c.in-IsDim.is) in
    ap isDim (only _ _ _ _ (search) x.0.1) ∙ sym x.1

pub returns-in-Dimension : goal.returns-in-Dimension
returns-in-Dimension c = scalar-is _ _ _ (asked-as _ _ c.args.self.tree (sym c.view_at.ensures ∙ c.in-IsScalar.is)) (_, search)
    c.in-Dimension.ensures

pub returns-in-HasField : goal.returns-in-HasField
returns-in-HasField c =
    let x = asked-as _ _ c.args.self.tree (sym c.view_at.ensures ∙ c.in-HasField.is) in
    both-sides _ _ _ _ x (_, search) c.end-at-in-HasField.ensures (_, search) (_, search)
