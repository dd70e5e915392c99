-- Each arm names the parts that stand behind the first record.
use Rattle.std.proofs.Common.{sym, ◌∙◌, arith}
use Rattle.types.proofs.Seen.{
  near-next,
  seen-as,
  no-other,
  factors-of,
  dim-is,
  element-of,
  list-is,
  parameters-of,
  return-of,
  function-is,
  arguments-of,
  fields-of,
  struct-is,
}
use Rattle.types.proofs.Type.shape.Goals as goal

pub overflow_add-at : goal.overflow_add-at
overflow_add-at c = omega (arith, near-next _ _ c.args.self.tree c.args.self.near)

pub overflow_add-at-in-Function : goal.overflow_add-at-in-Function
overflow_add-at-in-Function c = omega (arith, near-next _ _ c.args.self.tree c.args.self.near)

pub overflow_add-at-in-Struct : goal.overflow_add-at-in-Struct
overflow_add-at-in-Struct c = omega (arith, near-next _ _ c.args.self.tree c.args.self.near)

pub overflow_add-at-in-List : goal.overflow_add-at-in-List
overflow_add-at-in-List c = omega (arith, near-next _ _ c.args.self.tree c.args.self.near)

pub invariant_of-result : goal.invariant_of-result
invariant_of-result c = record {
  near = c.args.self.near;
  within = omega (arith, near-next _ _ c.args.self.tree c.args.self.near);
  factors = factors-of _ _ c.args.self.tree (sym c.view_at.ensures ∙ c.in-Dim.is);
}

pub invariant_of-parameters : goal.invariant_of-parameters
invariant_of-parameters c = record { near = c.args.self.near; trees = parameters-of _ _ c.args.self.tree (sym c.view_at.ensures ∙ c.in-Function.is) }

pub invariant_of-result-in-Function : goal.invariant_of-result-in-Function
invariant_of-result-in-Function c = record {
  near = c.args.self.near;
  tree = return-of _ _ c.args.self.tree (sym c.view_at.ensures ∙ c.in-Function.is) (_, search) c.end-at.ensures;
}

pub invariant_of-arguments : goal.invariant_of-arguments
invariant_of-arguments c = record { near = c.args.self.near; trees = arguments-of _ _ c.args.self.tree (sym c.view_at.ensures ∙ c.in-Struct.is) }

pub invariant_of-fields : goal.invariant_of-fields
invariant_of-fields c = record {
  near = c.args.self.near;
  trees = fields-of _ _ c.args.self.tree (sym c.view_at.ensures ∙ c.in-Struct.is) (_, search) c.end-at-in-Struct.ensures;
}

pub invariant_of-result-in-List : goal.invariant_of-result-in-List
invariant_of-result-in-List c = record { near = c.args.self.near; tree = element-of _ _ c.args.self.tree (sym c.view_at.ensures ∙ c.in-List.is) }

pub unreachable-requires : goal.unreachable-requires
unreachable-requires c = let d = c.in_default in no-other _ _ c.args.self.tree _
    c.view_at.ensures d.not-Opened d.not-Basic d.not-Dim d.not-Function d.not-Struct d.not-List

pub returns-in-Opened : goal.returns-in-Opened
returns-in-Opened c = sym (seen-as _ _ c.args.self.tree (sym c.view_at.ensures ∙ c.in-Opened.is))

pub returns-in-Basic : goal.returns-in-Basic
returns-in-Basic c = sym (seen-as _ _ c.args.self.tree (sym c.view_at.ensures ∙ c.in-Basic.is))

pub returns-in-Dim : goal.returns-in-Dim
returns-in-Dim c = dim-is _ _ c.args.self.tree (sym c.view_at.ensures ∙ c.in-Dim.is) (_, search)

pub returns-in-Function : goal.returns-in-Function
returns-in-Function c = function-is _ _ c.args.self.tree
    (sym c.view_at.ensures ∙ c.in-Function.is) (_, search) c.end-at.ensures (_, search) (_, search)

pub returns-in-Struct : goal.returns-in-Struct
returns-in-Struct c = struct-is _ _ c.args.self.tree
    (sym c.view_at.ensures ∙ c.in-Struct.is) (_, search) c.end-at-in-Struct.ensures (_, search)
    (_, search)

pub returns-in-List : goal.returns-in-List
returns-in-List c = list-is _ _ c.args.self.tree (sym c.view_at.ensures ∙ c.in-List.is) (_, search)
