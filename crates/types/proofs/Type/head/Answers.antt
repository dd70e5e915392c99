-- Each arm names the row that stands behind the first record.
use Rattle.std.proofs.Common.{sym, ◌∙◌, arith}
use Rattle.types.proofs.Heads.{row-of, row-small, function-begins, struct-begins}
use Rattle.types.proofs.Seen.{near-next, seen-as, no-other, factors-of, dim-is, element-of, list-is, arguments-of}
use Rattle.types.proofs.Type.head.Goals as goal

pub overflow_add-at : goal.overflow_add-at
overflow_add-at c = omega (arith, near-next _ _ c.args.self.tree c.args.self.near)

pub invariant_of-result : goal.invariant_of-result
invariant_of-result c = record {
  near = c.args.self.near;
  within = omega (arith, near-next _ _ c.args.self.tree c.args.self.near);
  factors = factors-of _ _ c.args.self.tree (sym c.view_at.ensures ∙ c.in-Dim.is);
}

pub overflow_add-count : goal.overflow_add-count
overflow_add-count c = omega (arith, row-small _ _ c.args.self.tree (sym c.view_at.ensures ∙ c.in-Function.is) c.args.self.near)

pub invariant_of-result-in-Function : goal.invariant_of-result-in-Function
invariant_of-result-in-Function c = record { near = c.args.self.near; trees = row-of _ _ c.args.self.tree (sym c.view_at.ensures ∙ c.in-Function.is) }

pub invariant_of-result-in-Struct : goal.invariant_of-result-in-Struct
invariant_of-result-in-Struct c = record { near = c.args.self.near; trees = arguments-of _ _ c.args.self.tree (sym c.view_at.ensures ∙ c.in-Struct.is) }

pub invariant_of-result-in-List : goal.invariant_of-result-in-List
invariant_of-result-in-List c = record { near = c.args.self.near; tree = element-of _ _ c.args.self.tree (sym c.view_at.ensures ∙ c.in-List.is) }

pub unreachable-requires : goal.unreachable-requires
unreachable-requires c = let d = c.in_default in no-other _ _ c.args.self.tree _
    c.view_at.ensures d.not-Opened d.not-Basic d.not-Dim d.not-Function d.not-Struct d.not-List

pub returns-in-Opened : goal.returns-in-Opened
returns-in-Opened c = sym (seen-as _ _ c.args.self.tree (sym c.view_at.ensures ∙ c.in-Opened.is))

pub returns-in-Basic : goal.returns-in-Basic
returns-in-Basic c = sym (seen-as _ _ c.args.self.tree (sym c.view_at.ensures ∙ c.in-Basic.is))

pub returns-in-Dim : goal.returns-in-Dim
returns-in-Dim c = dim-is _ _ c.args.self.tree (sym c.view_at.ensures ∙ c.in-Dim.is) (_, search)

pub returns-in-Function : goal.returns-in-Function
returns-in-Function c = function-begins _ _ c.args.self.tree (sym c.view_at.ensures ∙ c.in-Function.is) (_, search)

pub returns-in-Struct : goal.returns-in-Struct
returns-in-Struct c = struct-begins _ _ c.args.self.tree (sym c.view_at.ensures ∙ c.in-Struct.is) (_, search)

pub returns-in-List : goal.returns-in-List
returns-in-List c = list-is _ _ c.args.self.tree (sym c.view_at.ensures ∙ c.in-List.is) (_, search)
