use Rattle.std.proofs.Common.{sym, ◌∙◌, arith}
use Rattle.types.proofs.Seen.{no-fields, field-there, field_tree, rest_fields, fields-are, field-near}
use Rattle.types.proofs.Fields.split_first.Goals as goal

pub returns-then-self-eq0 : goal.returns-then-self-eq0
returns-then-self-eq0 c = no-fields _ _ _ c.args.self.trees c.if-self-eq0.true

pub unreachable-requires : goal.unreachable-requires
unreachable-requires c = field-there _ _ _ c.args.self.trees c.if-self-eq0.false c.view_at.ensures c.in_default.not-Field

pub overflow_add-at : goal.overflow_add-at
overflow_add-at c = omega (arith, field-near _ _ _ c.args.self.trees c.if-self-eq0.false c.args.self.near)

pub invariant_of-first : goal.invariant_of-first
invariant_of-first c = record { near = c.args.self.near; tree = field_tree _ _ _ c.args.self.trees c.if-self-eq0.false }

pub invariant_of-rest : goal.invariant_of-rest
invariant_of-rest c = record { near = c.args.self.near; trees = rest_fields _ _ _ c.args.self.trees c.if-self-eq0.false (_, search) c.end-at.ensures }

pub returns : goal.returns
returns c = fields-are _ _ _ c.args.self.trees c.if-self-eq0.false
    (sym c.view_at.ensures ∙ c.in-Field.is) (_, search) c.end-at.ensures (_, search) (_, search)
