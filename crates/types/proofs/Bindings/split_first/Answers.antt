-- The first binding and the rest are the list.
use Rattle.std.proofs.Common.{sym, ◌∙◌, arith}
use Rattle.types.proofs.Bound.{no-binds, binding-there, binding-near, bound-tree, binds-behind, binds-are}
use Rattle.types.proofs.Bindings.split_first.Goals as goal

pub returns-then-self : goal.returns-then-self
returns-then-self c = no-binds _ _ _ c.args.self.trees c.if-self.true

pub unreachable-requires : goal.unreachable-requires
unreachable-requires c = binding-there _ _ _ c.args.self.trees c.if-self.false c.view_at.ensures c.in_default.not-Binding

pub overflow_add-at : goal.overflow_add-at
overflow_add-at c = omega (arith, binding-near _ _ _ c.args.self.trees c.if-self.false c.args.self.near)

pub invariant_of-to : goal.invariant_of-to
invariant_of-to c = record { near = c.args.self.near; tree = bound-tree _ _ _ c.args.self.trees c.if-self.false }

pub invariant_of-rest : goal.invariant_of-rest
invariant_of-rest c = record { near = c.args.self.near; trees = binds-behind _ _ _ c.args.self.trees c.if-self.false (_, search) c.end-at.ensures }

pub returns : goal.returns
returns c = binds-are _ _ _ c.args.self.trees c.if-self.false
    (sym c.view_at.ensures ∙ c.in-Binding.is) (_, search) c.end-at.ensures (_, search) (_, search)
