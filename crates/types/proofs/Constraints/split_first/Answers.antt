-- The first constraint and the rest are the set.
use Rattle.types.proofs.OnSets.{none-left, con-here, cons-behind, cons-are}
use Rattle.types.proofs.Constraints.split_first.Goals as goal

pub returns-then-self : goal.returns-then-self
returns-then-self c = none-left _ _ _ c.args.self.trees c.if-self.true

pub invariant_of-first : goal.invariant_of-first
invariant_of-first c = record { near = c.args.self.near; tree = con-here _ _ _ c.args.self.trees c.if-self.false }

pub invariant_of-rest : goal.invariant_of-rest
invariant_of-rest c = record {
  near = c.args.self.near;
  trees = cons-behind _ _ _ c.args.self.trees c.if-self.false (_, search) c.end-at.ensures;
}

pub returns : goal.returns
returns c = cons-are _ _ _ c.args.self.trees c.if-self.false (_, search) c.end-at.ensures (_, search) (_, search)
