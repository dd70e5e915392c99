-- The first type and the rest are the list.
use Rattle.types.proofs.Seen.{none-are, first_tree, rest_trees, both-are}
use Rattle.types.proofs.Types.split_first.Goals as goal

pub returns-then-self-eq0 : goal.returns-then-self-eq0
returns-then-self-eq0 c = none-are _ _ _ c.args.self.trees c.if-self-eq0.true

pub invariant_of-first : goal.invariant_of-first
invariant_of-first c = record { near = c.args.self.near; tree = first_tree _ _ _ c.args.self.trees c.if-self-eq0.false }

pub invariant_of-rest : goal.invariant_of-rest
invariant_of-rest c = record {
  near = c.args.self.near;
  trees = rest_trees _ _ _ _ c.args.self.trees c.if-self-eq0.false (_, search) c.end-at.ensures;
}

pub returns : goal.returns
returns c = both-are _ _ _ _ c.args.self.trees c.if-self-eq0.false (_, search) c.end-at.ensures (_, search) (_, search)
