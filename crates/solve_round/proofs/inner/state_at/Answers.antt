use Rattle.std.proofs.Common.{refl}
use Rattle.solve_round.proofs.Performing.{stands-as}
use Rattle.solve_round.proofs.inner.state_at.Goals as goal

pub invariant_of-before : goal.invariant_of-before
invariant_of-before c = let (t, st, h) = c.requires.standing in record { near = c.requires.near; trees = (h.front.passed, h.front.there) }

pub invariant_of-behind : goal.invariant_of-behind
invariant_of-behind c = let (t, st, h) = c.requires.standing in record { near = c.requires.near; trees = (h.front.left, h.front.stay) }

pub invariant_of-bindings : goal.invariant_of-bindings
invariant_of-bindings c = let (t, st, h) = c.requires.standing in record { near = c.requires.near; trees = (st.binds, h.held.binds) }

pub returns : goal.returns
returns c = λ t st h. stands-as t c.args.state.now c.args.place st h _ refl refl refl refl refl refl refl refl refl
