use Rattle.std.proofs.Common.{refl}
use Rattle.solve_round.proofs.Performing.{set-same}
use Rattle.solve_round.proofs.inner.without.Goals as goal

pub invariant_of-before : goal.invariant_of-before
invariant_of-before c = let (before, behind, h) = c.requires in record { near = c.args.state.behind.near; trees = (before, h.passed) }

pub invariant_of-behind : goal.invariant_of-behind
invariant_of-behind c = let (before, behind, h) = c.requires in record { near = c.args.state.behind.near; trees = (behind, rw c.end.ensures h.stay) }

pub returns : goal.returns
returns c = λ before behind h. record {
  before = set-same _ _ _ _ h.passed _ (search);
  behind = set-same c.args.state.behind.words.now c.end.result c.args.state.behind.end behind (rw c.end.ensures h.stay) _ (search);
  bindings = refl;
}
