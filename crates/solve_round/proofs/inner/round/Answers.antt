use Rattle.std.proofs.Common.{rules}
use Rattle.solve_round.proofs.Performing.{rounded-over}
use Rattle.solve_round.proofs.inner.round.Goals as goal

pub state_at-held-requires-clause-standing : goal.state_at-held-requires-clause-standing
state_at-held-requires-clause-standing c = let (st, h) = c.requires.standing in (c.args.names, st, h)

pub turn-requires-clause-sound : goal.turn-requires-clause-sound
turn-requires-clause-sound c = let (st, h) = c.requires.standing in (c.state_at-held.ensures c.args.names st h).sound

pub returns : goal.returns
returns c = λ st h. rounded-over c.args.names _ (c.state_at-held.ensures c.args.names st h) c.turn.ensures.rounded (search rules)
