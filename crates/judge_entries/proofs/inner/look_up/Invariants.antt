-- What is left from an entry on decides.
use Rattle.std.proofs.Common.{◌≡◌, drop}
use Rattle.judge_entries.proofs.Turns.{lookUp}
use Rattle.judge_entries.proofs.inner.look_up.Given as goal

abbrev pub invariant-loop-e : goal.invariant-loop-e
invariant-loop-e l = lookUp (drop l.e-index l.entries) l.v ≡ lookUp l.entries l.v
