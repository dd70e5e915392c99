use Rattle.std.proofs.Common.{◌≡◌}
use Rattle.rules.specs.Base.{any}
use Rattle.queries.specs.Scans.{opensIn}
use Rattle.replace.specs.Leaves.{replaced}
use Rattle.replace.proofs.substitution.Substitution.touches.Given as goal

abbrev pub invariant-loop-i : goal.invariant-loop-i
invariant-loop-i l = any (replaced l.self.lent.0) (opensIn l.s l.i l.e) ≡ any (replaced l.self.lent.0) (opensIn l.s l.b l.e)
