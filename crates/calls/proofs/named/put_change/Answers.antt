use mathlib.Core.Path.{refl}
use native.Mathlib.Omega.{arith}
use borrow.Author.Tests.{eq-eqb, ne_eqb}
use Rattle.std.proofs.Common.{add-one}
use Rattle.calls.proofs.named.put_change.Goals as goal

pub returns-then-before-after : goal.returns-then-before-after
returns-then-before-after c = rw (eq-eqb _ _ c.if-before-after.true) (record { written = refl; past = omega arith })

pub returns : goal.returns
returns c =
    rw (ne_eqb _ _ c.if-before-after.false) (record { written = rw (c.put-2.ensures, c.put.ensures, add-one c.args.next) refl; past = refl })
