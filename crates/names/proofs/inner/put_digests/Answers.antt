-- `names::inner::put_digests` meets its contract. The invariant: the digests of the first k names stand there.
use mathlib.Core.Path.{◌≡◌, refl, ◌∙◌}
use native.Mathlib.Omega.{arith}
use lib.ListN.{get_or, length-set}
use Rattle.names.proofs.Digests.{digests-none, digests-more}
use Rattle.names.proofs.inner.put_digests.Goals as goal

pub loop-k-init : goal.loop-k-init
loop-k-init c = (refl, digests-none c.requires.room)

pub loop-k-preserved : goal.loop-k-preserved
loop-k-preserved c = (
  length-set c.loop-k.digests c.loop-k.k c.digest.result ∙ c.loop-k.invariant.0,
  digests-more c.digest.result (omega (arith, c.requires.laid.few)) (rw c.name_at.ensures.bytes at c.digest.ensures) c.loop-k.invariant.1,
)

pub returns : goal.returns
returns c =
    let e : c.loop-k.k ≡ get_or c.args.table.now 0 0 = omega arith in
    rw (← e) c.loop-k.invariant.1
