-- `names::inner::digest` meets its contract. The invariant: what is left to take in gives the digest of all.
use mathlib.Core.Path.{sym, ap, ◌∙◌}
use native.Mathlib.Numerals.{add-one}
use native.Mathlib.Omega.{arith}
use lib.ListN.{drop_of_length-le}
use lib.Seq.{drop-cons}
use Rattle.names.specs.Digests.{digestFrom}
use Rattle.names.proofs.inner.digest.Goals as goal

pub loop-b-preserved : goal.loop-b-preserved
unfolding digestFrom
loop-b-preserved c =
    let name = c.args.name.now in (
      omega (arith, c.with_byte-d.ensures.1),
      rw (c.with_byte-d.ensures.0, add-one c.loop-b.b-index)
          (ap (digestFrom c.loop-b.d) (sym (drop-cons name c.loop-b.b-index 0 (omega arith))) ∙ c.loop-b.invariant.1),
    )

pub returns : goal.returns
unfolding digestFrom
returns c =
    let name = c.args.name.now in
    ap (digestFrom c.loop-b.d) (sym (drop_of_length-le name {i = c.loop-b.b-index} (omega arith))) ∙ c.loop-b.invariant.1
