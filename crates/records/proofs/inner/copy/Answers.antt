-- `copy` meets its contract.
use mathlib.Core.Path.{sym, ap, ◌∙◌}
use Prim.Native.Nat.{◌*◌}
use lib.Seq.{sets}
use Rattle.laws.proofs.Entering.{drop-take}
use Rattle.records.proofs.inner.copy.Goals as goal

pub returns : goal.returns
returns c =
    let a = c.args in
    c.put_all.ensures ∙ ap (sets a.dst.now (a.out * 4)) (sym (drop-take (a.b * 4) (a.e * 4) a.v.now))
